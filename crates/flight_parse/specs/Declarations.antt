-- Declarations as plain data.
use Rattle.std.specs.Prelude.{map}
use Rattle.flight_syntax.specs.Tree as tree
use Rattle.flight_parse.specs.declared.declaration.Declaration.{Declaration}
use Rattle.flight_parse.specs.declared.declaration.Declaration.TheVariants as code
use Rattle.flight_parse.specs.Code.{placed, tree_of}
use Rattle.flight_parse.specs.Values.{json_of}

-- a declaration as plain data
abbrev pub declaration_of : Declaration → tree.Declaration
declaration_of (code.Server name params body) = tree.server (placed name) (map placed params) (tree_of body)
declaration_of (code.Client name import) = tree.client_is (placed name) (json_of import)
declaration_of (code.Action name params body) = tree.action_is (placed name) (map placed params) (tree_of body)
