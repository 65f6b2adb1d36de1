-- The sources and the streams that a program names.
use Rattle.std.specs.Prelude.{ℕ, List, [], ◌∷◌, ◌++◌, map}
use Rattle.std.specs.List.{flat_map}
use Rattle.flight_syntax.specs.declared.program.Declared.{Declared}
use Rattle.flight_syntax.specs.declared.program.Declared.TheVariants.{Server, Client, Action}
use Rattle.flight_syntax.specs.Term as term
use Rattle.flight_syntax.specs.Term.{Term, Terms, Props, Pairs, Post}
use Rattle.flight_script.specs.declared.fault.ScriptFault.TheVariants.{UnknownSource}
use Rattle.flight_script.specs.Json.{is_among}
use Rattle.flight_script.specs.Tests.{Test, holds}

-- a name behind `use` or `promise`, or one behind `stream`
pub data Named : Type 0 where
  source_named : (name : List ℕ) → Named
  stream_named : (name : List ℕ) → Named

-- the names in an expression, in order of its text
abbrev mutual
  pub names_in : Term → List Named
  names_in (term.let_in name value rest) = names_in value ++ names_in rest
  names_in (term.if_else test yes_one other) = names_in test ++ (names_in yes_one ++ names_in other)
  names_in (term.for_in name over give) = names_in over ++ names_in give
  names_in (term.throw value) = names_in value
  names_in (term.member of name) = names_in of
  names_in (term.index of at) = names_in of ++ names_in at
  names_in (term.atom value) = []
  names_in (term.variable number) = []
  names_in (term.client number) = []
  names_in (term.array items) = names_in_terms items
  names_in (term.object props) = names_in_props props
  names_in (term.map pairs) = names_in_pairs pairs
  names_in (term.set items) = names_in_terms items
  names_in (term.source name) = source_named name ∷ []
  names_in (term.promise name) = source_named name ∷ []
  names_in (term.stream name) = stream_named name ∷ []
  names_in (term.action number) = []
  names_in (term.action_with number bound) = names_in_terms bound
  names_in (term.paren inside) = names_in inside
  names_in (term.binary op left right) = names_in left ++ names_in right
  names_in (term.element tag attrs children) = names_in_props attrs ++ names_in_terms children

  pub names_in_terms : Terms → List Named
  names_in_terms term.no_terms = []
  names_in_terms (term.term_and first rest) = names_in first ++ names_in_terms rest

  pub names_in_props : Props → List Named
  names_in_props term.no_props = []
  names_in_props (term.prop_and name value rest) = names_in value ++ names_in_props rest

  pub names_in_pairs : Pairs → List Named
  names_in_pairs term.no_pairs = []
  names_in_pairs (term.pair_and key value rest) = names_in key ++ (names_in value ++ names_in_pairs rest)

-- the names in a postfix, and in postfixes one after another
abbrev pub names_in_post : Post → List Named
names_in_post (term.named name) = []
names_in_post (term.indexed at) = names_in at

abbrev pub names_in_posts : List Post → List Named
names_in_posts [] = []
names_in_posts (p ∷ posts) = names_in_post p ++ names_in_posts posts

-- the names in a declaration
abbrev pub names_of : Declared → List Named
names_of (Server name params body) = names_in (term.term body)
names_of (Client name import) = []
names_of (Action name params body) = names_in (term.term body)

-- each is the name of a source, or of a stream
abbrev pub named_test : List (List ℕ) → List (List ℕ) → Named → Test
named_test sources streams (source_named name) = holds (is_among sources name) (UnknownSource name)
named_test sources streams (stream_named name) = holds (is_among streams name) (UnknownSource name)

abbrev pub named_tests : List (List ℕ) → List (List ℕ) → List Named → List Test
named_tests sources streams named = map (named_test sources streams) named

abbrev pub program_tests : List (List ℕ) → List (List ℕ) → List Declared → List Test
program_tests sources streams declared = named_tests sources streams (flat_map names_of declared)
