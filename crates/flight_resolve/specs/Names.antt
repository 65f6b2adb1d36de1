-- What names are looked up in, and their faults as the code has them.
use Rattle.std.specs.Prelude.{ℕ, ◌≡◌, List, [], ◌∷◌, ◌++◌, map, Bool, Option, Some, None, option_map, if◌then◌else◌}
use Rattle.std.specs.Borrow.{Bor}
use Rattle.std.specs.Str.{bytes_eq}
use Rattle.std.specs.HashMap.{HashMap, get}
use Rattle.flight_syntax.specs.Lexicon.{Placed}
use Rattle.flight_syntax.specs.Tree.{Declaration}
use Rattle.flight_syntax.specs.Scope.{is_server, is_client, is_action, server_number, client_number, action_number}
use Rattle.flight_syntax.specs.Faults as faults
use Rattle.flight_syntax.specs.Faults.{first_fault}
use Rattle.flight_syntax.specs.Meaning.{occurs, innermost}
use Rattle.flight_parse.specs.declared.lexeme.Name.{Name}
use Rattle.flight_parse.specs.Code.{placed}
use Rattle.flight_parse.specs.Declarations.{declaration_of}
use Rattle.flight_resolve.specs.declared.tables.Kind.{Kind}
use Rattle.flight_resolve.specs.declared.tables.Kind.TheVariants as kinds
use Rattle.flight_resolve.specs.declared.tables.Tables.{Tables}
use Rattle.flight_resolve.specs.declared.body.Body.{Body}
use Rattle.flight_resolve.specs.declared.name_fault.NameFault.{NameFault}
use Rattle.flight_resolve.specs.declared.name_fault.NameFault.TheVariants as code

-- the map has the numbers that a lookup finds
abbrev pub Knows : {S : Type 0} → HashMap (List ℕ) ℕ S → (List ℕ → Option ℕ) → Type 0
Knows numbers lookup = (q : List ℕ) → get bytes_eq numbers q ≡ lookup q

-- whether a declaration is of the kind and has the name
abbrev pub is_kind : Kind → List ℕ → Declaration → Bool
is_kind kinds.Server = is_server
is_kind kinds.Client = is_client
is_kind kinds.Action = is_action

-- the tables are those of the declarations
pub record AreTables (tables : Tables) (all : List Declaration) : Type 0 where
  pub servers : Knows tables.servers (server_number all)
  pub clients : Knows tables.clients (client_number all)
  pub actions : Knows tables.actions (action_number all)

-- ---- variables

-- the number of the innermost variable of the name, if one is in scope
abbrev pub variable_number : List (List ℕ) → List ℕ → Option ℕ
variable_number scope named = if occurs named scope then Some (innermost scope named) else None

-- the variables in scope from the inside out: locals, in the order in which they are declared, inside the parameters
abbrev pub inside_out : List Placed → List Placed → List Placed
inside_out outer [] = outer
inside_out outer (named ∷ locals) = inside_out (named ∷ outer) locals

-- ---- the body of a declaration

-- all declarations, and the parameters
abbrev pub all_of : Body → List Declaration
all_of body = map declaration_of body.declared.now

abbrev pub params_of : Body → List Placed
params_of body = map placed body.params.now

-- the tables are those of the declarations and of the parameters
pub record IsKnown (body : Body) : Type 0 where
  pub tables : AreTables body.tables.now (all_of body)
  pub numbers : Knows body.numbers.now (variable_number (map (λ n. n.bytes) body.params.now))

-- what is in scope under locals, from the inside out, and the names from the outside in
abbrev pub scope_of : Body → List (Bor Name) → List Placed
scope_of body locals = inside_out (params_of body) (map (λ n. placed n.now) locals)

abbrev pub names_of : Body → List (Bor Name) → List (List ℕ)
names_of body locals = map (λ n. n.bytes) body.params.now ++ map (λ n. n.now.bytes) locals

-- ---- faults

-- a fault as plain data
abbrev pub fault_of : NameFault → faults.NameFault
fault_of (code.Unknown name) = faults.unknown (placed name)
fault_of (code.Twice name) = faults.twice (placed name)
fault_of (code.KeyOnServer name) = faults.key_on_server (placed name)

-- the first of these faults, or none where there are none
abbrev pub IsFirst : Option NameFault → List faults.NameFault → Type 0
IsFirst found all = option_map fault_of found ≡ first_fault all
