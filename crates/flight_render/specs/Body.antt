-- What one body comes to: that of a component with its props, or that of the root.
use Rattle.std.specs.Prelude.{ℕ, ◌+◌, Bool, nat_lt, if◌then◌else◌, List, [], map, length, Option, Some, None, slice_get, option_and_then, position, unwrap_or}
use Rattle.flight_value.specs.declared.graph.Graph.{Graph}
use Rattle.flight_value.specs.declared.made.Made.{Made}
use Rattle.flight_value.specs.declared.made.Tree.{Tree}
use Rattle.flight_syntax.specs.declared.program.Declared.{Declared}
use Rattle.flight_syntax.specs.declared.program.Declared.TheVariants as declared
use Rattle.flight_syntax.specs.declared.script.Outcome.TheVariants as outcome
use Rattle.flight_syntax.specs.Term.{Term, term}
use Rattle.flight_render.specs.declared.root.Ground.{Ground}
use Rattle.flight_render.specs.declared.root.Root.{Root}
use Rattle.flight_render.specs.declared.root.Root.TheVariants as root
use Rattle.flight_render.specs.Run.{Machine, Run, pay, give, fail, and_then, weight}
use Rattle.flight_render.specs.Values.{items_in, property_in, undefined, is_app, tree_of}
use Rattle.flight_render.specs.Operators.{type_digest, depth_digest}
use Rattle.flight_render.specs.Eval.{Context, eval}

-- an expression with the values of its variables
pub record Start : Type 0 where
  pub expression : Term
  pub env : List Tree

-- the parameters are the properties of the same name, `undefined` where there is none
abbrev pub params_of : Ground → List (List Made) → Tree → List (List ℕ) → List Tree
params_of g tables props params = map (λ name. unwrap_or (property_in g tables name props) undefined) params

abbrev pub component_start : Ground → List (List Made) → Option Declared → Tree → Option Start
component_start g tables (Some (declared.Server name params expression)) props = Some (record { expression = term expression; env = params_of g tables props params })
component_start g tables _ props = None

-- the items of the array of arguments are the parameters
abbrev pub args_tree : Ground → Graph → Tree
args_tree g args = tree_of (outcome.Value args) (length g.script.sources) args.root

abbrev pub action_start : Ground → Option Declared → Graph → Option Start
action_start g (Some (declared.Action name params expression)) args =
    Some (record { expression = term expression; env = unwrap_or (items_in g [] (args_tree g args)) [] })
action_start g _ args = None

-- `App` with no properties, or the action with its arguments
abbrev pub root_start : Ground → Root → Option Start
root_start g root.App = component_start g [] (option_and_then (slice_get g.program.declared) (position is_app g.program.declared)) undefined
root_start g (root.Call action args) = action_start g (slice_get g.program.declared action) args

abbrev pub fresh : Machine
fresh = record { made = []; cost = 0 }

-- the value given costs 1, and its bytes where it is a text
abbrev pub give_last : Tree → Machine → Run Tree
give_last t m = give t (pay (1 + weight t) m)

abbrev pub started : Context → Start → Run Tree
started cx x = and_then (eval cx x.expression x.env fresh) give_last

-- 200 bodies on top of one another are too many
abbrev pub run_start : Context → Option Start → Run Tree
run_start cx None = fail type_digest fresh
run_start cx (Some x) = if nat_lt (length cx.address) 200 then started cx x else fail depth_digest fresh

-- the body of a component with these props at an address, with the tables of that address
unfoldable pub body : Ground → List Bool → List (List Made) → ℕ → Tree → List ℕ → Run Tree
body g settled tables component props address =
    run_start (record { over = g; settled = settled; address = address; tables = tables }) (component_start g tables (slice_get g.program.declared component) props)

-- the body of the root, at the empty address
unfoldable pub root_body : Ground → List Bool → Run Tree
root_body g settled = run_start (record { over = g; settled = settled; address = []; tables = [] }) (root_start g g.root)
