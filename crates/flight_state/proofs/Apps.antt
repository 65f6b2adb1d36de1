-- Grounds whose first component is `App`: their bodies by the terms that are written there.
use Rattle.std.proofs.Common.{◌≡◌, ◌<◌, map, length, arith, ℕ, Bool, List, [], ◌∷◌, Some, None, refl, ap, ◌∙◌}
use Rattle.std.proofs.lemmas.Option.{none-some}
use Rattle.std.specs.Prelude.{slice_get, ◌^◌}
use Rattle.std.specs.List.{AllByRecursion}
use Rattle.std.specs.List.Sorted.{IsStrictlySortedBy}
use Rattle.std.proofs.lemmas.List.Elements.{All-from_recursion}
use Rattle.flight_value.specs.Graph.{Ascend}
use Rattle.flight_syntax.specs.declared.script.Data.{Data}
use Rattle.flight_syntax.specs.declared.script.Flowing.{Flowing}
use Rattle.flight_syntax.specs.Script.{IsScript, IsData, IsFlowing}
use Rattle.flight_value.specs.declared.made.Made.{Made}
use Rattle.flight_value.specs.declared.made.Tree.{Tree}
use Rattle.flight_syntax.specs.declared.expr.Expr.{Expr}
use Rattle.flight_syntax.specs.Term.{Term, term}
use Rattle.flight_render.specs.declared.root.Ground.{Ground}
use Rattle.flight_render.specs.Run.{Run}
use Rattle.flight_render.specs.Body.{root_body, body, run_start, root_start, component_start}
use Rattle.flight_render.specs.Bodies.{Finishes, body_at, node_at, tables_for}
use Rattle.flight_render.specs.Jobs.{the_root, of_job}
use Rattle.flight_render.specs.Costs.{at_root, Rendered}
use Rattle.flight_state.specs.Local.{Seen, Shows}
use Rattle.flight_state.specs.Worked.{component}

-- ---- bodies

-- the body of the root, by what is written there
pub app_body : (g : Ground) (settled : List Bool) (e : Expr) (t : Term) → term e ≡ t → root_start g g.root ≡ Some (record { expression = term e; env = [] })
    → root_body g settled ≡ run_start (record { over = g; settled = settled; address = []; tables = [] }) (Some (record { expression = t; env = [] }))
unfolding root_body
app_body g settled e t same at =
    ap (λ z. run_start (record { over = g; settled = settled; address = []; tables = [] }) z) at
    ∙ ap (λ z. run_start (record { over = g; settled = settled; address = []; tables = [] }) (Some (record { expression = z; env = [] }))) same

-- that of another component with no parameters
pub component_body : (g : Ground) (settled : List Bool) (tables : List (List Made)) (number : ℕ) (name : List ℕ) (e : Expr) (t : Term) → term e ≡ t → slice_get g.program.declared number ≡ Some (component name e)
    → (props : Tree) (address : List ℕ) → body g settled tables number props address ≡ run_start (record { over = g; settled = settled; address = address; tables = tables }) (Some (record { expression = t; env = [] }))
unfolding body
component_body g settled tables number name e t same at props address =
    ap (λ d. run_start (record { over = g; settled = settled; address = address; tables = tables }) (component_start g tables d props)) at
    ∙ ap (λ z. run_start (record { over = g; settled = settled; address = address; tables = tables }) (Some (record { expression = z; env = [] }))) same

-- ---- costs

pub root_rendered : (g : Ground) (settled : List Bool) (b : Run Tree) → root_body g settled ≡ b → Finishes b.step → Rendered g settled [] b.after.cost
unfolding body_at
root_rendered g settled b same finishes =
    record {
      here = b;
      is_body = ap Some same;
      finishes = finishes;
      costs = refl;
      job = the_root;
      addressed = refl;
      value = of_job the_root;
      met = at_root;
      is_job = refl;
    }

-- ---- what a writer sees that finishes no other body

abbrev pub all_seen : Ground → List Bool → Seen
all_seen g settled = record { look = node_at g settled; ends = λ n. None; tables = tables_for g settled }

pub all_shows : (g : Ground) (settled : List Bool) → Shows g settled (all_seen g settled)
all_shows g settled = record { nodes = λ n m h. h; ends = λ n end h. absurd (none-some end h); tables = λ n m h is. refl }

-- ---- scripts with no settlers, and names of components

pub app_script : (sources : List Data) (streams : List Flowing) → length sources < 2 ^ 32 → length streams < 2 ^ 32 → Ascend (map (λ (d : Data). d.name) sources) → Ascend (map (λ (f : Flowing). f.name) streams)
    → AllByRecursion IsData sources → AllByRecursion (IsFlowing (length sources)) streams → IsScript (record { sources = sources; streams = streams; settlers = [] })
app_script sources streams few_sources few_streams names flows each_source each_stream =
    record {
      few_sources = few_sources;
      few_streams = few_streams;
      sources = names;
      each_source = All-from_recursion IsData sources each_source;
      streams = flows;
      each_stream = All-from_recursion (IsFlowing (length sources)) streams each_stream;
      few_settlers = omega arith;
      each_settler = λ k d h. absurd (omega (arith, h));
      once = λ i j d h k. absurd (omega (arith, k));
    }

pub one_name : (name : List ℕ) → Ascend (name ∷ [])
unfolding IsStrictlySortedBy
one_name name = (tt, tt)

pub no_name : Ascend []
unfolding IsStrictlySortedBy
no_name = tt

-- the first letter of a name, or the first item of an address
abbrev pub starts : List ℕ → ℕ
starts [] = 0
starts (x ∷ xs) = x
