-- The sources of a script.
use Rattle.std.specs.Prelude.{ℕ, ◌+◌, ◌≡◌, ◌==◌, ◌||◌, if◌then◌else◌, Bool, List, [], ◌∷◌, ◌++◌, length, codes, Option, Some, None, option_map, option_and_then, is_some}
use Rattle.std.specs.List.{AllZip}
use Rattle.serde_json.specs.Data.{Data}
use Rattle.serde_json.specs.Find.{get, as_str}
use Rattle.flight_value.specs.declared.graph.Graph.{Graph}
use Rattle.flight_text.specs.Whole.{has_whole_numbers}
use Rattle.flight_syntax.specs.declared.script.Outcome.{Outcome}
use Rattle.flight_syntax.specs.declared.script.Outcome.TheVariants.{Value, Reject}
use Rattle.flight_syntax.specs.declared.script.Data as source
use Rattle.flight_script.specs.declared.fault.ScriptFault.TheVariants.{BadShape, BadNode, Number}
use Rattle.flight_script.specs.Json.{Member, as_list, member_count, only}
use Rattle.flight_script.specs.Slots.{IsSlot, IsNode}
use Rattle.flight_script.specs.Tests.{Test, holds, a_slot, a_node}

-- `{"reject":TEXT}`: the digest
abbrev pub rejection : Data → Option (List ℕ)
rejection d = option_and_then as_str (only (codes "reject") d)

-- `{"value":SLOT,"nodes":[NODE,..]}`: the value and the nodes
abbrev pub value_parts : Data → Option (Data × List Data)
value_parts d =
    if member_count d == 2
    then option_and_then (λ root. option_map (λ nodes. (root, nodes)) (option_and_then as_list (get (codes "nodes") d))) (get (codes "value") d)
    else None

abbrev pub is_source : Data → Bool
is_source d = is_some (rejection d) || is_some (value_parts d)

-- ---- what is asked

abbrev pub node_tests : List ℕ → ℕ → ℕ → List Data → List Test
node_tests name count number [] = []
node_tests name count number (d ∷ ds) =
    holds (has_whole_numbers d) (Number name) ∷ a_node count d (BadNode name (Some number)) ∷ node_tests name count (number + 1) ds

-- of a value and its nodes: whole numbers before the form
abbrev pub value_tests : List ℕ → Option (Data × List Data) → List Test
value_tests name None = []
value_tests name (Some parts) =
    holds (has_whole_numbers parts.0) (Number name) ∷ a_slot (length parts.1) parts.0 (BadNode name None) ∷ node_tests name (length parts.1) 0 parts.1

abbrev pub source_tests : Member → List Test
source_tests m = holds (is_source m.1) (BadShape (codes "sources." ++ m.0)) ∷ value_tests m.0 (value_parts m.1)

-- ---- what it is

abbrev pub IsGraph : Option (Data × List Data) → Graph → Type 0
IsGraph None g = ⊥
IsGraph (Some parts) g = IsSlot (length parts.1) parts.0 g.root × AllZip (IsNode (length parts.1)) parts.1 g.nodes

abbrev pub IsOutcome : Data → Outcome → Type 0
IsOutcome d (Value g) = IsGraph (value_parts d) g
IsOutcome d (Reject digest) = rejection d ≡ Some digest

abbrev pub IsSource : Member → source.Data → Type 0
IsSource m s = (s.name ≡ m.0) × IsOutcome m.1 s.outcome
