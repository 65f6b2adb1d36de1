-- What stands in place in memory, as plain data.
use Rattle.std.specs.Prelude.{ℕ, List, [], map}
use Rattle.flight_value.specs.declared.graph.Slot.{Slot}
use Rattle.flight_value.specs.declared.made.Tree.{Tree}
use Rattle.flight_syntax.specs.declared.script.Outcome.{Outcome}
use Rattle.flight_syntax.specs.declared.script.Outcome.TheVariants as outcome
use Rattle.flight_render.specs.Values.{tree_of}
use Rattle.flight_eval.specs.declared.values.Found.{Found}
use Rattle.flight_eval.specs.declared.values.Found.TheVariants as found
use Rattle.flight_eval.specs.declared.values.Array.{Array}
use Rattle.flight_eval.specs.declared.values.Array.TheVariants as array

abbrev pub seen_of : Found → Outcome
seen_of (found.Value g) = outcome.Value g.now
seen_of (found.Reject digest) = outcome.Reject digest.now

-- the value that a slot of a source is, which no outcome changes
abbrev pub slot_tree : ℕ → Slot → Tree
slot_tree source slot = tree_of (outcome.Reject []) source slot

abbrev pub items_of : Array → List Tree
items_of (array.Made slots) = slots.now
items_of (array.Source source slots) = map (slot_tree source) slots.now
