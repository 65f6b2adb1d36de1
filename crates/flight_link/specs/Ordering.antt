-- Keys of nodes in the order of a first visit.
use Rattle.std.specs.Prelude.{ℕ, suc, ◌+◌, ◌*◌, ◌-◌, ◌^◌, ◌<◌, ◌≡◌, List, [], ◌∷◌, ◌++◌, reverse, length, slice_get, Some, All, flat_map}
use Rattle.std.specs.List.{AllZip}
use Rattle.flight_value.specs.declared.graph.Slot.{Slot}
use Rattle.flight_value.specs.declared.graph.Node.{Node}
use Rattle.flight_graph.specs.Canon.{visited_of, walk}
use Rattle.flight_graph.specs.Ordered.{in_order}
use Rattle.flight_graph.specs.Walk.{slots_waiting}
use Rattle.flight_meaning.specs.declared.place.PlacedRow.{PlacedRow}
use Rattle.flight_meaning.specs.Meaning.{value_of}
use Rattle.flight_link.specs.declared.key.NodeKey.{NodeKey}
use Rattle.flight_link.specs.declared.key.NodeKey.TheVariants.{Made, Promise, Action}
use Rattle.flight_link.specs.declared.laid.Head.{Head}
use Rattle.flight_link.specs.declared.target.Target.{Target}
use Rattle.flight_link.specs.declared.target.Target.TheVariants as target
use Rattle.flight_link.specs.Drawing.{Draws, AreDrawn, AreApart}
use Rattle.flight_link.specs.Laid.{IsLaid}
use Rattle.flight_link.specs.Numbering.{IsKey, Grows}

-- in the graph that is drawn under these keys each node stands at the place of its first visit
abbrev pub IsOrdered : List PlacedRow → List NodeKey → Type 0
IsOrdered rows keys = (root : Slot) (nodes : List Node) → Draws rows keys root (value_of 0) → AreDrawn rows keys nodes → length nodes ≡ length keys → visited_of (record { root = root; nodes = nodes }) ≡ in_order (length keys)

-- ---- on the way

-- the key of the node that a target is
abbrev pub key_in : Target → List NodeKey
key_in (target.Node spot) = Made spot ∷ []
key_in (target.Promise id) = Promise id ∷ []
key_in (target.Action id) = Action id ∷ []
key_in t = []

abbrev pub keys_in : List Target → List NodeKey
keys_in targets = flat_map key_in targets

-- the numbers of keys
abbrev pub AreNumbersOf : List NodeKey → List ℕ → List NodeKey → Type 0
AreNumbersOf keys numbers these = AllZip (λ n key. slice_get keys n ≡ Some key) numbers these

-- Some keys have their numbers, and some wait, the next one last. Whatever graph is drawn under keys that begin with
-- these, the walk through it comes by the nodes of these keys to those that wait.
pub record IsOnWay (rows : List PlacedRow) (these waiting : List NodeKey) : Type 0 where
  pub are_keys : All (IsKey rows) waiting
  pub comes : (keys : List NodeKey) (root : Slot) (nodes : List Node) (numbers : List ℕ) → Grows these keys → AreApart rows keys → Draws rows keys root (value_of 0) → AreDrawn rows keys nodes → length nodes ≡ length keys → AreNumbersOf keys numbers waiting → walk (suc (length keys - length these)) nodes (in_order (length these)) (slots_waiting numbers) ≡ visited_of (record { root = root; nodes = nodes })

-- a key gets the next number, and those of the nodes that its slots lead to wait, the first one last
pub record VisitsKey (rows : List PlacedRow) (key : NodeKey) (old new waiting waiting' : List NodeKey) : Type 0 where
  pub keys : new ≡ old ++ key ∷ []
  pub room : length old < 2 ^ 32
  pub head : Head
  pub targets : List Target
  pub is_laid : IsLaid rows key head targets
  pub next : waiting' ≡ waiting ++ reverse (keys_in targets)

-- how many turns are left at most: each takes a key that waits, or gives a number, of which there are so many
abbrev pub turns_within : ℕ → List NodeKey → List NodeKey → ℕ
turns_within count keys waiting = (count - length keys) * count + length waiting

unfoldable pub turns_left : List NodeKey → List NodeKey → ℕ
turns_left keys waiting = turns_within (2 ^ 32) keys waiting
