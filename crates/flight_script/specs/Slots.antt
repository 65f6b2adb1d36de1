-- The graphs of sources.
use Rattle.std.specs.Prelude.{ℕ, ◌≡◌, ◌==◌, ◌&&◌, nat_lt, if◌then◌else◌, List, [], ◌∷◌, length, codes, Option, Some, None, option_map, option_and_then}
use Rattle.std.specs.List.{AllZip}
use Rattle.serde_json.specs.Data.{Data, null, boolean, number, string, array, object}
use Rattle.flight_value.specs.declared.graph.Atom.TheVariants as atom
use Rattle.flight_value.specs.declared.graph.Slot.{Slot}
use Rattle.flight_value.specs.declared.graph.Slot.TheVariants as slot
use Rattle.flight_value.specs.declared.graph.Prop.{Prop}
use Rattle.flight_value.specs.declared.graph.Pair.{Pair}
use Rattle.flight_value.specs.declared.graph.Node.{Node}
use Rattle.flight_value.specs.declared.graph.Node.TheVariants as node
use Rattle.flight_text.specs.declared.mark.Mark.{Mark}
use Rattle.flight_text.specs.declared.mark.Mark.TheVariants as mark
use Rattle.flight_text.specs.Mark.{IsSpelling}
use Rattle.flight_text.specs.Whole.{whole_of}
use Rattle.flight_script.specs.Json.{Member, as_list, as_members, only}

-- the slot that a mark is: an atom, or a node of so many, with no path
abbrev pub slot_of : ℕ → Mark → Option Slot
slot_of count (mark.Plain t) = Some (slot.Atom (atom.Text t))
slot_of count (mark.Value place) = if (length place.path == 0) && nat_lt place.id count then Some (slot.Node place.id) else None
slot_of count (mark.Date date) = Some (slot.Atom (atom.Date date))
slot_of count (mark.Big n) = Some (slot.Atom (atom.Big n))
slot_of count (mark.Symbol name) = Some (slot.Atom (atom.Symbol name))
slot_of count mark.Undefined = Some (slot.Atom atom.Undefined)
slot_of count (mark.Constant constant) = Some (slot.Atom (atom.Constant constant))
slot_of count m = None

-- the JSON is the slot, among so many nodes
abbrev pub IsSlot : ℕ → Data → Slot → Type 0
IsSlot count null s = s ≡ slot.Atom atom.Null
IsSlot count (boolean b) s = s ≡ slot.Atom (atom.Bool b)
IsSlot count (number x) s = option_map (λ z. slot.Atom (atom.Whole z)) (whole_of x) ≡ Some s
IsSlot count (string t) s = (m : Mark) × IsSpelling t m × (slot_of count m ≡ Some s)
IsSlot count (array ds) s = ⊥
IsSlot count (object ms) s = ⊥

-- a property
abbrev pub IsProp : ℕ → Member → Prop → Type 0
IsProp count m p = (p.name ≡ m.0) × IsSlot count m.1 p.slot

-- item by item, where there is a list
abbrev pub Each : {A B : Type 0} → (A → B → Type 0) → Option (List A) → List B → Type 0
Each R None ys = ⊥
Each R (Some xs) ys = AllZip R xs ys

-- an entry: an array of a key and a value
abbrev pub IsPair : ℕ → Data → Pair → Type 0
IsPair count d p = Each (IsSlot count) (as_list d) (p.key ∷ p.value ∷ [])

-- an array or an object that is an object's only member, of that name
abbrev pub list_in : List ℕ → Data → Option (List Data)
list_in name d = option_and_then as_list (only name d)

abbrev pub members_in : List ℕ → Data → Option (List Member)
members_in name d = option_and_then as_members (only name d)

-- the JSON is the node, among so many nodes
abbrev pub IsNode : ℕ → Data → Node → Type 0
IsNode count d (node.Array slots) = Each (IsSlot count) (list_in (codes "array") d) slots
IsNode count d (node.Object props) = Each (IsProp count) (members_in (codes "object") d) props
IsNode count d (node.Map pairs) = Each (IsPair count) (list_in (codes "map") d) pairs
IsNode count d (node.Set slots) = Each (IsSlot count) (list_in (codes "set") d) slots
IsNode count d n = ⊥
