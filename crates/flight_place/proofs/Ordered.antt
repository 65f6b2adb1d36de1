-- The names of an object that was read ascend, and so do those of its place.
use Rattle.std.proofs.Common.{◌≡◌, ℕ, ◌+◌, List, [], ◌∷◌, ◌++◌, length, map, refl, sym, ap, subst, true, false, Bool, All}
use Rattle.std.specs.Prelude.{ℤ, if◌then◌else◌, Option, Some, None, option_and_then, ◌==◌}
use Rattle.std.specs.List.{AllByRecursion}
use Rattle.std.proofs.lemmas.List.Elements.{All-from_recursion}
use Rattle.serde_json.specs.Data.{Data, null, boolean, number, string, array, object, Items, no_items, item, Members, no_members, member}
use Rattle.serde_json.specs.Read.{read}
use Rattle.serde_json.specs.Written.{compact_text}
use Rattle.flight_value.specs.Graph.{Ascend}
use Rattle.flight_text.proofs.Ordered.{names, OrderedMembers, Ordered, AllOrdered, EachOrdered, If, read-ordered, ascend}
use Rattle.flight_text.specs.Whole.{whole_of, has_whole_numbers}
use Rattle.flight_value.specs.declared.graph.Atom.TheVariants as atom
use Rattle.flight_row.specs.declared.row.Row.{Row}
use Rattle.flight_row.specs.declared.row.RowKind.{RowKind}
use Rattle.flight_row.specs.declared.row.RowKind.TheVariants as row
use Rattle.flight_text.specs.declared.mark.Mark.{Mark}
use Rattle.flight_text.specs.declared.mark.Mark.TheVariants as mark
use Rattle.flight_meaning.specs.declared.place.Place.{Place}
use Rattle.flight_meaning.specs.declared.place.Place.TheVariants as place
use Rattle.flight_place.specs.declared.manner.Manner.{Manner}
use Rattle.flight_place.specs.declared.manner.Manner.TheVariants.{Wire, Reply}
use Rattle.flight_meaning.specs.declared.place.PlaceTree.{PlaceTree}
use Rattle.flight_place.specs.declared.fault.PlaceKind.TheVariants.{BadModel, Number, BadElement}
use Rattle.flight_place.specs.Tokens.{place_of}
use Rattle.flight_place.specs.Places.{Visit, placed, token, faulty, number_visit, is_marked, is_element, element_of, mark_visit, count, item_numbers, member_numbers, visits, element_visits, item_visits, member_visits, HasPlace, HavePlaces}
use Rattle.flight_place.specs.Rows.{model_visits, digest_of, import_visit, failed_visit, row_visits, IsTree}
use Rattle.flight_place.specs.Parts.{HasOrder}

-- ---- what is visited in them

abbrev VisitOrdered : Visit → Type 0
VisitOrdered (placed at) = HasOrder at
VisitOrdered (token n text) = Unit {0}
VisitOrdered (faulty kind) = Unit {0}

abbrev VisitsOrdered : List Visit → Type 0
VisitsOrdered vs = AllByRecursion VisitOrdered vs

append-ordered : (vs ws : List Visit) → VisitsOrdered vs → VisitsOrdered ws → VisitsOrdered (vs ++ ws)
append-ordered [] ws h k = k
append-ordered (v ∷ vs) ws h k = (h.0, append-ordered vs ws h.1 k)

number-ordered : (o : Option ℤ) → VisitOrdered (number_visit o)
number-ordered (Some z) = tt
number-ordered None = tt

mark-ordered : (manner : Manner) (n : ℕ) → VisitOrdered (mark_visit manner n)
mark-ordered Wire n = tt
mark-ordered Reply n = tt

element-ordered : (ns : List ℕ) → HasOrder (element_of ns)
element-ordered [] = tt
element-ordered (a ∷ []) = tt
element-ordered (a ∷ b ∷ []) = tt
element-ordered (a ∷ b ∷ c ∷ []) = tt
element-ordered (a ∷ b ∷ c ∷ d ∷ ns) = tt

names-same : (n : ℕ) (ms : Members) → map (λ p. p.name) (member_numbers n ms) ≡ names ms
names-same n no_members = refl
names-same n (member name d ms) = ap (λ ks. name ∷ ks) (names-same (n + count d) ms)

object-ordered : (n : ℕ) (ms : Members) → OrderedMembers ms → HasOrder (place.Object (member_numbers n ms))
object-ordered n ms h = let P : List (List ℕ) → Type 0 = λ ks. Ascend ks in subst P (sym (names-same n ms)) (ascend ms h)

chosen : (b e : Bool) (vs ws : List Visit) (n : ℕ) → VisitsOrdered vs → VisitsOrdered ws → VisitsOrdered (if b then (if e then vs else faulty (BadElement n) ∷ []) else ws)
chosen true true vs ws n h k = h
chosen true false vs ws n h k = (tt, tt)
chosen false e vs ws n h k = k

mutual
  value-ordered : (manner : Manner) (n : ℕ) (d : Data) → Ordered d → VisitsOrdered (visits manner n d)
  value-ordered manner n null h = (tt, tt)
  value-ordered manner n (boolean b) h = (tt, tt)
  value-ordered manner n (number x) h = (number-ordered (whole_of x), tt)
  value-ordered manner n (string s) h = (tt, tt)
  value-ordered manner n (array ds) h =
      chosen (is_marked ds) (is_element ds) (element_visits manner n ds) (placed (place.Array (item_numbers (n + 1) ds)) ∷ item_visits manner (n + 1) ds) n (behind-ordered manner n ds h) (tt, each-ordered manner (n + 1) ds h)
  value-ordered manner n (object ms) h = (object-ordered (n + 1) ms h.0, member-ordered manner (n + 1) ms h.1)

  behind-ordered : (manner : Manner) (n : ℕ) (ds : Items) → AllOrdered ds → VisitsOrdered (element_visits manner n ds)
  behind-ordered manner n no_items h = tt
  behind-ordered manner n (item d ds) h = (element-ordered (item_numbers (n + 2) ds), (mark-ordered manner (n + 1), each-ordered manner (n + 2) ds h.1))

  each-ordered : (manner : Manner) (n : ℕ) (ds : Items) → AllOrdered ds → VisitsOrdered (item_visits manner n ds)
  each-ordered manner n no_items h = tt
  each-ordered manner n (item d ds) h = append-ordered (visits manner n d) (item_visits manner (n + count d) ds) (value-ordered manner n d h.0) (each-ordered manner (n + count d) ds h.1)

  member-ordered : (manner : Manner) (n : ℕ) (ms : Members) → EachOrdered ms → VisitsOrdered (member_visits manner n ms)
  member-ordered manner n no_members h = tt
  member-ordered manner n (member name d ms) h = append-ordered (visits manner n d) (member_visits manner (n + count d) ms) (value-ordered manner n d h.0) (member-ordered manner (n + count d) ms h.1)

-- ---- a row

model-ordered : (manner : Manner) (json : Option Data) → If Ordered json → VisitsOrdered (model_visits manner json)
model-ordered manner None h = (tt, tt)
model-ordered manner (Some d) h = value-ordered manner 0 d h

whole-ordered : (b : Bool) (d : Data) → VisitOrdered (if b then placed (place.Atom (atom.Import (compact_text d))) else faulty Number)
whole-ordered true d = tt
whole-ordered false d = tt

import-ordered : (json : Option Data) → VisitOrdered (import_visit json)
import-ordered None = tt
import-ordered (Some d) = whole-ordered (has_whole_numbers d) d

failed-ordered : (o : Option (List ℕ)) → VisitOrdered (failed_visit o)
failed-ordered None = tt
failed-ordered (Some t) = tt

either-ordered : (b : Bool) (vs ws : List Visit) → VisitsOrdered vs → VisitsOrdered ws → VisitsOrdered (if b then vs else ws)
either-ordered true vs ws h k = h
either-ordered false vs ws h k = k

row-ordered : (manner : Manner) (kind : RowKind) (payload : List ℕ) → VisitsOrdered (row_visits manner kind payload)
row-ordered manner row.Model payload = model-ordered manner (read payload) (read-ordered payload)
row-ordered manner row.Import payload = (import-ordered (read payload), tt)
row-ordered manner row.Error payload = (failed-ordered (option_and_then digest_of (read payload)), tt)
row-ordered manner row.Text payload = (tt, tt)
row-ordered manner (row.Open flow) payload = either-ordered (length payload == 0) [] (faulty BadModel ∷ []) tt (tt, tt)
row-ordered manner row.Close payload =
    either-ordered (length payload == 0) (placed (place.Atom atom.Undefined) ∷ []) (model_visits manner (read payload)) (tt, tt) (model-ordered manner (read payload) (read-ordered payload))

mark_place-ordered : (m : Mark) → HasOrder (place_of m)
mark_place-ordered (mark.Plain t) = tt
mark_place-ordered mark.Element = tt
mark_place-ordered (mark.Lazy id) = tt
mark_place-ordered (mark.Promise id) = tt
mark_place-ordered (mark.Value at) = tt
mark_place-ordered (mark.Map at) = tt
mark_place-ordered (mark.Set at) = tt
mark_place-ordered (mark.Action id) = tt
mark_place-ordered (mark.Date d) = tt
mark_place-ordered (mark.Big n) = tt
mark_place-ordered (mark.Symbol n) = tt
mark_place-ordered mark.Undefined = tt
mark_place-ordered (mark.Constant k) = tt

place-ordered : (manner : Manner) (v : Visit) (p : Place) → VisitOrdered v → HasPlace manner v p → HasOrder p
place-ordered manner (placed at) p h k = subst (λ q. HasOrder q) (sym k) h
place-ordered manner (token n text) p h k = subst (λ q. HasOrder q) (sym k.is_place) (mark_place-ordered k.spelled)
place-ordered manner (faulty kind) p h k = absurd k

places-ordered : (manner : Manner) (vs : List Visit) (ps : List Place) → VisitsOrdered vs → HavePlaces manner vs ps → AllByRecursion HasOrder ps
places-ordered manner [] [] h k = tt
places-ordered manner [] (p ∷ ps) h k = absurd k
places-ordered manner (v ∷ vs) [] h k = absurd k
places-ordered manner (v ∷ vs) (p ∷ ps) h k = (place-ordered manner v p h.0 k.0, places-ordered manner vs ps h.1 k.1)

pub tree_ordered : (manner : Manner) (of_row : Row) (tree : PlaceTree) → IsTree manner of_row tree → All HasOrder tree.places
tree_ordered manner of_row tree h =
    All-from_recursion HasOrder tree.places (places-ordered manner (row_visits manner of_row.kind of_row.payload) tree.places (row-ordered manner of_row.kind of_row.payload) h.have)
