-- The atoms of a row's places are valid.
use Rattle.std.proofs.Common.{◌≡◌, ℕ, ◌+◌, ◌-◌, ◌^◌, ◌<◌, List, [], ◌∷◌, ◌++◌, length, refl, subst, sym, arith, true, false, Bool, All, nat_lt}
use Rattle.std.specs.Prelude.{pos, negsuc, if◌then◌else◌, Option, Some, None, option_and_then, ◌==◌}
use Rattle.std.specs.List.{AllByRecursion}
use Rattle.std.proofs.lemmas.Bool.{ltb-true}
use lib.Dec.{le→leb}
use Rattle.std.proofs.lemmas.List.Elements.{All-from_recursion}
use Rattle.serde_json.specs.Data.{Num, unsigned, negative, float, Data, null, boolean, number, string, array, object, Items, no_items, item, Members, no_members, member}
use Rattle.serde_json.specs.Read.{read}
use Rattle.serde_json.specs.Written.{compact_text}
use Rattle.flight_text.specs.Whole.{whole_of, has_whole_numbers}
use Rattle.flight_text.specs.Mark.{IsSpelling}
use Rattle.flight_value.specs.declared.graph.Atom.TheVariants as atom
use Rattle.flight_row.specs.declared.row.Row.{Row}
use Rattle.flight_row.specs.declared.row.RowKind.{RowKind}
use Rattle.flight_row.specs.declared.row.RowKind.TheVariants as row
use Rattle.flight_text.specs.declared.mark.Mark.{Mark}
use Rattle.flight_text.specs.declared.mark.Mark.TheVariants as mark
use Rattle.flight_meaning.specs.declared.place.Place.{Place}
use Rattle.flight_meaning.specs.declared.place.Place.TheVariants as place
use Rattle.flight_place.specs.declared.manner.Manner.{Manner}
use Rattle.flight_place.specs.declared.manner.Manner.TheVariants.{Wire, Reply}
use Rattle.flight_meaning.specs.declared.place.PlaceTree.{PlaceTree}
use Rattle.flight_place.specs.declared.fault.PlaceKind.TheVariants.{BadModel, Number, BadElement}
use Rattle.flight_place.specs.Tokens.{place_of}
use Rattle.flight_place.specs.Places.{Visit, placed, token, faulty, number_visit, is_marked, is_element, element_of, mark_visit, count, item_numbers, visits, element_visits, item_visits, member_visits, HasPlace, HavePlaces}
use Rattle.flight_place.specs.Rows.{model_visits, digest_of, import_visit, failed_visit, row_visits, IsTree}
use Rattle.flight_place.specs.Parts.{HasValidAtom}

abbrev VisitValid : Visit → Type 0
VisitValid (placed at) = HasValidAtom at
VisitValid (token n text) = Unit {0}
VisitValid (faulty kind) = Unit {0}

abbrev VisitsValid : List Visit → Type 0
VisitsValid vs = AllByRecursion VisitValid vs

append-valid : (vs ws : List Visit) → VisitsValid vs → VisitsValid ws → VisitsValid (vs ++ ws)
append-valid [] ws h k = k
append-valid (v ∷ vs) ws h k = (h.0, append-valid vs ws h.1 k)

safe_pos : (b : Bool) (n : ℕ) → (b ≡ true → n < 2 ^ 53) → VisitValid (number_visit (if b then Some (pos n) else None))
safe_pos true n small = let lt = small refl in (record { le = tt }, record { le = le→leb n (2 ^ 53 - 1) (omega (arith, lt)) })
safe_pos false n small = tt

safe_neg : (b : Bool) (n : ℕ) → (b ≡ true → n < 2 ^ 53 - 1) → VisitValid (number_visit (if b then Some (negsuc n) else None))
safe_neg true n small = let lt = small refl in (record { le = le→leb n (2 ^ 53 - 2) (omega (arith, lt)) }, record { le = tt })
safe_neg false n small = tt

number-valid : (x : Num) → VisitValid (number_visit (whole_of x))
number-valid (unsigned n) = safe_pos (nat_lt n (2 ^ 53)) n (λ e. ltb-true n (2 ^ 53) e)
number-valid (negative (pos n)) = tt
number-valid (negative (negsuc n)) = safe_neg (nat_lt n (2 ^ 53 - 1)) n (λ e. ltb-true n (2 ^ 53 - 1) e)
number-valid (float x) = tt

mark-valid : (manner : Manner) (n : ℕ) → VisitValid (mark_visit manner n)
mark-valid Wire n = tt
mark-valid Reply n = tt

element-valid : (ns : List ℕ) → HasValidAtom (element_of ns)
element-valid [] = tt
element-valid (a ∷ []) = tt
element-valid (a ∷ b ∷ []) = tt
element-valid (a ∷ b ∷ c ∷ []) = tt
element-valid (a ∷ b ∷ c ∷ d ∷ ns) = tt

chosen : (b e : Bool) (vs ws : List Visit) (n : ℕ) → VisitsValid vs → VisitsValid ws → VisitsValid (if b then (if e then vs else faulty (BadElement n) ∷ []) else ws)
chosen true true vs ws n h k = h
chosen true false vs ws n h k = (tt, tt)
chosen false e vs ws n h k = k

mutual
  value-valid : (manner : Manner) (n : ℕ) (d : Data) → VisitsValid (visits manner n d)
  value-valid manner n null = (tt, tt)
  value-valid manner n (boolean b) = (tt, tt)
  value-valid manner n (number x) = (number-valid x, tt)
  value-valid manner n (string s) = (tt, tt)
  value-valid manner n (array ds) =
      chosen (is_marked ds) (is_element ds) (element_visits manner n ds) (placed (place.Array (item_numbers (n + 1) ds)) ∷ item_visits manner (n + 1) ds) n (behind-valid manner n ds) (tt, each-valid manner (n + 1) ds)
  value-valid manner n (object ms) = (tt, member-valid manner (n + 1) ms)

  behind-valid : (manner : Manner) (n : ℕ) (ds : Items) → VisitsValid (element_visits manner n ds)
  behind-valid manner n no_items = tt
  behind-valid manner n (item d ds) = (element-valid (item_numbers (n + 2) ds), (mark-valid manner (n + 1), each-valid manner (n + 2) ds))

  each-valid : (manner : Manner) (n : ℕ) (ds : Items) → VisitsValid (item_visits manner n ds)
  each-valid manner n no_items = tt
  each-valid manner n (item d ds) = append-valid (visits manner n d) (item_visits manner (n + count d) ds) (value-valid manner n d) (each-valid manner (n + count d) ds)

  member-valid : (manner : Manner) (n : ℕ) (ms : Members) → VisitsValid (member_visits manner n ms)
  member-valid manner n no_members = tt
  member-valid manner n (member name d ms) = append-valid (visits manner n d) (member_visits manner (n + count d) ms) (value-valid manner n d) (member-valid manner (n + count d) ms)

model-valid : (manner : Manner) (json : Option Data) → VisitsValid (model_visits manner json)
model-valid manner None = (tt, tt)
model-valid manner (Some d) = value-valid manner 0 d

whole-valid : (b : Bool) (d : Data) → VisitValid (if b then placed (place.Atom (atom.Import (compact_text d))) else faulty Number)
whole-valid true d = tt
whole-valid false d = tt

import-valid : (json : Option Data) → VisitValid (import_visit json)
import-valid None = tt
import-valid (Some d) = whole-valid (has_whole_numbers d) d

failed-valid : (o : Option (List ℕ)) → VisitValid (failed_visit o)
failed-valid None = tt
failed-valid (Some t) = tt

either-valid : (b : Bool) (vs ws : List Visit) → VisitsValid vs → VisitsValid ws → VisitsValid (if b then vs else ws)
either-valid true vs ws h k = h
either-valid false vs ws h k = k

row-valid : (manner : Manner) (kind : RowKind) (payload : List ℕ) → VisitsValid (row_visits manner kind payload)
row-valid manner row.Model payload = model-valid manner (read payload)
row-valid manner row.Import payload = (import-valid (read payload), tt)
row-valid manner row.Error payload = (failed-valid (option_and_then digest_of (read payload)), tt)
row-valid manner row.Text payload = (tt, tt)
row-valid manner (row.Open flow) payload = either-valid (length payload == 0) [] (faulty BadModel ∷ []) tt (tt, tt)
row-valid manner row.Close payload =
    either-valid (length payload == 0) (placed (place.Atom atom.Undefined) ∷ []) (model_visits manner (read payload)) (tt, tt) (model-valid manner (read payload))

mark_place-valid : (text : List ℕ) (m : Mark) → IsSpelling text m → HasValidAtom (place_of m)
mark_place-valid text (mark.Plain t) h = tt
mark_place-valid text mark.Element h = tt
mark_place-valid text (mark.Lazy id) h = tt
mark_place-valid text (mark.Promise id) h = tt
mark_place-valid text (mark.Value at) h = tt
mark_place-valid text (mark.Map at) h = tt
mark_place-valid text (mark.Set at) h = tt
mark_place-valid text (mark.Action id) h = tt
mark_place-valid text (mark.Date d) h = h.1
mark_place-valid text (mark.Big n) h = tt
mark_place-valid text (mark.Symbol n) h = tt
mark_place-valid text mark.Undefined h = tt
mark_place-valid text (mark.Constant k) h = tt

place-valid : (manner : Manner) (v : Visit) (p : Place) → VisitValid v → HasPlace manner v p → HasValidAtom p
place-valid manner (placed at) p h k = subst (λ q. HasValidAtom q) (sym k) h
place-valid manner (token n text) p h k = subst (λ q. HasValidAtom q) (sym k.is_place) (mark_place-valid text k.spelled k.spells)
place-valid manner (faulty kind) p h k = absurd k

places-valid : (manner : Manner) (vs : List Visit) (ps : List Place) → VisitsValid vs → HavePlaces manner vs ps → AllByRecursion HasValidAtom ps
places-valid manner [] [] h k = tt
places-valid manner [] (p ∷ ps) h k = absurd k
places-valid manner (v ∷ vs) [] h k = absurd k
places-valid manner (v ∷ vs) (p ∷ ps) h k = (place-valid manner v p h.0 k.0, places-valid manner vs ps h.1 k.1)

pub tree_valid : (manner : Manner) (of_row : Row) (tree : PlaceTree) → IsTree manner of_row tree → All HasValidAtom tree.places
tree_valid manner of_row tree h =
    All-from_recursion HasValidAtom tree.places (places-valid manner (row_visits manner of_row.kind of_row.payload) tree.places (row-valid manner of_row.kind of_row.payload) h.have)
