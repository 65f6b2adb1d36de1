-- The numbers in places are below the count of places.
use Rattle.std.proofs.Common.{◌≡◌, ℕ, ◌+◌, ◌<◌, ◌≤◌, List, [], ◌∷◌, ◌++◌, length, refl, sym, ◌∙◌, ap, subst, arith, length-append, true, false, Bool, All}
use Rattle.std.specs.Prelude.{ℤ, if◌then◌else◌, Option, Some, None, option_and_then, ◌==◌}
use Rattle.std.specs.List.{AllByRecursion}
use Rattle.std.proofs.lemmas.List.Elements.{All-from_recursion}
use Rattle.std.proofs.lemmas.Bool.{false≢true}
use Rattle.serde_json.specs.Data.{Data, null, boolean, number, string, array, object, Items, no_items, item, Members, no_members, member}
use Rattle.serde_json.specs.Read.{read}
use Rattle.serde_json.specs.Written.{compact_text}
use Rattle.flight_row.specs.declared.row.Row.{Row}
use Rattle.flight_row.specs.declared.row.RowKind.{RowKind}
use Rattle.flight_row.specs.declared.row.RowKind.TheVariants as row
use Rattle.flight_text.specs.declared.mark.Mark.{Mark}
use Rattle.flight_text.specs.declared.mark.Mark.TheVariants as mark
use Rattle.flight_text.specs.Whole.{whole_of, has_whole_numbers}
use Rattle.flight_value.specs.declared.graph.Atom.TheVariants as atom
use Rattle.flight_meaning.specs.declared.place.Place.{Place}
use Rattle.flight_meaning.specs.declared.place.Place.TheVariants as place
use Rattle.flight_place.specs.declared.manner.Manner.{Manner}
use Rattle.flight_place.specs.declared.manner.Manner.TheVariants.{Wire, Reply}
use Rattle.flight_meaning.specs.declared.place.PlaceTree.{PlaceTree}
use Rattle.flight_place.specs.declared.fault.PlaceKind.{PlaceKind}
use Rattle.flight_place.specs.declared.fault.PlaceKind.TheVariants.{BadModel, Number, BadElement}
use Rattle.flight_place.specs.Tokens.{place_of}
use Rattle.flight_place.specs.Places.{Visit, placed, token, faulty, number_visit, is_marked, is_element, element_of, mark_visit, count, item_count, member_count, item_numbers, member_numbers, visits, array_visits, element_visits, item_visits, member_visits, HasPlace, HavePlaces}
use Rattle.flight_place.specs.Rows.{model_visits, digest_of, import_visit, failed_visit, error_visit, row_visits, IsTree}
use Rattle.flight_place.specs.Parts.{IsWithin}
use Rattle.flight_place.proofs.Walks.{mark-count}

-- ---- lists of places

abbrev Within : ℕ → List Place → Type 0
Within total ps = AllByRecursion (IsWithin total) ps

-- so many places, with numbers below the total
abbrev Fits : ℕ → ℕ → List Place → Type 0
Fits total len ps = (length ps ≡ len) × Within total ps

within-append : (total : ℕ) (ps qs : List Place) → Within total ps → Within total qs → Within total (ps ++ qs)
within-append total [] qs h k = k
within-append total (p ∷ ps) qs h k = (h.0, within-append total ps qs h.1 k)

record Split (manner : Manner) (vs ws : List Visit) (ps : List Place) : Type 0 where
  front : List Place
  back : List Place
  whole : ps ≡ front ++ back
  have_front : HavePlaces manner vs front
  have_back : HavePlaces manner ws back

split : (manner : Manner) (vs ws : List Visit) (ps : List Place) → HavePlaces manner (vs ++ ws) ps → Split manner vs ws ps
split manner [] ws ps h = record { front = []; back = ps; whole = refl; have_front = tt; have_back = h }
split manner (v ∷ vs) ws [] h = absurd h
split manner (v ∷ vs) ws (p ∷ ps) h =
    let s = split manner vs ws ps h.1 in
    record { front = p ∷ s.front; back = s.back; whole = ap (λ xs. p ∷ xs) s.whole; have_front = (h.0, s.have_front); have_back = s.have_back }

one_fits : (manner : Manner) (total : ℕ) (v : Visit) (ps : List Place) → HavePlaces manner (v ∷ []) ps → ((p : Place) → HasPlace manner v p → IsWithin total p) → Fits total 1 ps
one_fits manner total v [] h f = absurd h
one_fits manner total v (p ∷ []) h f = (refl, (f p h.0, tt))
one_fits manner total v (p ∷ q ∷ ps) h f = absurd h.1

placed_fits : (manner : Manner) (total len : ℕ) (at : Place) (vs : List Visit) (ps : List Place) → HavePlaces manner (placed at ∷ vs) ps → IsWithin total at → ((qs : List Place) → HavePlaces manner vs qs → Fits total len qs) → Fits total (1 + len) ps
placed_fits manner total len at vs [] h w f = absurd h
placed_fits manner total len at vs (p ∷ ps) h w f =
    let r = f ps h.1 in
    let same : length ps ≡ len = r.0 in
    (omega (arith, same), (subst (λ q. IsWithin total q) (sym h.0) w, r.1))

append_fits : (manner : Manner) (total a b : ℕ) (vs ws : List Visit) (ps : List Place) → HavePlaces manner (vs ++ ws) ps → ((qs : List Place) → HavePlaces manner vs qs → Fits total a qs) → ((qs : List Place) → HavePlaces manner ws qs → Fits total b qs) → Fits total (a + b) ps
append_fits manner total a b vs ws ps h f g =
    let s = split manner vs ws ps h in
    let first = f s.front s.have_front in
    let rest = g s.back s.have_back in
    let len : length ps ≡ length s.front + length s.back = ap length s.whole ∙ length-append s.front s.back in
    let same_first : length s.front ≡ a = first.0 in
    let same_rest : length s.back ≡ b = rest.0 in
    (omega (arith, len, same_first, same_rest), subst (λ xs. Within total xs) (sym s.whole) (within-append total s.front s.back first.1 rest.1))

-- ---- single places

atom_within : (total : ℕ) (at p : Place) → IsWithin total at → p ≡ at → IsWithin total p
atom_within total at p w e = subst (λ q. IsWithin total q) (sym e) w

mark_within : (total : ℕ) (m : Mark) → IsWithin total (place_of m)
mark_within total (mark.Plain t) = tt
mark_within total mark.Element = tt
mark_within total (mark.Lazy id) = tt
mark_within total (mark.Promise id) = tt
mark_within total (mark.Value at) = tt
mark_within total (mark.Map at) = tt
mark_within total (mark.Set at) = tt
mark_within total (mark.Action id) = tt
mark_within total (mark.Date d) = tt
mark_within total (mark.Big n) = tt
mark_within total (mark.Symbol n) = tt
mark_within total mark.Undefined = tt
mark_within total (mark.Constant k) = tt

number_within : (manner : Manner) (total : ℕ) (o : Option ℤ) (p : Place) → HasPlace manner (number_visit o) p → IsWithin total p
number_within manner total (Some z) p h = subst (λ q. IsWithin total q) (sym h) tt
number_within manner total None p h = absurd h

-- ---- numbers

count_some : (d : Data) → 1 ≤ count d
count_some null = omega arith
count_some (boolean b) = omega arith
count_some (number x) = omega arith
count_some (string s) = omega arith
count_some (array ds) = omega arith
count_some (object ms) = omega arith

numbers_within : (total n : ℕ) (ds : Items) → n + item_count ds ≤ total → AllByRecursion (λ k. k < total) (item_numbers n ds)
numbers_within total n no_items h = tt
numbers_within total n (item d ds) h = let some = count_some d in (omega (arith, h, some), numbers_within total (n + count d) ds (omega (arith, h)))

members_within : (total n : ℕ) (ms : Members) → n + member_count ms ≤ total → AllByRecursion (λ p. p.place < total) (member_numbers n ms)
members_within total n no_members h = tt
members_within total n (member name d ms) h = let some = count_some d in (omega (arith, h, some), members_within total (n + count d) ms (omega (arith, h)))

array_within : (total : ℕ) (ns : List ℕ) → AllByRecursion (λ k. k < total) ns → IsWithin total (place.Array ns)
array_within total ns h = All-from_recursion (λ k. k < total) ns h

element_within : (total : ℕ) (ns : List ℕ) → AllByRecursion (λ k. k < total) ns → IsWithin total (element_of ns)
element_within total [] h = array_within total [] h
element_within total (a ∷ []) h = array_within total (a ∷ []) h
element_within total (a ∷ b ∷ []) h = array_within total (a ∷ b ∷ []) h
element_within total (a ∷ b ∷ c ∷ []) h = (h.0, h.1.0, h.1.1.0)
element_within total (a ∷ b ∷ c ∷ d ∷ ns) h = array_within total (a ∷ b ∷ c ∷ d ∷ ns) h

mark_fits : (manner : Manner) (total n : ℕ) (p : Place) → HasPlace manner (mark_visit manner n) p → IsWithin total p
mark_fits Wire total n p h = subst (λ q. IsWithin total q) (sym h) tt
mark_fits Reply total n p h = absurd h

-- no places stand for a fault
no_places : (manner : Manner) (kind : PlaceKind) (ps : List Place) → HavePlaces manner (faulty kind ∷ []) ps → ⊥
no_places manner kind [] h = h
no_places manner kind (p ∷ ps) h = h.0

-- the ways of an array: an element, or plain items
chosen : (manner : Manner) (b e : Bool) (vs ws : List Visit) (kind : PlaceKind) (ps : List Place) (P : Type 0) → HavePlaces manner (if b then (if e then vs else faulty kind ∷ []) else ws) ps → (b ≡ true → HavePlaces manner vs ps → P) → (HavePlaces manner ws ps → P) → P
chosen manner true true vs ws kind ps P h f g = f refl h
chosen manner true false vs ws kind ps P h f g = absurd (no_places manner kind ps h)
chosen manner false e vs ws kind ps P h f g = g h

-- ---- a value, with the numbers from n on

mutual
  value_fits : (manner : Manner) (total n : ℕ) (d : Data) (ps : List Place) → n + count d ≤ total → HavePlaces manner (visits manner n d) ps → Fits total (count d) ps
  value_fits manner total n null ps fits h = one_fits manner total (placed (place.Atom atom.Null)) ps h (λ p e. atom_within total (place.Atom atom.Null) p tt e)
  value_fits manner total n (boolean b) ps fits h = one_fits manner total (placed (place.Atom (atom.Bool b))) ps h (λ p e. atom_within total (place.Atom (atom.Bool b)) p tt e)
  value_fits manner total n (number x) ps fits h = one_fits manner total (number_visit (whole_of x)) ps h (number_within manner total (whole_of x))
  value_fits manner total n (string s) ps fits h = one_fits manner total (token n s) ps h (λ p t. atom_within total (place_of t.spelled) p (mark_within total t.spelled) t.is_place)
  value_fits manner total n (array ds) ps fits h =
      chosen manner (is_marked ds) (is_element ds) (element_visits manner n ds) (array_visits manner n ds) (BadElement n) ps (Fits total (1 + item_count ds) ps) h
      (λ m k. element_fits manner total n ds ps m fits k)
      (λ k. placed_fits manner total (item_count ds) (place.Array (item_numbers (n + 1) ds)) (item_visits manner (n + 1) ds) ps k (array_within total (item_numbers (n + 1) ds) (numbers_within total (n + 1) ds (omega (arith, fits)))) (λ qs j. items_fit manner total (n + 1) ds qs (omega (arith, fits)) j))
  value_fits manner total n (object ms) ps fits h =
      placed_fits manner total (member_count ms) (place.Object (member_numbers (n + 1) ms)) (member_visits manner (n + 1) ms) ps h (All-from_recursion (λ p. p.place < total) (member_numbers (n + 1) ms) (members_within total (n + 1) ms (omega (arith, fits)))) (λ qs j. members_fit manner total (n + 1) ms qs (omega (arith, fits)) j)

  element_fits : (manner : Manner) (total n : ℕ) (ds : Items) (ps : List Place) → is_marked ds ≡ true → n + (1 + item_count ds) ≤ total → HavePlaces manner (element_visits manner n ds) ps → Fits total (1 + item_count ds) ps
  element_fits manner total n no_items ps m fits h = absurd (false≢true m)
  element_fits manner total n (item d ds) ps m fits h =
      let one = mark-count d m in
      placed_fits manner total (count d + item_count ds) (element_of (item_numbers (n + 2) ds)) (mark_visit manner (n + 1) ∷ item_visits manner (n + 2) ds) ps h (element_within total (item_numbers (n + 2) ds) (numbers_within total (n + 2) ds (omega (arith, fits, one))))
      (λ qs j.
      append_fits manner total (count d) (item_count ds) (mark_visit manner (n + 1) ∷ []) (item_visits manner (n + 2) ds) qs j
      (λ rs k. let r = one_fits manner total (mark_visit manner (n + 1)) rs k (mark_fits manner total (n + 1)) in (r.0 ∙ sym one, r.1))
      (λ rs k. items_fit manner total (n + 2) ds rs (omega (arith, fits, one)) k))

  items_fit : (manner : Manner) (total n : ℕ) (ds : Items) (ps : List Place) → n + item_count ds ≤ total → HavePlaces manner (item_visits manner n ds) ps → Fits total (item_count ds) ps
  items_fit manner total n no_items [] fits h = (refl, tt)
  items_fit manner total n no_items (p ∷ ps) fits h = absurd h
  items_fit manner total n (item d ds) ps fits h =
      append_fits manner total (count d) (item_count ds) (visits manner n d) (item_visits manner (n + count d) ds) ps h (λ qs j. value_fits manner total n d qs (omega (arith, fits)) j) (λ qs j. items_fit manner total (n + count d) ds qs (omega (arith, fits)) j)

  members_fit : (manner : Manner) (total n : ℕ) (ms : Members) (ps : List Place) → n + member_count ms ≤ total → HavePlaces manner (member_visits manner n ms) ps → Fits total (member_count ms) ps
  members_fit manner total n no_members [] fits h = (refl, tt)
  members_fit manner total n no_members (p ∷ ps) fits h = absurd h
  members_fit manner total n (member name d ms) ps fits h =
      append_fits manner total (count d) (member_count ms) (visits manner n d) (member_visits manner (n + count d) ms) ps h (λ qs j. value_fits manner total n d qs (omega (arith, fits)) j) (λ qs j. members_fit manner total (n + count d) ms qs (omega (arith, fits)) j)

-- ---- a row

-- as many places as there are, with numbers below that
abbrev AllFit : List Place → Type 0
AllFit ps = Within (length ps) ps

fits-all : (len : ℕ) (ps : List Place) → Fits len len ps → AllFit ps
fits-all len ps f = subst (λ n. Within n ps) (sym f.0) f.1

model_fits : (manner : Manner) (json : Option Data) (ps : List Place) → HavePlaces manner (model_visits manner json) ps → AllFit ps
model_fits manner None ps h = absurd (no_places manner BadModel ps h)
model_fits manner (Some d) ps h = fits-all (count d) ps (value_fits manner (count d) 0 d ps (omega arith) h)

whole_within : (manner : Manner) (b : Bool) (d : Data) (p : Place) → HasPlace manner (if b then placed (place.Atom (atom.Import (compact_text d))) else faulty Number) p → IsWithin 1 p
whole_within manner true d p h = subst (λ q. IsWithin 1 q) (sym h) tt
whole_within manner false d p h = absurd h

import_within : (manner : Manner) (json : Option Data) (p : Place) → HasPlace manner (import_visit json) p → IsWithin 1 p
import_within manner None p h = absurd h
import_within manner (Some d) p h = whole_within manner (has_whole_numbers d) d p h

failed_within : (manner : Manner) (o : Option (List ℕ)) (p : Place) → HasPlace manner (failed_visit o) p → IsWithin 1 p
failed_within manner None p h = absurd h
failed_within manner (Some t) p h = subst (λ q. IsWithin 1 q) (sym h) tt

open_fits : (manner : Manner) (b : Bool) (ps : List Place) → HavePlaces manner (if b then [] else faulty BadModel ∷ []) ps → AllFit ps
open_fits manner true [] h = tt
open_fits manner true (p ∷ ps) h = absurd h
open_fits manner false ps h = absurd (no_places manner BadModel ps h)

close_fits : (manner : Manner) (b : Bool) (json : Option Data) (ps : List Place) → HavePlaces manner (if b then placed (place.Atom atom.Undefined) ∷ [] else model_visits manner json) ps → AllFit ps
close_fits manner true json ps h = fits-all 1 ps (one_fits manner 1 (placed (place.Atom atom.Undefined)) ps h (λ p e. atom_within 1 (place.Atom atom.Undefined) p tt e))
close_fits manner false json ps h = model_fits manner json ps h

row_fits : (manner : Manner) (kind : RowKind) (payload : List ℕ) (ps : List Place) → HavePlaces manner (row_visits manner kind payload) ps → AllFit ps
row_fits manner row.Model payload ps h = model_fits manner (read payload) ps h
row_fits manner row.Import payload ps h = fits-all 1 ps (one_fits manner 1 (import_visit (read payload)) ps h (import_within manner (read payload)))
row_fits manner row.Error payload ps h = fits-all 1 ps (one_fits manner 1 (error_visit (read payload)) ps h (failed_within manner (option_and_then digest_of (read payload))))
row_fits manner row.Text payload ps h = fits-all 1 ps (one_fits manner 1 (placed (place.Atom (atom.Text payload))) ps h (λ p e. atom_within 1 (place.Atom (atom.Text payload)) p tt e))
row_fits manner (row.Open flow) payload ps h = open_fits manner (length payload == 0) ps h
row_fits manner row.Close payload ps h = close_fits manner (length payload == 0) (read payload) ps h

pub tree_within : (manner : Manner) (of_row : Row) (tree : PlaceTree) → IsTree manner of_row tree → All (IsWithin (length tree.places)) tree.places
tree_within manner of_row tree h = All-from_recursion (IsWithin (length tree.places)) tree.places (row_fits manner of_row.kind of_row.payload tree.places h.have)
