-- What a row tells: none of its places is an atom of which nothing is known.
use Rattle.std.proofs.Common.{ℕ, ◌+◌, List, [], ◌∷◌, ◌++◌, length, sym, subst, true, false, Bool, All}
use Rattle.std.specs.Prelude.{ℤ, if◌then◌else◌, Option, Some, None, option_and_then, ◌==◌}
use Rattle.std.specs.List.{AllByRecursion}
use Rattle.std.proofs.lemmas.List.Elements.{All-from_recursion}
use Rattle.serde_json.specs.Data.{Data, null, boolean, number, string, array, object, Items, no_items, item, Members, no_members, member}
use Rattle.serde_json.specs.Read.{read}
use Rattle.serde_json.specs.Written.{compact_text}
use Rattle.flight_row.specs.declared.row.Row.{Row}
use Rattle.flight_row.specs.declared.row.RowKind.{RowKind}
use Rattle.flight_row.specs.declared.row.RowKind.TheVariants as row
use Rattle.flight_text.specs.declared.mark.Mark.{Mark}
use Rattle.flight_text.specs.declared.mark.Mark.TheVariants as mark
use Rattle.flight_text.specs.Whole.{whole_of, has_whole_numbers}
use Rattle.flight_value.specs.declared.graph.Atom.TheVariants as atom
use Rattle.flight_meaning.specs.declared.place.Place.{Place}
use Rattle.flight_meaning.specs.declared.place.Place.TheVariants as place
use Rattle.flight_place.specs.declared.manner.Manner.{Manner}
use Rattle.flight_place.specs.declared.manner.Manner.TheVariants.{Wire, Reply}
use Rattle.flight_meaning.specs.declared.place.PlaceTree.{PlaceTree}
use Rattle.flight_place.specs.declared.fault.PlaceKind.TheVariants.{BadModel, Number, BadElement}
use Rattle.flight_place.specs.Tokens.{place_of}
use Rattle.flight_place.specs.Places.{Visit, placed, token, faulty, number_visit, is_marked, is_element, element_of, mark_visit, count, item_numbers, member_numbers, visits, array_visits, element_visits, item_visits, member_visits, HasPlace, HavePlaces}
use Rattle.flight_place.specs.Rows.{model_visits, digest_of, import_visit, failed_visit, row_visits, IsTree}
use Rattle.flight_place.specs.Parts.{IsTold}

-- the place of a visit is told
abbrev Tells : Manner → Visit → Type 0
Tells manner v = (at : Place) → HasPlace manner v at → IsTold at

abbrev AllTell : Manner → List Visit → Type 0
AllTell manner vs = AllByRecursion (Tells manner) vs

tell_both : (manner : Manner) (vs ws : List Visit) → AllTell manner vs → AllTell manner ws → AllTell manner (vs ++ ws)
tell_both manner [] ws h k = k
tell_both manner (v ∷ vs) ws h k = (h.0, tell_both manner vs ws h.1 k)

tells_placed : (manner : Manner) (p : Place) → IsTold p → Tells manner (placed p)
tells_placed manner p told at h = subst IsTold (sym h) told

mark_told : (m : Mark) → IsTold (place_of m)
mark_told (mark.Plain text) = λ e. cc
mark_told mark.Element = λ e. cc
mark_told (mark.Lazy id) = tt
mark_told (mark.Promise id) = tt
mark_told (mark.Value at) = tt
mark_told (mark.Map at) = tt
mark_told (mark.Set at) = tt
mark_told (mark.Action id) = tt
mark_told (mark.Date date) = λ e. cc
mark_told (mark.Big big) = λ e. cc
mark_told (mark.Symbol name) = λ e. cc
mark_told mark.Undefined = λ e. cc
mark_told (mark.Constant constant) = λ e. cc

tells_token : (manner : Manner) (n : ℕ) (text : List ℕ) → Tells manner (token n text)
tells_token manner n text at h = subst IsTold (sym h.is_place) (mark_told h.spelled)

tells_number : (manner : Manner) (o : Option ℤ) → Tells manner (number_visit o)
tells_number manner (Some z) at h = subst IsTold (sym h) (λ e. cc)
tells_number manner None at h = absurd h

element_told : (numbers : List ℕ) → IsTold (element_of numbers)
element_told (type ∷ key ∷ props ∷ []) = tt
element_told [] = tt
element_told (type ∷ []) = tt
element_told (type ∷ key ∷ []) = tt
element_told (type ∷ key ∷ props ∷ more ∷ rest) = tt

tells_mark : (manner : Manner) (n : ℕ) → Tells manner (mark_visit manner n)
tells_mark Wire n = tells_placed Wire (place_of mark.Element) (mark_told mark.Element)
tells_mark Reply n = λ at h. absurd h

array_tells : (manner : Manner) (n : ℕ) (ds : Items) (a b : Bool) → AllTell manner (element_visits manner n ds) → AllTell manner (item_visits manner (n + 1) ds) → AllTell manner (if a then (if b then element_visits manner n ds else faulty (BadElement n) ∷ []) else array_visits manner n ds)
array_tells manner n ds true true h k = h
array_tells manner n ds true false h k = (λ at e. absurd e, tt)
array_tells manner n ds false b h k = (tells_placed manner (place.Array (item_numbers (n + 1) ds)) tt, k)

mutual
  value_tells : (manner : Manner) (n : ℕ) (d : Data) → AllTell manner (visits manner n d)
  value_tells manner n null = (tells_placed manner (place.Atom atom.Null) (λ e. cc), tt)
  value_tells manner n (boolean b) = (tells_placed manner (place.Atom (atom.Bool b)) (λ e. cc), tt)
  value_tells manner n (number x) = (tells_number manner (whole_of x), tt)
  value_tells manner n (string s) = (tells_token manner n s, tt)
  value_tells manner n (array ds) = array_tells manner n ds (is_marked ds) (is_element ds) (element_tells manner n ds) (items_tell manner (n + 1) ds)
  value_tells manner n (object ms) = (tells_placed manner (place.Object (member_numbers (n + 1) ms)) tt, members_tell manner (n + 1) ms)

  element_tells : (manner : Manner) (n : ℕ) (ds : Items) → AllTell manner (element_visits manner n ds)
  element_tells manner n no_items = tt
  element_tells manner n (item d ds) = (tells_placed manner (element_of (item_numbers (n + 2) ds)) (element_told (item_numbers (n + 2) ds)), (tells_mark manner (n + 1), items_tell manner (n + 2) ds))

  items_tell : (manner : Manner) (n : ℕ) (ds : Items) → AllTell manner (item_visits manner n ds)
  items_tell manner n no_items = tt
  items_tell manner n (item d ds) = tell_both manner (visits manner n d) (item_visits manner (n + count d) ds) (value_tells manner n d) (items_tell manner (n + count d) ds)

  members_tell : (manner : Manner) (n : ℕ) (ms : Members) → AllTell manner (member_visits manner n ms)
  members_tell manner n no_members = tt
  members_tell manner n (member name d ms) = tell_both manner (visits manner n d) (member_visits manner (n + count d) ms) (value_tells manner n d) (members_tell manner (n + count d) ms)

-- ---- rows

model_tells : (manner : Manner) (json : Option Data) → AllTell manner (model_visits manner json)
model_tells manner (Some d) = value_tells manner 0 d
model_tells manner None = (λ at h. absurd h, tt)

whole_tells : (manner : Manner) (b : Bool) (d : Data) → Tells manner (if b then placed (place.Atom (atom.Import (compact_text d))) else faulty Number)
whole_tells manner true d = tells_placed manner (place.Atom (atom.Import (compact_text d))) (λ e. cc)
whole_tells manner false d = λ at h. absurd h

import_tells : (manner : Manner) (json : Option Data) → Tells manner (import_visit json)
import_tells manner (Some d) = whole_tells manner (has_whole_numbers d) d
import_tells manner None = λ at h. absurd h

failed_tells : (manner : Manner) (o : Option (List ℕ)) → Tells manner (failed_visit o)
failed_tells manner (Some t) = tells_placed manner (place.Atom (atom.Failed t)) (λ e. cc)
failed_tells manner None = λ at h. absurd h

open_tells : (manner : Manner) (b : Bool) → AllTell manner (if b then [] else faulty BadModel ∷ [])
open_tells manner true = tt
open_tells manner false = (λ at h. absurd h, tt)

close_tells : (manner : Manner) (b : Bool) (json : Option Data) → AllTell manner (if b then placed (place.Atom atom.Undefined) ∷ [] else model_visits manner json)
close_tells manner true json = (tells_placed manner (place.Atom atom.Undefined) (λ e. cc), tt)
close_tells manner false json = model_tells manner json

row_tells : (manner : Manner) (kind : RowKind) (payload : List ℕ) → AllTell manner (row_visits manner kind payload)
row_tells manner row.Model payload = model_tells manner (read payload)
row_tells manner row.Import payload = (import_tells manner (read payload), tt)
row_tells manner row.Error payload = (failed_tells manner (option_and_then digest_of (read payload)), tt)
row_tells manner row.Text payload = (tells_placed manner (place.Atom (atom.Text payload)) (λ e. cc), tt)
row_tells manner (row.Open flow) payload = open_tells manner (length payload == 0)
row_tells manner row.Close payload = close_tells manner (length payload == 0) (read payload)

told : (manner : Manner) (vs : List Visit) (ps : List Place) → AllTell manner vs → HavePlaces manner vs ps → AllByRecursion IsTold ps
told manner [] [] tell h = tt
told manner [] (p ∷ ps) tell h = absurd h
told manner (v ∷ vs) [] tell h = absurd h
told manner (v ∷ vs) (p ∷ ps) tell h = (tell.0 p h.0, told manner vs ps tell.1 h.1)

pub tree_told : (manner : Manner) (of_row : Row) (tree : PlaceTree) → IsTree manner of_row tree → All IsTold tree.places
tree_told manner of_row tree h = All-from_recursion IsTold tree.places (told manner (row_visits manner of_row.kind of_row.payload) tree.places (row_tells manner of_row.kind of_row.payload) h.have)
