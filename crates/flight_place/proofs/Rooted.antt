-- A row that opens no stream has a root place.
use Rattle.std.proofs.Common.{◌≡◌, ℕ, ◌<◌, Bool, true, false, List, [], ◌∷◌, length, Option, Some, None, refl, subst, arith}
use Rattle.std.specs.Prelude.{if◌then◌else◌}
use Rattle.std.proofs.lemmas.Bool.{false≢true}
use Rattle.serde_json.specs.Data.{Data, null, boolean, number, string, array, object, Items, no_items, item}
use Rattle.serde_json.specs.Read.{read}
use Rattle.flight_row.specs.declared.row.Row.{Row}
use Rattle.flight_row.specs.declared.row.RowKind.{RowKind}
use Rattle.flight_row.specs.declared.row.RowKind.TheVariants as row
use Rattle.flight_place.specs.declared.manner.Manner.{Manner}
use Rattle.flight_meaning.specs.declared.place.Place.{Place}
use Rattle.flight_meaning.specs.declared.place.PlaceTree.{PlaceTree}
use Rattle.flight_place.specs.Places.{faulty, visits, element_visits, marked_visits, array_visits, is_marked, is_element, HavePlaces}
use Rattle.flight_place.specs.Rows.{model_visits, row_visits, IsTree}
use Rattle.flight_place.specs.declared.fault.PlaceKind.TheVariants.{BadElement}

-- none of these has no places
element_root : (manner : Manner) (n : ℕ) (ds : Items) → is_element ds ≡ true → HavePlaces manner (element_visits manner n ds) [] → ⊥
element_root manner n no_items e h = absurd (false≢true e)
element_root manner n (item d ds) e h = h

marked_root : (manner : Manner) (n : ℕ) (ds : Items) (b : Bool) → is_element ds ≡ b → HavePlaces manner (if b then element_visits manner n ds else faulty (BadElement n) ∷ []) [] → ⊥
marked_root manner n ds true e h = element_root manner n ds e h
marked_root manner n ds false e h = h

array_root : (manner : Manner) (n : ℕ) (ds : Items) (b : Bool) → HavePlaces manner (if b then marked_visits manner n ds else array_visits manner n ds) [] → ⊥
array_root manner n ds true h = marked_root manner n ds (is_element ds) refl h
array_root manner n ds false h = h

value_root : (manner : Manner) (n : ℕ) (d : Data) → HavePlaces manner (visits manner n d) [] → ⊥
value_root manner n null h = h
value_root manner n (boolean b) h = h
value_root manner n (number x) h = h
value_root manner n (string s) h = h
value_root manner n (array ds) h = array_root manner n ds (is_marked ds) h
value_root manner n (object ms) h = h

model_root : (manner : Manner) (json : Option Data) → HavePlaces manner (model_visits manner json) [] → ⊥
model_root manner None h = h
model_root manner (Some d) h = value_root manner 0 d h

-- a row of these kinds opens or closes a stream
abbrev pub IsOfStream : RowKind → Type 0
IsOfStream (row.Open flow) = Unit {0}
IsOfStream row.Close = Unit {0}
IsOfStream kind = ⊥

row_root : (manner : Manner) (kind : RowKind) (payload : List ℕ) → ¬ IsOfStream kind → HavePlaces manner (row_visits manner kind payload) [] → ⊥
row_root manner (row.Open flow) payload no_stream h = no_stream tt
row_root manner row.Close payload no_stream h = no_stream tt
row_root manner row.Model payload no_stream h = model_root manner (read payload) h
row_root manner row.Import payload no_stream h = h
row_root manner row.Error payload no_stream h = h
row_root manner row.Text payload no_stream h = h

pub tree_root : (manner : Manner) (of_row : Row) (t : PlaceTree) → IsTree manner of_row t → ¬ IsOfStream t.kind → 0 < length t.places
tree_root manner of_row t is no_stream = go t.places is.have
  where
    go : (ps : List Place) → HavePlaces manner (row_visits manner of_row.kind of_row.payload) ps → 0 < length ps
    go [] h = absurd (row_root manner of_row.kind of_row.payload (subst (λ k. ¬ IsOfStream k) is.same_kind no_stream) h)
    go (p ∷ ps) h = omega arith
