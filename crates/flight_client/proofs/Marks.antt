-- Marks stay when more rows come.
use Rattle.std.proofs.Common.{◌≡◌, ℕ, zero, suc, ◌+◌, ◌<◌, ◌≤◌, Bool, true, false, List, [], ◌∷◌, ◌++◌, length, take, refl, sym, ◌∙◌, ap, subst, Option, Some, None, arith, eq-eqb}
use Rattle.std.specs.Prelude.{slice_get, option_and_then, ◌==◌}
use Rattle.std.proofs.lemmas.List.Sums.{sum_by-cons}
use Rattle.flight_meaning.specs.declared.place.Place.{Place}
use Rattle.flight_meaning.specs.declared.place.Place.TheVariants as place
use Rattle.flight_meaning.specs.declared.place.PlaceTree.{PlaceTree}
use Rattle.flight_meaning.specs.declared.place.PlacedRow.{PlacedRow}
use Rattle.flight_meaning.specs.Linked as linked
use Rattle.flight_meaning.specs.Linked.{rows_of, place_at}
use Rattle.flight_meaning.specs.Meaning.{Identity, made_at, promise_of, stream_of, action_of}
use Rattle.flight_meaning.proofs.MoreRows.{rows_of-append, rows_of-same, rows_of-other, slice_get-front, place-more, places-stay}
use Rattle.flight_link.specs.Spots.{IsNumber, IsFirst, places_in}
use Rattle.flight_link.specs.Looking.{IsMark}

-- ---- lists

take_kept : {A : Type 0} (xs ys : List A) (n : ℕ) (x : A) → slice_get xs n ≡ Some x → take n (xs ++ ys) ≡ take n xs
take_kept [] ys n x e = cc
take_kept (z ∷ xs) ys zero x e = refl
take_kept (z ∷ xs) ys (suc n) x e = ap (λ zs. z ∷ zs) (take_kept xs ys n x e)

pub got_within : {A : Type 0} (xs : List A) (n : ℕ) (x : A) → slice_get xs n ≡ Some x → n < length xs
got_within [] n x e = cc
got_within (z ∷ xs) zero x e = omega arith
got_within (z ∷ xs) (suc n) x e = let h = got_within xs n x e in omega arith

-- ---- a row by its number, and by its id

pub cons_same : (id : ℕ) (r : PlacedRow) (rows : List PlacedRow) → r.id == id ≡ true → rows_of id (r ∷ rows) ≡ r.tree ∷ rows_of id rows
cons_same id r rows e = rows_of-append id (r ∷ []) rows ∙ ap (λ ts. ts ++ rows_of id rows) (rows_of-same id [] r e)

pub cons_other : (id : ℕ) (r : PlacedRow) (rows : List PlacedRow) → r.id == id ≡ false → rows_of id (r ∷ rows) ≡ rows_of id rows
cons_other id r rows e = rows_of-append id (r ∷ []) rows ∙ ap (λ ts. ts ++ rows_of id rows) (rows_of-other id [] r e)

abbrev IsRowAt : List PlacedRow → List PlacedRow → PlacedRow → Type 0
IsRowAt rows before row = slice_get (rows_of row.id rows) (length (rows_of row.id before)) ≡ Some row.tree

behind : (r : PlacedRow) (rows before : List PlacedRow) (row : PlacedRow) (b : Bool) → r.id == row.id ≡ b → IsRowAt rows before row → IsRowAt (r ∷ rows) (r ∷ before) row
behind r rows before row true e h =
    subst (λ ts. slice_get ts (length (rows_of row.id (r ∷ before))) ≡ Some row.tree) (sym (cons_same row.id r rows e))
    (subst (λ us. slice_get (r.tree ∷ rows_of row.id rows) (length us) ≡ Some row.tree) (sym (cons_same row.id r before e)) h)
behind r rows before row false e h =
    subst (λ ts. slice_get ts (length (rows_of row.id (r ∷ before))) ≡ Some row.tree) (sym (cons_other row.id r rows e))
    (subst (λ us. slice_get (rows_of row.id rows) (length us) ≡ Some row.tree) (sym (cons_other row.id r before e)) h)

row_at : (rows : List PlacedRow) (j : ℕ) (row : PlacedRow) → slice_get rows j ≡ Some row → IsRowAt rows (take j rows) row
row_at [] j row e = cc
row_at (r ∷ rows) zero row e =
    let same : r ≡ row = cc in
    subst (λ x. IsRowAt (r ∷ rows) [] x) same (ap (λ ts. slice_get ts 0) (cons_same r.id r rows (eq-eqb r.id r.id refl)))
row_at (r ∷ rows) (suc j) row e = behind r rows (take j rows) row (r.id == row.id) refl (row_at rows j row e)

-- ---- how many places stand before a row

pub places_cons : (r : PlacedRow) (rows : List PlacedRow) → places_in (r ∷ rows) ≡ length r.tree.places + places_in rows
places_cons r rows = sum_by-cons (λ (x : PlacedRow). length x.tree.places) r rows

before_row : (rows : List PlacedRow) (j : ℕ) (row : PlacedRow) → slice_get rows j ≡ Some row → places_in (take j rows) + length row.tree.places ≤ places_in rows
before_row [] j row e = cc
before_row (r ∷ rows) zero row e =
    let same : r ≡ row = cc in
    let long = ap (λ x. length x.tree.places) same in
    let all = places_cons r rows in
    omega (arith, long, all)
before_row (r ∷ rows) (suc j) row e =
    let h = before_row rows j row e in
    let all = places_cons r rows in
    let front : places_in (take (suc j) (r ∷ rows)) ≡ length r.tree.places + places_in (take j rows) = places_cons r (take j rows) in
    omega (arith, h, all, front)

before_later : (rows more : List PlacedRow) (j : ℕ) → slice_get rows j ≡ None → places_in rows ≤ places_in (take j (rows ++ more))
before_later [] more j e = omega arith
before_later (r ∷ rows) more zero e = cc
before_later (r ∷ rows) more (suc j) e =
    let h = before_later rows more j e in
    let all = places_cons r rows in
    let front : places_in (take (suc j) ((r ∷ rows) ++ more)) ≡ length r.tree.places + places_in (take j (rows ++ more)) = places_cons r (take j (rows ++ more)) in
    omega (arith, h, all, front)

-- ---- spots and numbers

pub spot_id : (rows : List PlacedRow) (j : ℕ) (s : linked.Spot) (row : PlacedRow) → slice_get rows j ≡ Some row → s.id ≡ row.id → s.nth ≡ length (rows_of row.id (take j rows)) → slice_get (rows_of s.id rows) s.nth ≡ Some row.tree
spot_id rows j s row e id nth =
    subst (λ i. slice_get (rows_of i rows) s.nth ≡ Some row.tree) (sym id)
    (subst (λ n. slice_get (rows_of row.id rows) n ≡ Some row.tree) (sym nth) (row_at rows j row e))

number_stays : (rows more : List PlacedRow) (s : linked.Spot) (m : ℕ) → IsNumber rows s m → IsNumber (rows ++ more) s m
number_stays rows more s m h =
    let i = h.is_spot in
    let kept = take_kept rows more h.spot.row i.row i.is_row in
    record {
      spot = h.spot;
      is_spot = record {
        row = i.row;
        is_row = slice_get-front rows more h.spot.row i.row i.is_row;
        id = i.id;
        nth = i.nth ∙ ap (λ x. length (rows_of i.row.id x)) (sym kept);
        at = i.at;
      };
      is_number = h.is_number ∙ ap (λ x. places_in x + s.at) (sym kept);
    }

place_within : (rows : List PlacedRow) (s : linked.Spot) (m : ℕ) (stands : Place) → IsNumber rows s m → place_at rows s ≡ Some stands → m < places_in rows
place_within rows s m stands h here =
    let i = h.is_spot in
    let tree = spot_id rows h.spot.row s i.row i.is_row i.id i.nth in
    let there : slice_get i.row.tree.places s.at ≡ Some stands = ap (option_and_then (λ (t : PlaceTree). slice_get t.places s.at)) (sym tree) ∙ here in
    let within = got_within i.row.tree.places s.at stands there in
    let before = before_row rows h.spot.row i.row i.is_row in
    let number = h.is_number in
    omega (arith, within, before, number)

first_among : (rows more : List PlacedRow) (stands : Place) (number : ℕ) → IsFirst rows stands number → (other : linked.Spot) (m : ℕ) → place_at (rows ++ more) other ≡ Some stands → (n : IsNumber (rows ++ more) other m) → (o : Option PlacedRow) → slice_get rows n.spot.row ≡ o → number ≤ m
first_among rows more stands number f other m here n None e =
    let within = place_within rows f.spot number stands f.is_number f.here in
    let later = before_later rows more n.spot.row e in
    let is = n.is_number in
    omega (arith, within, later, is)
first_among rows more stands number f other m here n (Some row) e =
    let i = n.is_spot in
    let some : Some row ≡ Some i.row = sym (slice_get-front rows more n.spot.row row e) ∙ i.is_row in
    let same : row ≡ i.row = cc in
    let got : slice_get rows n.spot.row ≡ Some i.row = e ∙ ap Some same in
    let kept = take_kept rows more n.spot.row i.row got in
    let nth : other.nth ≡ length (rows_of i.row.id (take n.spot.row rows)) = i.nth ∙ ap (λ x. length (rows_of i.row.id x)) kept in
    let old : IsNumber rows other m = record {
      spot = n.spot;
      is_spot = record { row = i.row; is_row = got; id = i.id; nth = nth; at = i.at };
      is_number = n.is_number ∙ ap (λ x. places_in x + other.at) kept;
    } in
    let has = spot_id rows n.spot.row other i.row got i.id nth in
    f.first other m (sym (places-stay rows more other (i.row.tree, has)) ∙ here) old

first_stays : (rows more : List PlacedRow) (stands : Place) (number : ℕ) → IsFirst rows stands number → IsFirst (rows ++ more) stands number
first_stays rows more stands number f =
    record {
      spot = f.spot;
      here = place-more rows more f.spot stands f.here;
      is_number = number_stays rows more f.spot number f.is_number;
      first = λ other m here n. first_among rows more stands number f other m here n (slice_get rows n.spot.row) refl;
    }

pub mark_stays : (rows more : List PlacedRow) (k : Identity) (mark : ℕ) → IsMark rows k mark → IsMark (rows ++ more) k mark
mark_stays rows more (made_at s) mark h = number_stays rows more s mark h
mark_stays rows more (promise_of id) mark h = first_stays rows more (place.Promise id) mark h
mark_stays rows more (action_of id) mark h = first_stays rows more (place.Action id) mark h
mark_stays rows more (stream_of id) mark h = h
