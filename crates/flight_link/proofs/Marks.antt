-- The numbers of places among all places.
use Rattle.std.proofs.Common.{◌≡◌, ◌≢◌, ℕ, zero, suc, ◌+◌, ◌^◌, ◌<◌, ◌≤◌, List, [], ◌∷◌, ◌++◌, length, take, Some, None, slice_get, refl, sym, ◌∙◌, ap, subst, arith, inl, inr, ◌⊎◌, length-append}
use Rattle.std.specs.Prelude.{option_and_then}
use Rattle.std.proofs.lemmas.List.{take-append-le}
use Rattle.std.proofs.Math.Seq.{take-append_seam}
use Rattle.std.proofs.lemmas.List.Sums.{sum_by-append}
use Rattle.std.proofs.lemmas.Option.{none-some, same_Some, slice_get_within}
use Rattle.flight_meaning.specs.declared.place.Place.{Place}
use Rattle.flight_meaning.specs.declared.place.PlacedRow.{PlacedRow}
use Rattle.flight_meaning.specs.Linked as linked
use Rattle.flight_meaning.specs.Linked.{place_at}
use Rattle.flight_link.specs.declared.found.Spot.{Spot}
use Rattle.flight_link.specs.declared.node.State.{State}
use Rattle.flight_link.specs.declared.table.Table.{Table}
use Rattle.flight_link.specs.Marks.{AreBases, IsFirstIn, IsWhole}
use Rattle.flight_link.specs.Nodes.{IsTable, AreLinked, place_in, spot_of}
use Rattle.flight_link.specs.Spots.{places_in, IsNumber, IsFirst}
use Rattle.flight_link.proofs.Finds.{is_spot}
use Rattle.flight_link.proofs.Growing.{push_get}
use Rattle.flight_link.proofs.Defined.{place_of_row}
use Rattle.flight_link.proofs.PlainRows.{row_there, place_there, place_back}
use Rattle.flight_link.proofs.Slots.{spot_is}

-- ---- places before and within a row

places_cons : (x : PlacedRow) (xs : List PlacedRow) → places_in (x ∷ xs) ≡ length x.tree.places + places_in xs
places_cons x xs = sum_by-append (λ (q : PlacedRow). length q.tree.places) (x ∷ []) xs ∙ ap (λ n. n + places_in xs) one
  where
    one : places_in (x ∷ []) ≡ length x.tree.places
    one = omega arith

pub row_within : (rows : List PlacedRow) (i : ℕ) (r : PlacedRow) → slice_get rows i ≡ Some r → places_in (take i rows) + length r.tree.places ≤ places_in rows
row_within [] i r e = absurd (none-some r e)
row_within (x ∷ xs) zero r e =
    let same : length x.tree.places ≡ length r.tree.places = ap (λ (q : PlacedRow). length q.tree.places) (same_Some x r e) in
    let whole = places_cons x xs in
    omega (arith, same, whole)
row_within (x ∷ xs) (suc i) r e =
    let h = row_within xs i r e in
    let whole = places_cons x xs in
    let front = places_cons x (take i xs) in
    omega (arith, h, whole, front)

pub row_before : (rows : List PlacedRow) (i j : ℕ) (r : PlacedRow) → i < j → slice_get rows i ≡ Some r → places_in (take i rows) + length r.tree.places ≤ places_in (take j rows)
row_before [] i j r l e = absurd (none-some r e)
row_before (x ∷ xs) zero zero r l e = let no_less : ⊥ = omega (arith, l) in absurd no_less
row_before (x ∷ xs) (suc i) zero r l e = let no_less : ⊥ = omega (arith, l) in absurd no_less
row_before (x ∷ xs) zero (suc j) r l e =
    let same : length x.tree.places ≡ length r.tree.places = ap (λ (q : PlacedRow). length q.tree.places) (same_Some x r e) in
    let whole : places_in (take (suc j) (x ∷ xs)) ≡ length x.tree.places + places_in (take j xs) = places_cons x (take j xs) in
    omega (arith, same, whole)
row_before (x ∷ xs) (suc i) (suc j) r l e =
    let h = row_before xs i j r (omega (arith, l)) e in
    let whole : places_in (take (suc j) (x ∷ xs)) ≡ length x.tree.places + places_in (take j xs) = places_cons x (take j xs) in
    let front : places_in (take (suc i) (x ∷ xs)) ≡ length x.tree.places + places_in (take i xs) = places_cons x (take i xs) in
    omega (arith, h, whole, front)

pub base_there : (rows : List PlacedRow) (bases : List ℕ) (total i : ℕ) (r : PlacedRow) → AreBases rows bases total → slice_get rows i ≡ Some r → i < length bases
base_there rows bases total i r are e =
    let w = slice_get_within rows i r e in
    let one = are.one_each in
    omega (arith, w, one)

pub number_fits : (rows : List PlacedRow) (bases : List ℕ) (total i b n : ℕ) (r : PlacedRow) → AreBases rows bases total → slice_get rows i ≡ Some r → slice_get bases i ≡ Some b → n < length r.tree.places → b + n < 2 ^ 32
number_fits rows bases total i b n r are e at less =
    let h = row_within rows i r e in
    let is = are.before i b at in
    let all = are.is_total in
    let few = are.few in
    omega (arith, h, is, all, few, less)

pub spot_fits : (rows : List PlacedRow) (bases : List ℕ) (total b : ℕ) (s : Spot) (at : Place) → AreBases rows bases total → place_in rows s ≡ Some at → slice_get bases s.row ≡ Some b → b + s.place < 2 ^ 32
spot_fits rows bases total b s at are e is =
    let r = row_there rows s at e in
    number_fits rows bases total s.row b s.place r.0 are r.1 is (slice_get_within r.0.tree.places s.place at r.2)

pub is_number : (t : Table) (bases : List ℕ) (total b : ℕ) (s : Spot) (at : Place) → IsTable t → AreBases t.rows.items bases total → place_in t.rows.items s ≡ Some at → slice_get bases s.row ≡ Some b → IsNumber t.rows.items (spot_of t.rows.items s) (b + s.place)
is_number t bases total b s at table are e is = record {
  spot = s;
  is_spot = is_spot t.rows.items s at table.plain e;
  is_number = ap (λ x. x + s.place) (are.before s.row b is);
}

-- ---- the first mention

-- no row before has the place
abbrev pub IsNoneBefore : List PlacedRow → Place → ℕ → Type 0
IsNoneBefore rows at i = (j : ℕ) (r : PlacedRow) → j < i → slice_get rows j ≡ Some r → (m : ℕ) → slice_get r.tree.places m ≢ Some at

pub order : (i j : ℕ) → (i < j) ⊎ ((i ≡ j) ⊎ (j < i))
order zero zero = inr (inl refl)
order zero (suc j) = inl (omega arith)
order (suc i) zero = inr (inr (omega arith))
order (suc i) (suc j) = elim (order i j) [ inl h ↦ inl (omega (arith, h)) | inr h ↦ elim h [ inl e ↦ inr (inl (ap suc e)) | inr g ↦ inr (inr (omega (arith, g))) ] ]

pub is_first : (t : Table) (at : Place) (i n : ℕ) (r : PlacedRow) → IsTable t → slice_get t.rows.items i ≡ Some r → IsFirstIn r.tree.places at (Some n) → IsNoneBefore t.rows.items at i → IsFirst t.rows.items at (places_in (take i t.rows.items) + n)
is_first t at i n r table e first before = record {
  spot = spot_of t.rows.items here;
  here = place_there t.rows.items here at table.plain stands;
  is_number = record { spot = here; is_spot = is_spot t.rows.items here at table.plain stands; is_number = refl };
  first = others;
}
  where
    here : Spot
    here = record { row = i; place = n }

    stands : place_in t.rows.items here ≡ Some at
    stands = ap (λ o. option_and_then (λ (q : PlacedRow). slice_get q.tree.places n) o) e ∙ first.0

    others : (other : linked.Spot) (m : ℕ) → place_at t.rows.items other ≡ Some at → IsNumber t.rows.items other m → places_in (take i t.rows.items) + n ≤ m
    others other m there number = go (order i number.spot.row)
      where
        same : other ≡ spot_of t.rows.items number.spot
        same = spot_is t.rows.items number.spot other table.plain number.is_spot

        inside : place_in t.rows.items number.spot ≡ Some at
        inside = sym (place_of_row t.rows.items number.spot number.is_spot.row number.spot.place table.plain number.is_spot.is_row) ∙ (ap (place_at t.rows.items) (sym same) ∙ there)

        row : (q : PlacedRow) × (slice_get t.rows.items number.spot.row ≡ Some q) × (slice_get q.tree.places number.spot.place ≡ Some at)
        row = row_there t.rows.items number.spot at inside

        go : (i < number.spot.row) ⊎ ((i ≡ number.spot.row) ⊎ (number.spot.row < i)) → places_in (take i t.rows.items) + n ≤ m
        go (inl less) =
            let h = row_before t.rows.items i number.spot.row r less e in
            let w = slice_get_within r.tree.places n at first.0 in
            let is = number.is_number in
            omega (arith, h, w, is)
        go (inr (inr less)) = absurd (before number.spot.row row.0 less row.1 number.spot.place row.2)
        go (inr (inl eq)) =
            let one : r ≡ row.0 = same_Some r row.0 (sym e ∙ (ap (slice_get t.rows.items) eq ∙ row.1)) in
            let is = number.is_number in
            let at_is = number.is_spot.at in
            let base : places_in (take i t.rows.items) ≡ places_in (take number.spot.row t.rows.items) = ap (λ k. places_in (take k t.rows.items)) eq in
            let le = not_before one (order number.spot.place n) in
            omega (arith, is, at_is, base, le)
          where
            not_before : r ≡ row.0 → (number.spot.place < n) ⊎ ((number.spot.place ≡ n) ⊎ (n < number.spot.place)) → n ≤ number.spot.place
            not_before one (inl less) = absurd (first.1 number.spot.place less (ap (λ (q : PlacedRow). slice_get q.tree.places number.spot.place) one ∙ row.2))
            not_before one (inr (inl same_place)) = omega (arith, same_place)
            not_before one (inr (inr more)) = omega (arith, more)

pub none_more : (rows : List PlacedRow) (at : Place) (i : ℕ) (r : PlacedRow) → slice_get rows i ≡ Some r → IsNoneBefore rows at i → IsFirstIn r.tree.places at None → IsNoneBefore rows at (i + 1)
none_more rows at i r e before none j q less is m = go (order j i)
  where
    go : (j < i) ⊎ ((j ≡ i) ⊎ (i < j)) → slice_get q.tree.places m ≢ Some at
    go (inl l) = before j q l is m
    go (inr (inl eq)) = subst (λ (x : PlacedRow). slice_get x.tree.places m ≢ Some at) (same_Some r q (sym e ∙ (ap (slice_get rows) (sym eq) ∙ is))) (none m)
    go (inr (inr l)) = let no_less : ⊥ = omega (arith, l, less) in absurd no_less

pub none_at_all : (t : Table) (at : Place) (i : ℕ) → IsTable t → length t.rows.items ≤ i → IsNoneBefore t.rows.items at i → (s : linked.Spot) × (place_at t.rows.items s ≡ Some at) → ⊥
none_at_all t at i table long before x =
    let b = place_back t.rows.items x.0 at table.plain x.1 in
    let r = row_there t.rows.items b.0 at b.1 in
    let w = slice_get_within t.rows.items b.0.row r.0 r.1 in
    before b.0.row r.0 (omega (arith, w, long)) r.1 b.0.place r.2

-- ---- one row more

pub bases_more : (rows : List PlacedRow) (bases : List ℕ) (total : ℕ) (r : PlacedRow) → AreBases rows bases total → total + length r.tree.places ≤ 2 ^ 32 → AreBases (rows ++ r ∷ []) (bases ++ total ∷ []) (total + length r.tree.places)
bases_more rows bases total r are few = record {
  one_each = longer;
  before = before;
  is_total = sum ∙ refl;
  few = few;
}
  where
    longer : length (bases ++ total ∷ []) ≡ length (rows ++ r ∷ [])
    longer = length-append bases (total ∷ []) ∙ (ap (λ n. n + 1) are.one_each ∙ sym (length-append rows (r ∷ [])))

    sum : total + length r.tree.places ≡ places_in (rows ++ r ∷ [])
    sum =
        let parts : places_in (rows ++ r ∷ []) ≡ places_in rows + places_in (r ∷ []) = sum_by-append (λ (q : PlacedRow). length q.tree.places) rows (r ∷ []) in
        let last : places_in (r ∷ []) ≡ length r.tree.places = omega arith in
        let is = are.is_total in
        omega (arith, parts, last, is)

    before : (i b : ℕ) → slice_get (bases ++ total ∷ []) i ≡ Some b → b ≡ places_in (take i (rows ++ r ∷ []))
    before i b e = go (push_get bases total i b e)
      where
        go : (slice_get bases i ≡ Some b) ⊎ ((i ≡ length bases) × (total ≡ b)) → b ≡ places_in (take i (rows ++ r ∷ []))
        go (inl h) =
            let w = slice_get_within bases i b h in
            let one = are.one_each in
            are.before i b h ∙ ap places_in (sym (take-append-le i rows (r ∷ []) (omega (arith, w, one))))
        go (inr h) = sym h.1 ∙ (are.is_total ∙ ap places_in (sym (ap (λ k. take k (rows ++ r ∷ [])) (h.0 ∙ are.one_each) ∙ take-append_seam rows (r ∷ []))))

pub whole_more : (t : Table) (states : List State) (rows : List PlacedRow) (before after : List ℕ) (total base sum places : ℕ) (r : PlacedRow) → AreLinked t states → AreBases rows before total → t.rows.items ≡ rows ++ r ∷ [] → after ≡ before ++ base ∷ [] → base ≡ total → (sum ≡ total + places) × (sum ≤ 2 ^ 32) → places ≡ length r.tree.places → IsWhole t states after sum
whole_more t states rows before after total base sum places r linked are more longer same is count =
    let sums : sum ≡ total + length r.tree.places = is.0 ∙ ap (λ n. total + n) count in
    let few : total + length r.tree.places ≤ 2 ^ 32 = subst (λ n. n ≤ 2 ^ 32) sums is.1 in
    let bases = bases_more rows before total r are few in
    record {
      linked = linked;
      bases = subst (λ rs. AreBases rs after sum) (sym more) (subst (λ bs. AreBases (rows ++ r ∷ []) bs sum) (sym (longer ∙ ap (λ b. before ++ b ∷ []) same)) (subst (AreBases (rows ++ r ∷ []) (before ++ total ∷ [])) (sym sums) bases));
    }
