-- The rows of sheets, by their ids.
use Rattle.std.proofs.Common.{◌≡◌, ℕ, zero, suc, ◌+◌, ◌<◌, ◌≤◌, Bool, true, false, cond, eqb, eqb-true, eq-eqb, ◌⊎◌, inl, inr, ⊎_elim, List, [], ◌∷◌, map, length, Some, option_and_then, refl, sym, ap, ◌∙◌, subst, arith}
use Rattle.std.proofs.lemmas.Option.{none-some}
use Rattle.std.specs.Prelude.{slice_get}
use Rattle.flight_value.specs.Listed.{In, Distinct}
use Rattle.flight_row.specs.declared.row.RowKind.{RowKind}
use Rattle.flight_meaning.specs.declared.place.Place.{Place}
use Rattle.flight_meaning.specs.declared.place.PlaceTree.{PlaceTree}
use Rattle.flight_meaning.specs.Linked.{rows_of, Spot, place_at}
use Rattle.flight_payload.specs.Tree.{places_from}
use Rattle.flight_state.proofs.Lists.{in_map}
use Rattle.flight_state.proofs.LastRows.{rows_of-cons}
use Rattle.flight_emit.specs.Sheet.{Drawn, tree_of, Sheet, filled, opening, id_on, row_of, rows_on, spot}
use Rattle.flight_emit.specs.Whole.{Use, ids_from}

same_id : (s : Sheet) → (row_of s).id ≡ id_on s
same_id (filled id kind d) = refl
same_id (opening id flow) = refl

-- one row more, of this id or of another
own_first : (s : Sheet) (sheets : List Sheet) → rows_of (id_on s) (rows_on (s ∷ sheets)) ≡ (row_of s).tree ∷ rows_of (id_on s) (rows_on sheets)
own_first s sheets =
    rows_of-cons (id_on s) (row_of s) (rows_on sheets)
    ∙ ap (λ b. cond b ((row_of s).tree ∷ rows_of (id_on s) (rows_on sheets)) (rows_of (id_on s) (rows_on sheets))) (eq-eqb (row_of s).id (id_on s) (same_id s))

other_first : (s : Sheet) (sheets : List Sheet) (n : ℕ) → eqb (row_of s).id n ≡ false → rows_of n (rows_on (s ∷ sheets)) ≡ rows_of n (rows_on sheets)
other_first s sheets n e = rows_of-cons n (row_of s) (rows_on sheets) ∙ ap (λ b. cond b ((row_of s).tree ∷ rows_of n (rows_on sheets)) (rows_of n (rows_on sheets))) e

-- no sheet has the id
pub none_there : (sheets : List Sheet) (n : ℕ) → (In n (map id_on sheets) → ⊥) → rows_of n (rows_on sheets) ≡ []
none_there [] n no_sheet = refl
none_there (s ∷ sheets) n no_sheet = go (none_there sheets n (λ i. no_sheet (inr i))) (eqb (row_of s).id n) refl
  where
    go : rows_of n (rows_on sheets) ≡ [] → (b : Bool) → eqb (row_of s).id n ≡ b → rows_of n (rows_on (s ∷ sheets)) ≡ []
    go none true e = absurd (no_sheet (inl (sym (eqb-true (row_of s).id n e) ∙ same_id s)))
    go none false e = other_first s sheets n e ∙ none

-- the sheet of an id gives its only row
pub row_there : (sheets : List Sheet) (s : Sheet) → Distinct (map id_on sheets) → In s sheets → rows_of (id_on s) (rows_on sheets) ≡ (row_of s).tree ∷ []
row_there [] s once i = absurd i
row_there (x ∷ sheets) s once (inl e) =
    subst (λ z. rows_of (id_on z) (rows_on (x ∷ sheets)) ≡ (row_of z).tree ∷ []) (sym e)
    (own_first x sheets ∙ ap (λ ts. (row_of x).tree ∷ ts) (none_there sheets (id_on x) once.0))
row_there (x ∷ sheets) s once (inr i) = go (row_there sheets s once.1 i) (eqb (row_of x).id (id_on s)) refl
  where
    go : rows_of (id_on s) (rows_on sheets) ≡ (row_of s).tree ∷ [] → (b : Bool) → eqb (row_of x).id (id_on s) ≡ b → rows_of (id_on s) (rows_on (x ∷ sheets)) ≡ (row_of s).tree ∷ []
    go there true e = absurd (once.0 (subst (λ z. In z (map id_on sheets)) (sym (eqb-true (row_of x).id (id_on s) e) ∙ same_id x) (in_map id_on sheets s i)))
    go there false e = other_first x sheets (id_on s) e ∙ there

-- an id has no row, or that of its sheet
pub rows_by : (sheets : List Sheet) → Distinct (map id_on sheets) → (n : ℕ) → (rows_of n (rows_on sheets) ≡ []) ⊎ ((s : Sheet) × In s sheets × (id_on s ≡ n) × (rows_of n (rows_on sheets) ≡ (row_of s).tree ∷ []))
rows_by [] once n = inl refl
rows_by (s ∷ sheets) once n = go (rows_by sheets once.1 n) (eqb (row_of s).id n) refl
  where
    go : (rows_of n (rows_on sheets) ≡ []) ⊎ ((x : Sheet) × In x sheets × (id_on x ≡ n) × (rows_of n (rows_on sheets) ≡ (row_of x).tree ∷ [])) → (b : Bool) → eqb (row_of s).id n ≡ b → (rows_of n (rows_on (s ∷ sheets)) ≡ []) ⊎ ((x : Sheet) × In x (s ∷ sheets) × (id_on x ≡ n) × (rows_of n (rows_on (s ∷ sheets)) ≡ (row_of x).tree ∷ []))
    go rest true e =
        let same = sym (same_id s) ∙ eqb-true (row_of s).id n e in
        inr (s, inl refl, same, subst (λ z. rows_of z (rows_on (s ∷ sheets)) ≡ (row_of s).tree ∷ []) same (row_there (s ∷ sheets) s once (inl refl)))
    go rest false e = ⊎_elim (λ none. inl (other_first s sheets n e ∙ none)) (λ f. inr (f.0, inr f.1, f.2, other_first s sheets n e ∙ f.3)) rest

-- two sheets of one id are one
pub one_sheet : (sheets : List Sheet) → Distinct (map id_on sheets) → (s t : Sheet) → In s sheets → In t sheets → id_on s ≡ id_on t → s ≡ t
one_sheet [] once s t i j e = absurd i
one_sheet (x ∷ sheets) once s t (inl a) (inl b) e = a ∙ sym b
one_sheet (x ∷ sheets) once s t (inl a) (inr j) e = absurd (once.0 (subst (λ z. In z (map id_on sheets)) (sym e ∙ ap id_on a) (in_map id_on sheets t j)))
one_sheet (x ∷ sheets) once s t (inr i) (inl b) e = absurd (once.0 (subst (λ z. In z (map id_on sheets)) (e ∙ ap id_on b) (in_map id_on sheets s i)))
one_sheet (x ∷ sheets) once s t (inr i) (inr j) e = one_sheet sheets once.1 s t i j e

-- ---- places

pub place_there : (sheets : List Sheet) (id : ℕ) (kind : RowKind) (d : Drawn) → Distinct (map id_on sheets) → In (filled id kind d) sheets → (n : ℕ) → place_at (rows_on sheets) (spot id n) ≡ slice_get (places_from 0 (tree_of d)) n
place_there sheets id kind d once i n = ap (λ xs. option_and_then (λ (t : PlaceTree). slice_get t.places n) (slice_get xs 0)) (row_there sheets (filled id kind d) once i)

-- a place of the rows is one of a sheet
pub record Placed (sheets : List Sheet) (s : Spot) (at : Place) : Type 0 where
  pub id : ℕ
  pub kind : RowKind
  pub drawn : Drawn
  pub is_sheet : In (filled id kind drawn) sheets
  pub number : ℕ
  pub is_spot : s ≡ spot id number
  pub is_place : slice_get (places_from 0 (tree_of drawn)) number ≡ Some at

same_spot : (id : ℕ) (s : Spot) → s.id ≡ id → s.nth ≡ 0 → s ≡ spot id s.at
same_spot id s e z = ap (λ n. record { id = n; nth = s.nth; at = s.at }) e ∙ ap (λ n. record { id = id; nth = n; at = s.at }) z

placed_on : (sheets : List Sheet) (s : Spot) (at : Place) (x : Sheet) → In x sheets → id_on x ≡ s.id → (nth : ℕ) → s.nth ≡ nth → option_and_then (λ (t : PlaceTree). slice_get t.places s.at) (slice_get ((row_of x).tree ∷ []) nth) ≡ Some at → Placed sheets s at
placed_on sheets s at (filled id kind d) i e zero z h =
    record { id = id; kind = kind; drawn = d; is_sheet = i; number = s.at; is_spot = same_spot id s (sym e) z; is_place = h }
placed_on sheets s at (opening id flow) i e zero z h = absurd (none-some at h)
placed_on sheets s at x i e (suc nth) z h = absurd (none-some at h)

pub place_back : (sheets : List Sheet) → Distinct (map id_on sheets) → (s : Spot) (at : Place) → place_at (rows_on sheets) s ≡ Some at → Placed sheets s at
place_back sheets once s at h = ⊎_elim none some (rows_by sheets once s.id)
  where
    none : rows_of s.id (rows_on sheets) ≡ [] → Placed sheets s at
    none e = absurd (none-some at (sym (ap (λ xs. option_and_then (λ (t : PlaceTree). slice_get t.places s.at) (slice_get xs s.nth)) e) ∙ h))

    some : ((x : Sheet) × In x sheets × (id_on x ≡ s.id) × (rows_of s.id (rows_on sheets) ≡ (row_of x).tree ∷ [])) → Placed sheets s at
    some f = placed_on sheets s at f.0 f.1 f.2 s.nth refl (sym (ap (λ xs. option_and_then (λ (t : PlaceTree). slice_get t.places s.at) (slice_get xs s.nth)) f.3) ∙ h)

-- ---- new ids

pub id_fresh : (start : ℕ) (us : List Use) (n : ℕ) (u : Use) → In (n, u) (ids_from start us) → (start ≤ n) × (n < start + length us)
id_fresh start [] n u i = absurd i
id_fresh start (x ∷ us) n u (inl e) = let a : n ≡ start = ap (λ p. p.0) e in (omega (arith, a), omega (arith, a))
id_fresh start (x ∷ us) n u (inr i) = let h = id_fresh (suc start) us n u i in (omega (arith, h), omega (arith, h))

pub one_use : (start : ℕ) (us : List Use) (n : ℕ) (u w : Use) → In (n, u) (ids_from start us) → In (n, w) (ids_from start us) → u ≡ w
one_use start [] n u w i j = absurd i
one_use start (x ∷ us) n u w (inl a) (inl b) = ap (λ p. p.1) a ∙ sym (ap (λ p. p.1) b)
one_use start (x ∷ us) n u w (inl a) (inr j) = let e : n ≡ start = ap (λ p. p.0) a in let h = id_fresh (suc start) us n w j in absurd (omega (arith, e, h))
one_use start (x ∷ us) n u w (inr i) (inl b) = let e : n ≡ start = ap (λ p. p.0) b in let h = id_fresh (suc start) us n u i in absurd (omega (arith, e, h))
one_use start (x ∷ us) n u w (inr i) (inr j) = one_use (suc start) us n u w i j
