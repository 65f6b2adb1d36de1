-- How ids stand, and which rows may follow.
use Rattle.std.proofs.Common.{◌≡◌, ◌≢◌, ℕ, true, false, List, [], ◌∷◌, Option, Some, None, refl, sym, ◌∙◌, ap, subst}
use Rattle.std.specs.Prelude.{is_some}
use Rattle.std.proofs.lemmas.Bool.{false≢true}
use Rattle.flight_row.specs.declared.row.RowKind.{RowKind}
use Rattle.flight_row.specs.declared.row.RowKind.TheVariants as row
use Rattle.flight_meaning.specs.declared.place.PlaceTree.{PlaceTree}
use Rattle.flight_meaning.specs.declared.place.PlacedRow.{PlacedRow}
use Rattle.flight_meaning.specs.Linked.{rows_of, goes, refused, absent, defined, twice, next, after}
use Rattle.flight_place.proofs.Within.{tree_within}
use Rattle.flight_place.proofs.Rooted.{IsOfStream, tree_root}
use Rattle.flight_place.proofs.Told.{tree_told}
use Rattle.flight_place.proofs.Ordered.{tree_ordered}
use Rattle.flight_place.proofs.Atoms.{tree_valid}
use Rattle.flight_link.specs.Adding.{IsPlaced, is_of_stream, HasVerdict, MayFollow, IsRefused}
use Rattle.flight_link.specs.declared.fault.LinkKind.{LinkKind}
use Rattle.flight_link.specs.declared.fault.LinkKind.TheVariants as kind
use Rattle.flight_link.specs.Nodes.{IsPlainOf, IsPlain, IsFine, IsRowOf}
use Rattle.flight_link.proofs.PlainRows.{one_row}

-- ---- whether an id has a row

pub row_known : (rows : List PlacedRow) (id : ℕ) (n : Option ℕ) → IsPlain rows → IsRowOf rows id n → (is_some n ≡ true → rows_of id rows ≢ []) × (rows_of id rows ≢ [] → is_some n ≡ true)
row_known rows id None plain h = (λ e. absurd (false≢true e), λ ne. absurd (ne h))
row_known rows id (Some n) plain h = (λ e none. filled (rows_of id rows) (h.0.tree) (subst (λ i. rows_of i rows ≡ h.0.tree ∷ []) h.2 (one_row rows n h.0 plain h.1)) none, λ ne. refl)
  where
    filled : (ts : List PlaceTree) (t : PlaceTree) → ts ≡ t ∷ [] → ts ≡ [] → ⊥
    filled ts t e f = cc

pub row_unknown : (rows : List PlacedRow) (id : ℕ) (n : Option ℕ) → IsRowOf rows id n → is_some n ≡ false → rows_of id rows ≡ []
row_unknown rows id None h e = h
row_unknown rows id (Some n) h e = absurd (false≢true (sym e))

-- ---- rows of which each id has one

filled_some : (ts : List PlaceTree) → IsPlainOf ts → ts ≢ [] → (t : PlaceTree) × (ts ≡ t ∷ []) × (is_of_stream t.kind ≡ false)
filled_some [] p ne = absurd (ne refl)
filled_some (t ∷ []) p ne = (t, refl, p)
filled_some (t ∷ u ∷ ts) p ne = absurd p

begins : (k : RowKind) → is_of_stream k ≡ false → next absent k ≡ goes defined
begins (row.Open flow) e = cc
begins row.Close e = cc
begins row.Model e = refl
begins row.Import e = refl
begins row.Error e = refl
begins row.Text e = refl

again : (k : RowKind) → is_of_stream k ≡ false → next defined k ≡ refused twice
again (row.Open flow) e = cc
again row.Close e = cc
again row.Model e = refl
again row.Import e = refl
again row.Error e = refl
again row.Text e = refl

pub may_follow : (rows : List PlacedRow) (id : ℕ) (k : RowKind) → rows_of id rows ≡ [] → is_of_stream k ≡ false → MayFollow rows id k
may_follow rows id k none e = (e, (defined, (absent, ap (after (goes absent)) none, begins k e)))

pub is_twice : (rows : List PlacedRow) (id : ℕ) (k : RowKind) → IsPlain rows → rows_of id rows ≢ [] → is_of_stream k ≡ false → HasVerdict rows id k (refused twice)
is_twice rows id k plain some e =
    let t = filled_some (rows_of id rows) (plain id) some in
    (defined, ap (after (goes absent)) t.1 ∙ ap (λ v. after v []) (begins t.0.kind t.2), again k e)

pub refuses_not_built : (rows : List PlacedRow) (id : ℕ) (of_kind : RowKind) (k : LinkKind) → kind.NotBuilt id ≡ k → is_of_stream of_kind ≡ true → IsRefused rows id of_kind k
refuses_not_built rows id of_kind k e h = subst (IsRefused rows id of_kind) e (refl, h)

pub refuses_twice : (rows : List PlacedRow) (id : ℕ) (of_kind : RowKind) (k : LinkKind) → kind.Twice id ≡ k → IsPlain rows → rows_of id rows ≢ [] → is_of_stream of_kind ≡ false → IsRefused rows id of_kind k
refuses_twice rows id of_kind k e plain some h = subst (IsRefused rows id of_kind) e (refl, h, is_twice rows id of_kind plain some h)

-- ---- a row that is no row of a stream is fine

not_of_stream : (k : RowKind) → is_of_stream k ≡ false → ¬ IsOfStream k
not_of_stream (row.Open flow) e h = cc
not_of_stream row.Close e h = cc
not_of_stream row.Model e h = h
not_of_stream row.Import e h = h
not_of_stream row.Error e h = h
not_of_stream row.Text e h = h

pub is_fine : (id : ℕ) (t : PlaceTree) → IsPlaced id t → is_of_stream t.kind ≡ false → IsFine (record { id = id; tree = t })
is_fine id t placed e = record {
  within = tree_within placed.0 placed.1.0 t placed.1.2;
  rooted = tree_root placed.0 placed.1.0 t placed.1.2 (not_of_stream t.kind e);
  told = tree_told placed.0 placed.1.0 t placed.1.2;
  valid = tree_valid placed.0 placed.1.0 t placed.1.2;
  ordered = tree_ordered placed.0 placed.1.0 t placed.1.2;
}
