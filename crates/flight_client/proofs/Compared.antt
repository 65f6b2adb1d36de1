-- Two readings of one text, side by side.
use Rattle.std.proofs.Common.{◌≡◌, ℕ, List, [], ◌∷◌, ◌++◌, refl, sym, ◌∙◌, ap, subst, append_assoc}
use Rattle.std.specs.List.{AllZip}
use Rattle.flight_row.specs.declared.row.Row.{Row}
use Rattle.flight_row.specs.Rows.{Item, handed, rows_of, SpellsItem, SpellAll}
use Rattle.flight_feed.proofs.Scan.{scan, start}
use Rattle.flight_feed.proofs.Readings.{item_whole, one_item, IsTail}
use Rattle.flight_place.specs.declared.manner.Manner.TheVariants.{Wire}
use Rattle.flight_meaning.specs.declared.place.PlacedRow.{PlacedRow}
use Rattle.flight_place.proofs.Trees.{tree-one}
use Rattle.flight_client.specs.Rows.{IsPlacedRow, ArePlaced}
use Rattle.flight_client.proofs.Items.{rows_of-append}

-- ---- items

-- a text goes on with this item
pub record GoesOn (tail : List ℕ) (item : Item) : Type 0 where
  pub first : List ℕ
  pub others : List ℕ
  pub split : tail ≡ first ++ others
  pub spells : SpellsItem first item

pub no_tail : (tail : List ℕ) (item : Item) → IsTail tail → GoesOn tail item → ⊥
no_tail tail item t g = t item g.others (ap (scan start) g.split ∙ item_whole item g.first g.others g.spells)

pub one_next : (tail : List ℕ) (i j : Item) → GoesOn tail i → GoesOn tail j → i ≡ j
one_next tail i j g h = (one_item i j g.first h.first g.others h.others g.spells h.spells (sym g.split ∙ h.split)).0

-- items and what is behind them: the same, or one of the lists goes on where the other stops
pub data Compared (is js : List Item) (t u : List ℕ) : Type 0 where
  same : is ≡ js → t ≡ u → Compared is js t u
  longer : (i : Item) (more : List Item) → js ≡ is ++ i ∷ more → GoesOn t i → Compared is js t u
  shorter : (i : Item) (more : List Item) → is ≡ js ++ i ∷ more → GoesOn u i → Compared is js t u

behind_one : (i j : Item) (is js : List Item) (t u : List ℕ) → i ≡ j → Compared is js t u → Compared (i ∷ is) (j ∷ js) t u
behind_one i j is js t u e (same a b) = same (ap (λ xs. i ∷ xs) a ∙ ap (λ x. x ∷ js) e) b
behind_one i j is js t u e (longer k more a b) = longer k more (ap (λ xs. j ∷ xs) a ∙ ap (λ x. x ∷ (is ++ k ∷ more)) (sym e)) b
behind_one i j is js t u e (shorter k more a b) = shorter k more (ap (λ xs. i ∷ xs) a ∙ ap (λ x. x ∷ (js ++ k ∷ more)) e) b

pub compare : (is js : List Item) (f g t u : List ℕ) → SpellAll f is → SpellAll g js → f ++ t ≡ g ++ u → Compared is js t u
compare [] [] f g t u h k e =
    let left : t ≡ f ++ t = rw h refl in
    let right : g ++ u ≡ u = rw k refl in
    same refl (left ∙ (e ∙ right))
compare [] (j ∷ js) f g t u h k e =
    let left : t ≡ f ++ t = rw h refl in
    let right : g ++ u ≡ k.0 ++ (k.1 ++ u) = rw k.2 (append_assoc k.0 k.1 u) in
    longer j js refl (record { first = k.0; others = k.1 ++ u; split = left ∙ (e ∙ right); spells = k.3 })
compare (i ∷ is) [] f g t u h k e =
    let left : u ≡ g ++ u = rw k refl in
    let right : f ++ t ≡ h.0 ++ (h.1 ++ t) = rw h.2 (append_assoc h.0 h.1 t) in
    shorter i is refl (record { first = h.0; others = h.1 ++ t; split = left ∙ (sym e ∙ right); spells = h.3 })
compare (i ∷ is) (j ∷ js) f g t u h k e =
    let left : f ++ t ≡ h.0 ++ (h.1 ++ t) = rw h.2 (append_assoc h.0 h.1 t) in
    let right : g ++ u ≡ k.0 ++ (k.1 ++ u) = rw k.2 (append_assoc k.0 k.1 u) in
    let both : h.0 ++ (h.1 ++ t) ≡ k.0 ++ (k.1 ++ u) = sym left ∙ (e ∙ right) in
    let first = one_item i j h.0 k.0 (h.1 ++ t) (k.1 ++ u) h.3 k.3 both in
    behind_one i j is js t u first.0 (compare is js h.1 k.1 t u h.4 k.4 first.1)

-- ---- their rows

one_row : (r : Row) (p q : PlacedRow) → IsPlacedRow r p → IsPlacedRow r q → p ≡ q
one_row r p q a b =
    let id : p.id ≡ q.id = a.same_id ∙ sym b.same_id in
    let tree : p.tree ≡ q.tree = tree-one Wire r p.tree q.tree a.is_tree b.is_tree in
    ap (λ (x : ℕ). record { id = x; tree = p.tree }) id ∙ ap (λ t. record { id = q.id; tree = t }) tree

one_placed_of : (rs : List Row) (p q : List PlacedRow) → AllZip IsPlacedRow rs p → AllZip IsPlacedRow rs q → p ≡ q
one_placed_of [] [] [] a b = refl
one_placed_of [] [] (y ∷ q) a b = absurd b
one_placed_of [] (x ∷ p) q a b = absurd a
one_placed_of (r ∷ rs) [] q a b = absurd a
one_placed_of (r ∷ rs) (x ∷ p) [] a b = absurd b
one_placed_of (r ∷ rs) (x ∷ p) (y ∷ q) a b = ap (λ z. z ∷ p) (one_row r x y a.0 b.0) ∙ ap (λ z. y ∷ z) (one_placed_of rs p q a.1 b.1)

pub one_placed : (items : List Item) (p q : List PlacedRow) → ArePlaced items p → ArePlaced items q → p ≡ q
one_placed items p q a b = one_placed_of (rows_of items) p q a b

-- rows with one among them
pub record HasAmong (rs : List Row) (r : Row) (q : List PlacedRow) : Type 0 where
  pub before : List PlacedRow
  pub here : PlacedRow
  pub after : List PlacedRow
  pub split : q ≡ before ++ here ∷ after
  pub placed : AllZip IsPlacedRow rs before
  pub is_here : IsPlacedRow r here

among_of : (rs : List Row) (r : Row) (more : List Row) (q : List PlacedRow) → AllZip IsPlacedRow (rs ++ r ∷ more) q → HasAmong rs r q
among_of [] r more [] h = absurd h
among_of [] r more (x ∷ q) h = record { before = []; here = x; after = q; split = refl; placed = tt; is_here = h.0 }
among_of (s ∷ rs) r more [] h = absurd h
among_of (s ∷ rs) r more (x ∷ q) h =
    let rest = among_of rs r more q h.1 in
    record {
      before = x ∷ rest.before;
      here = rest.here;
      after = rest.after;
      split = ap (λ z. x ∷ z) rest.split;
      placed = (h.0, rest.placed);
      is_here = rest.is_here;
    }

pub among : (items : List Item) (r : Row) (more : List Item) (q : List PlacedRow) → ArePlaced (items ++ handed r ∷ more) q → HasAmong (rows_of items) r q
among items r more q h = among_of (rows_of items) r (rows_of more) q (subst (λ rs. AllZip IsPlacedRow rs q) (rows_of-append items (handed r ∷ more)) h)
