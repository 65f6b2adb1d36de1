-- Items, the rows among them, and the fronts of a text.
use Rattle.std.proofs.Common.{◌≡◌, ℕ, ◌+◌, ◌<◌, ◌^◌, All, List, [], ◌∷◌, ◌++◌, length, refl, sym, ◌∙◌, ap, arith, append_assoc}
use Rattle.std.specs.List.{AllZip}
use Rattle.std.proofs.lemmas.List.Elements.{All-cons, All-nil}
use Rattle.flight_row.specs.declared.row.RowKind.{RowKind}
use Rattle.flight_row.specs.declared.row.RowKind.TheVariants as row
use Rattle.flight_row.specs.Rows.{Item, handed, hint, rows_of, SpellAll, IsRow, IsLineHead}
use Rattle.flight_feed.specs.declared.arrived.Arrived.{Arrived}
use Rattle.flight_feed.specs.Stream.{numbered}
use Rattle.flight_meaning.specs.declared.place.PlacedRow.{PlacedRow}
use Rattle.flight_client.specs.Rows.{IsPlacedRow, ArePlaced}
use Rattle.flight_client.specs.Adding.{IsReadable}

-- ---- the rows among items

pub rows_of-append : (is js : List Item) → rows_of (is ++ js) ≡ rows_of is ++ rows_of js
rows_of-append [] js = refl
rows_of-append (handed r ∷ is) js = ap (λ rs. r ∷ rs) (rows_of-append is js)
rows_of-append (hint ∷ is) js = rows_of-append is js

pub placed_numbered : (n : ℕ) (items : List Item) (placed : List PlacedRow) → AllZip (λ a p. IsPlacedRow a.row p) (numbered n items) placed → ArePlaced items placed
placed_numbered n [] [] h = tt
placed_numbered n [] (p ∷ ps) h = absurd h
placed_numbered n (handed r ∷ items) [] h = absurd h
placed_numbered n (handed r ∷ items) (p ∷ ps) h = (h.0, placed_numbered (n + 1) items ps h.1)
placed_numbered n (hint ∷ items) ps h = placed_numbered (n + 1) items ps h

-- ---- every row has a small id and a text

small_line : (kind : RowKind) (head : List ℕ) (id : ℕ) → IsLineHead kind head id → id < 2 ^ 31
small_line row.Model head id h = h.small
small_line row.Import head id h = h.is_head.small
small_line row.Error head id h = h.is_head.small
small_line row.Text head id h = h.is_head.small
small_line (row.Open flow) head id h = h.is_head.small
small_line row.Close head id h = h.is_head.small

small_row : (kind : RowKind) (bytes : List ℕ) (id : ℕ) (payload : List ℕ) → IsRow kind bytes id payload → id < 2 ^ 31
small_row row.Model bytes id payload h = small_line row.Model h.head id h.is_head
small_row row.Import bytes id payload h = small_line row.Import h.head id h.is_head
small_row row.Error bytes id payload h = small_line row.Error h.head id h.is_head
small_row row.Text bytes id payload h = h.is_head.is_head.is_head.small
small_row (row.Open flow) bytes id payload h = small_line (row.Open flow) h.head id h.is_head
small_row row.Close bytes id payload h = small_line row.Close h.head id h.is_head

pub all_readable : (n : ℕ) (bytes : List ℕ) (items : List Item) → SpellAll bytes items → All IsReadable (numbered n items)
all_readable n bytes [] h = All-nil IsReadable
all_readable n bytes (handed r ∷ items) h =
    All-cons IsReadable (record { number = n; row = r }) (numbered (n + 1) items)
    (record { small = small_row r.kind h.0 r.id r.payload h.3.0; utf8 = h.3.1 })
    (all_readable (n + 1) h.1 items h.4)
all_readable n bytes (hint ∷ items) h = all_readable (n + 1) h.1 items h.4

-- ---- a front of items

pub spell_split : (is js : List Item) (bytes : List ℕ) → SpellAll bytes (is ++ js) → (a b : List ℕ) × (bytes ≡ a ++ b) × SpellAll a is × SpellAll b js
spell_split [] js bytes h = ([], bytes, refl, refl, h)
spell_split (i ∷ is) js bytes h =
    let rest = spell_split is js h.1 h.4 in
    (h.0 ++ rest.0, rest.1, h.2 ∙ (ap (λ xs. h.0 ++ xs) rest.2 ∙ sym (append_assoc h.0 rest.0 rest.1)), (h.0, rest.0, refl, h.3, rest.3), rest.4)

-- where among the items a row stands
pub record IsAt (n : ℕ) (items : List Item) (done : List Arrived) (a : Arrived) : Type 0 where
  pub before : List Item
  pub after : List Item
  pub split : items ≡ before ++ handed a.row ∷ after
  pub is_done : numbered n before ≡ done
  pub is_number : a.number ≡ n + length before

pub numbered_split : (n : ℕ) (items : List Item) (done : List Arrived) (a : Arrived) (rest : List Arrived) → numbered n items ≡ done ++ a ∷ rest → IsAt n items done a
numbered_split n [] [] a rest e = cc
numbered_split n [] (d ∷ done) a rest e = cc
numbered_split n (hint ∷ items) done a rest e =
    let at = numbered_split (n + 1) items done a rest e in
    record {
      before = hint ∷ at.before;
      after = at.after;
      split = ap (λ xs. hint ∷ xs) at.split;
      is_done = at.is_done;
      is_number = let number = at.is_number in omega (arith, number);
    }
numbered_split n (handed r ∷ items) [] a rest e =
    let first : record { number = n; row = r } ≡ a = cc in
    record {
      before = [];
      after = items;
      split = ap (λ x. handed x.row ∷ items) first;
      is_done = refl;
      is_number = let number = ap (λ x. x.number) first in omega (arith, number);
    }
numbered_split n (handed r ∷ items) (d ∷ done) a rest e =
    let first : record { number = n; row = r } ≡ d = cc in
    let others : numbered (n + 1) items ≡ done ++ a ∷ rest = cc in
    let at = numbered_split (n + 1) items done a rest others in
    record {
      before = handed r ∷ at.before;
      after = at.after;
      split = ap (λ xs. handed r ∷ xs) at.split;
      is_done = ap (λ x. x ∷ numbered (n + 1) at.before) first ∙ ap (λ xs. d ∷ xs) at.is_done;
      is_number = let number = at.is_number in omega (arith, number);
    }
