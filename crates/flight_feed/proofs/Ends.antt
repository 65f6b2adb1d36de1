-- Texts that end, and texts that begin with a written row.
use Rattle.std.proofs.Common.{◌≡◌, ℕ, ◌+◌, ◌⊎◌, inl, inr, List, [], ◌∷◌, ◌++◌, length, refl, sym, ◌∙◌, ap, append_assoc, append-nil}
use Rattle.flight_row.specs.declared.row.Row.{Row}
use Rattle.flight_row.specs.Rows.{Item, handed, SpellsItem, SpellAll}
use Rattle.flight_row.specs.Written.{spelling_of, IsWritable}
use Rattle.flight_row.proofs.Spelled.{spelling_of-Spells}
use Rattle.flight_feed.specs.declared.fault.FeedKind.{FeedKind}
use Rattle.flight_feed.specs.declared.fault.FeedKind.TheVariants.{BadId, BadTag, DevRow, BadLength, RowTooLong, BadText, Cut}
use Rattle.flight_feed.specs.Stream.{Splits, Refuses, IsCut, Fails, HasFault, HasOneEnd, IsReadBack}
use Rattle.flight_feed.proofs.Parts.{no_part}
use Rattle.flight_feed.proofs.Scan.{scan, start}
use Rattle.flight_feed.proofs.Readings.{has_one_reading, item_whole, one_item, part_tail, bad_tail, IsTail}

pub splits_whole : (text : List ℕ) (items : List Item) → SpellAll text items → Splits text items []
splits_whole text items h = record { front = text; spelled = h; whole = sym (append-nil text); is_part = no_part }

-- a fault is a cut, or stands at a byte
pub fails_cases : (kind : FeedKind) (text : List ℕ) (items : List Item) → Fails kind text items → (IsCut text items × (kind ≡ Cut)) ⊎ Refuses kind text items
fails_cases BadId text items f = inr f
fails_cases BadTag text items f = inr f
fails_cases DevRow text items f = inr f
fails_cases BadLength text items f = inr f
fails_cases RowTooLong text items f = inr f
fails_cases BadText text items f = inr f
fails_cases Cut text items f = inl (f, refl)

pub refused_fails : (kind : FeedKind) (text : List ℕ) (items : List Item) → Refuses kind text items → Fails kind text items
refused_fails BadId text items r = r
refused_fails BadTag text items r = r
refused_fails DevRow text items r = r
refused_fails BadLength text items r = r
refused_fails RowTooLong text items r = r
refused_fails BadText text items r = r
refused_fails Cut text items r = absurd r.is_bad

whole_fails : (kind : FeedKind) (text : List ℕ) (items others : List Item) → SpellAll text items → (IsCut text others × (kind ≡ Cut)) ⊎ Refuses kind text others → ⊥
whole_fails kind text items others h (inl c) =
    let same = (has_one_reading text).rows items others [] c.0.rest (splits_whole text items h) c.0.splits in
    c.0.some (sym same.1)
whole_fails kind text items others h (inr r) =
    (has_one_reading text).not_both kind items others [] (splits_whole text items h) r

both_fail : (kind kind' : FeedKind) (text : List ℕ) (items others : List Item) → (IsCut text items × (kind ≡ Cut)) ⊎ Refuses kind text items → (IsCut text others × (kind' ≡ Cut)) ⊎ Refuses kind' text others → (items ≡ others) × (kind ≡ kind')
both_fail kind kind' text items others (inl a) (inl b) =
    (((has_one_reading text).rows items others a.0.rest b.0.rest a.0.splits b.0.splits).0, a.1 ∙ sym b.1)
both_fail kind kind' text items others (inl a) (inr b) = absurd ((has_one_reading text).not_both kind' items others a.0.rest a.0.splits b)
both_fail kind kind' text items others (inr a) (inl b) = absurd ((has_one_reading text).not_both kind others items b.0.rest b.0.splits a)
both_fail kind kind' text items others (inr a) (inr b) =
    let same = (has_one_reading text).one_fault kind kind' items others a b in
    (same.1, same.0)

some_end : (text : List ℕ) → ((items : List Item) × (rest : List ℕ) × Splits text items rest) ⊎ ((kind : FeedKind) × (items : List Item) × Refuses kind text items) → ((items : List Item) × SpellAll text items) ⊎ ((number : ℕ) × (kind : FeedKind) × HasFault number kind text)
some_end text (inl (items, [], s)) = inl (items, rw (s.whole, append-nil) s.spelled)
some_end text (inl (items, b ∷ bs, s)) =
    inr (length items + 1, Cut, record { items = items; fails = record { rest = b ∷ bs; some = λ e. cc; splits = s }; is_number = refl })
some_end text (inr (kind, items, r)) =
    inr (length items + 1, kind, record { items = items; fails = refused_fails kind text items r; is_number = refl })

pub has_one_end : (text : List ℕ) → HasOneEnd text
has_one_end text =
    record {
      some = some_end text (has_one_reading text).some;
      rows = λ items others a b. ((has_one_reading text).rows items others [] [] (splits_whole text items a) (splits_whole text others b)).0;
      not_both = λ number kind items a f. whole_fails kind text items f.items a (fails_cases kind text f.items f.fails);
      one_fault = λ number number' kind kind' f g.
          let same = both_fail kind kind' text f.items g.items (fails_cases kind text f.items f.fails) (fails_cases kind' text g.items g.fails) in
          (f.is_number ∙ (ap (λ is. length is + 1) same.0 ∙ sym g.is_number), same.1);
    }

-- the first item of a text that begins with a row, and what its other items spell
first_item : (row : Row) (a more : List ℕ) (items : List Item) (front rest : List ℕ) → SpellsItem a (handed row) → SpellAll front items → a ++ more ≡ front ++ rest → IsTail rest → (others : List Item) × (behind : List ℕ) × (items ≡ handed row ∷ others) × SpellAll behind others × (more ≡ behind ++ rest)
first_item row a more [] front rest s h e tail =
    let same : a ++ more ≡ rest = rw h at e in
    absurd (tail (handed row) more (ap (scan start) (sym same) ∙ item_whole (handed row) a more s))
first_item row a more (item ∷ items) front rest s h e tail =
    let regrouped : a ++ more ≡ h.0 ++ (h.1 ++ rest) = e ∙ rw h.2 (append_assoc h.0 h.1 rest) in
    let first = one_item (handed row) item a h.0 more (h.1 ++ rest) s h.3 regrouped in
    (items, h.1, ap (λ x. x ∷ items) (sym first.0), h.4, first.1)

pub is_read_back : (row : Row) (more : List ℕ) → IsWritable row → IsReadBack row more
is_read_back row more w =
    let s : SpellsItem (spelling_of row) (handed row) = spelling_of-Spells row w in
    record {
      rows = λ items rest t.
          let first = first_item row (spelling_of row) more items t.front rest s t.spelled t.whole (part_tail rest t.is_part) in
          (first.0, first.2, record { front = first.1; spelled = first.3; whole = first.4; is_part = t.is_part });
      fault = λ kind items t.
          let first = first_item row (spelling_of row) more items t.front (t.bad ++ t.more) s t.spelled t.whole (bad_tail kind t.bad t.more t.is_bad) in
          (first.0, first.2, record { front = first.1; bad = t.bad; more = t.more; spelled = first.3; whole = first.4; is_bad = t.is_bad });
    }
