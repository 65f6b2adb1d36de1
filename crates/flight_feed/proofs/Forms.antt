-- Whole rows, and whether their payload is what it has to be.
use Rattle.std.proofs.Common.{◌≡◌, ℕ, ◌≤◌, List, ◌++◌, length, take, refl, sym, subst}
use Rattle.flight_row.specs.declared.row.RowKind.{RowKind}
use Rattle.flight_row.specs.declared.row.RowKind.TheVariants.{Model, Import, Error, Text, Open, Close}
use Rattle.flight_row.specs.Rows.{IsLineRow, IsRow, SpellsHint, SpellsItem}
use Rattle.flight_row.proofs.Tags.{tag_of-not_text}
use Rattle.flight_feed.specs.declared.fault.FeedKind.{FeedKind}
use Rattle.flight_feed.specs.declared.fault.FeedKind.TheVariants.{BadText}
use Rattle.flight_feed.specs.declared.begun.Coming.{Coming}
use Rattle.flight_feed.specs.declared.begun.Coming.TheVariants.{Row as ARow, Hint as AHint}
use Rattle.flight_feed.specs.declared.begun.Stop.{Stop}
use Rattle.flight_feed.specs.declared.begun.Stop.TheVariants.{Refused, Memory}
use Rattle.flight_feed.specs.Faults.{IsBad}
use Rattle.flight_feed.specs.Begun.{IsFit, item_of, IsStopAt}

-- the bytes are whole, whatever the payload says
abbrev pub HasForm : Coming → List ℕ → List ℕ → Type 0
HasForm (ARow id kind) bytes payload = IsRow kind bytes id payload
HasForm AHint bytes payload = SpellsHint bytes

pub line_row : (kind : RowKind) (bytes : List ℕ) (id : ℕ) (payload : List ℕ) → IsLineRow bytes id kind payload → IsRow kind bytes id payload
line_row Model bytes id payload r = r
line_row Import bytes id payload r = r
line_row Error bytes id payload r = r
line_row Text bytes id payload r = absurd (tag_of-not_text r.is_head.byte r.is_head.says)
line_row (Open flow) bytes id payload r = r
line_row Close bytes id payload r = r

pub spells_item : (c : Coming) (bytes payload : List ℕ) → HasForm c bytes payload → IsFit c payload → SpellsItem bytes (item_of c payload)
spells_item (ARow id kind) bytes payload form fit = (form, fit)
spells_item AHint bytes payload form fit = form

no_text : (c : Coming) (bytes payload : List ℕ) → HasForm c bytes payload → ¬ IsFit c payload → IsBad BadText bytes
no_text (ARow i k) bytes p form unfit = record { id = i; kind = k; payload = p; is_row = form; not_text = unfit }
no_text AHint bytes p form unfit = absurd (unfit tt)

-- where the row is whole, and its payload is not what it has to be
pub stop_at_end : (s : Stop) (c : Coming) (old piece payload : List ℕ) (n : ℕ) → ((kind : FeedKind) → s ≡ Refused kind → (kind ≡ BadText) × ¬ IsFit c payload) → HasForm c (old ++ take n piece) payload → n ≤ length piece → IsStopAt old piece s
stop_at_end Memory c old piece payload n unfit form within = tt
stop_at_end (Refused kind) c old piece payload n unfit form within =
    let q = unfit kind refl in
    (n, within, subst (λ k. IsBad k (old ++ take n piece)) (sym q.0) (no_text c (old ++ take n piece) payload form q.1))
