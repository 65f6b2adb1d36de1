use Rattle.std.proofs.Common.{◌≡◌, ℕ, List, take, ◌++◌, refl, inr, arith, ◌∙◌, ap}
use Rattle.std.specs.Prelude.{Err}
use Rattle.std.proofs.lemmas.Result.{err_from_is_err_and}
use Rattle.flight_row.specs.declared.row.RowKind.TheVariants.{Text}
use Rattle.flight_feed.specs.declared.begun.Coming.TheVariants.{Row}
use Rattle.flight_feed.specs.Begun.{bytes_of, item_of}
use Rattle.flight_feed.proofs.Forms.{HasForm, spells_item, stop_at_end}
use Rattle.flight_feed.proofs.Texts.{whole_text}
use Rattle.flight_feed.proofs.payload.text_bytes.Goals as goal

pub returns-in_err-finish-clause-refused : goal.returns-in_err-finish-clause-refused
returns-in_err-finish-clause-refused c =
    let b = c.args.begun.now in
    let piece : List ℕ = c.args.piece.now in
    let id : ℕ = c.args.id in
    let left : ℕ = c.args.left in
    let more : List ℕ = c.append.new.payload.items in
    let same : c.min-len.result ≡ left = omega arith in
    let items : more ≡ b.payload.items ++ take left piece = rw same at c.in_ok-append.ensures in
    let begins = rw c.requires.mode at c.requires.begins.begins in
    let form : HasForm (Row id Text) (bytes_of b ++ take left piece) more = rw items (whole_text b.head.items b.payload.items piece id left begins (omega arith)) in
    let p = err_from_is_err_and c.from_residual-in_err-finish.result c.from_residual-in_err-finish.ensures.1 in
    rw (p.1, p.2) (stop_at_end c.in_err-finish.field-0.0 (Row id Text) (bytes_of b) piece more left (λ kind e. c.finish.ensures.bad kind (c.in_err-finish.was ∙ ap Err e)) form (omega arith))

pub returns-clause-ok : goal.returns-clause-ok
returns-clause-ok c =
    let b = c.args.begun.now in
    let piece : List ℕ = c.args.piece.now in
    let id : ℕ = c.args.id in
    let left : ℕ = c.args.left in
    let more : List ℕ = c.append.new.payload.items in
    let same : c.min-len.result ≡ left = omega arith in
    let items : more ≡ b.payload.items ++ take left piece = rw same at c.in_ok-append.ensures in
    let begins = rw c.requires.mode at c.requires.begins.begins in
    let form : HasForm (Row id Text) (bytes_of b ++ take left piece) more = rw items (whole_text b.head.items b.payload.items piece id left begins (omega arith)) in
    let fresh = c.in_ok-finish.ensures.fresh in
    rw same (inr (
      item_of (Row id Text) more,
      c.in_ok-finish.ensures.rows,
      spells_item (Row id Text) (bytes_of b ++ take left piece) more form c.in_ok-finish.ensures.fit,
      rw (fresh.head, fresh.payload) refl,
      fresh.next,
    ))
