use Rattle.std.proofs.Common.{◌≡◌, ℕ, List, ◌+◌, take, ◌++◌, refl, inr, arith, ◌∙◌, ap}
use Rattle.std.specs.Prelude.{Err}
use Rattle.std.proofs.lemmas.Result.{err_from_is_err_and}
use Rattle.flight_feed.specs.Begun.{bytes_of, item_of}
use Rattle.flight_feed.proofs.Forms.{HasForm, spells_item, stop_at_end}
use Rattle.flight_feed.proofs.Lines.{too_long, whole_line}
use Rattle.flight_feed.proofs.payload.line_bytes.Goals as goal

pub returns-then-len-clause-refused : goal.returns-then-len-clause-refused
returns-then-len-clause-refused c =
    too_long c.args.coming c.args.begun.now.head.items c.args.begun.now.payload.items c.args.piece.now c.before_newline-len.result c.requires.head c.requires.line c.requires.model c.before_newline-len.ensures.line c.before_newline-len.ensures.within (omega arith)

pub returns-in_err-finish-clause-refused : goal.returns-in_err-finish-clause-refused
returns-in_err-finish-clause-refused c =
    let b = c.args.begun.now in
    let piece : List ℕ = c.args.piece.now in
    let n : ℕ = c.before_newline-len.result in
    let more : List ℕ = c.append.new.payload.items in
    let items : more ≡ b.payload.items ++ take n piece = c.in_ok-append.ensures in
    let line = c.before_newline-len.ensures in
    let form : HasForm c.args.coming (bytes_of b ++ take (n + 1) piece) more =
    rw items (whole_line c.args.coming b.head.items b.payload.items piece n c.requires.head c.requires.line c.requires.model line.line (omega arith) (omega arith) (line.end (omega arith))) in
    let p = err_from_is_err_and c.from_residual-in_err-finish.result c.from_residual-in_err-finish.ensures.1 in
    rw (p.1, p.2) (stop_at_end c.in_err-finish.field-0.0 c.args.coming (bytes_of b) piece more (n + 1) (λ kind e. c.finish.ensures.bad kind (c.in_err-finish.was ∙ ap Err e)) form (omega arith))

pub returns-clause-ok : goal.returns-clause-ok
returns-clause-ok c =
    let b = c.args.begun.now in
    let piece : List ℕ = c.args.piece.now in
    let n : ℕ = c.before_newline-len.result in
    let more : List ℕ = c.append.new.payload.items in
    let items : more ≡ b.payload.items ++ take n piece = c.in_ok-append.ensures in
    let line = c.before_newline-len.ensures in
    let form : HasForm c.args.coming (bytes_of b ++ take (n + 1) piece) more =
    rw items (whole_line c.args.coming b.head.items b.payload.items piece n c.requires.head c.requires.line c.requires.model line.line (omega arith) (omega arith) (line.end (omega arith))) in
    let fresh = c.in_ok-finish.ensures.fresh in
    inr (
      item_of c.args.coming more,
      c.in_ok-finish.ensures.rows,
      spells_item c.args.coming (bytes_of b ++ take (n + 1) piece) more form c.in_ok-finish.ensures.fit,
      rw (fresh.head, fresh.payload) refl,
      fresh.next,
    )
