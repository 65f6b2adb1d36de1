use Rattle.std.proofs.Common.{◌≡◌, ℕ, arith, refl, inr}
use Rattle.flight_row.specs.declared.row.RowKind.TheVariants.{Text}
use Rattle.flight_feed.specs.declared.begun.Coming.TheVariants.{Row}
use Rattle.flight_feed.specs.Begun.{item_of}
use Rattle.flight_feed.proofs.Heads.{first_goes}
use Rattle.flight_feed.proofs.Texts.{whole_head}
use Rattle.flight_feed.proofs.head.head_byte.Goals as goal

pub returns-in-Err-clause-refused : goal.returns-in-Err-clause-refused
returns-in-Err-clause-refused c =
    let same = first_goes c.args.begun.now.mode c.args.begun.now.head.items c.args.begun.now.payload.items c.args.piece.now c.requires.begins.begins c.requires.head c.requires.some in
    (1, omega arith, rw same (rw c.deref.ensures.value at c.in-Err.ensures.err))

pub returns-in_ok-finish-clause-ok : goal.returns-in_ok-finish-clause-ok
returns-in_ok-finish-clause-ok c =
    let b = c.args.begun.now in
    let id : ℕ = c.in-Text.id in
    let none : c.in-Text.left ≡ 0 = c.if-left-eq0.true in
    let begins = rw (c.deref.ensures.value, c.in-Text.is, none) at c.in-Ok.ensures.ok in
    let whole = whole_head b.mode b.head.items b.payload.items c.args.piece.now id c.requires.begins.begins c.requires.head c.requires.some begins in
    let fresh = c.in_ok-finish.ensures.fresh in
    inr (
      item_of (Row id Text) b.payload.items,
      c.in_ok-finish.ensures.rows,
      (whole, c.in_ok-finish.ensures.fit),
      rw (fresh.head, fresh.payload) refl,
      fresh.next,
    )
