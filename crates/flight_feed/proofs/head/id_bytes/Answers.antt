use Rattle.std.proofs.Common.{◌+◌, ◌<◌, length, arith}
use Rattle.flight_feed.proofs.Heads.{id_byte}
use Rattle.flight_feed.proofs.head.id_bytes.Goals as goal

pub returns-in-Err-clause-refused : goal.returns-in-Err-clause-refused
returns-in-Err-clause-refused c =
    let b = c.args.begun.now in
    let within : c.loop-at.at < length c.args.piece.now = omega arith in
    let begins = rw c.requires.mode at c.requires.begins.begins in
    let same = id_byte b.head.items b.payload.items c.loop-at.begun.head.items c.args.piece.now c.loop-at.at begins.1 c.loop-at.invariant.came within in
    (c.loop-at.at + 1, omega arith, rw same (rw c.deref.ensures.value at c.in-Err.ensures.err))
