use Rattle.std.proofs.Common.{◌/◌, length, sym, arith}
use borrow.Author.Tests.{ltb-false}
use Rattle.flight_graph.proofs.Slots.{get-key, get-value, get-past}
use Rattle.flight_graph.proofs.sight.slot_of_pair.Goals as goal

pub returns-in-Some : goal.returns-in-Some
returns-in-Some c =
    let h = c.in-Some.ensures in
    get-key c.args.pairs.now (c.args.number / 2) c.args.number c.in-Some.pair.now h.lookup.3.0 h.lookup.1 (omega (arith, c.if-number-eq0.true))

pub returns-in-Some-2 : goal.returns-in-Some-2
returns-in-Some-2 c =
    let h = c.in-Some.ensures in
    get-value c.args.pairs.now (c.args.number / 2) c.args.number c.in-Some.pair.now h.lookup.3.0 h.lookup.1 (omega (arith, c.if-number-eq0.false))

pub returns-in-None : goal.returns-in-None
returns-in-None c =
    let h = c.in-None.ensures in
    get-past c.args.pairs.now c.args.number (omega (arith, ltb-false (c.args.number / 2) (length c.args.pairs.now) (sym h.lookup.0)))
