use Rattle.std.proofs.Common.{take, arith, ◌∙◌, ap, length-take}
use Rattle.flight_base.specs.Outside.{raised}
use Rattle.flight_base.proofs.Told.{TookFront-more}
use Rattle.flight_base.proofs.reading.read_all.Goals as goal

pub returns-then-is_err-clause-err : goal.returns-then-is_err-clause-err
returns-then-is_err-clause-err g c =
    TookFront-more
    (g.S.Source.left c.args.source.now)
    (g.S.Source.left c.turns.source)
    (g.S.Source.left c.read.new.self)
    (g.S.Source.met c.args.source.now)
    (g.S.Source.met c.turns.source)
    (g.S.Source.met c.read.new.self)
    c.turns.bytes.items
    (take c.in-Ok.count c.read.new.buf)
    c.in-Ok.count
    c.turns.invariant.told
    (c.turns.invariant.counted ∙ ap (λ n. raised (g.S.Source.met c.args.source.now) n) c.turns.bytes.ok.0)
    c.in-Ok.ensures.bytes
    (let b = c.in-Ok.ensures.bound in let l = length-take c.in-Ok.count c.read.new.buf in omega (arith, b, l))
    c.in-Ok.ensures.counted
