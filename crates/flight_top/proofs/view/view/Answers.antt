use Rattle.std.proofs.Common.{codes, ap, Err}
use Rattle.flight_top.specs.declared.told.Status.TheVariants.{Stream}
use Rattle.flight_top.specs.View.{IsDueViewOf}
use Rattle.flight_top.proofs.Dues.{too_long, due_line}
use Rattle.flight_top.proofs.view.view.Goals as goal

pub returns-in-Err-TooLong-clause-due : goal.returns-in-Err-TooLong-clause-due
returns-in-Err-TooLong-clause-due g c =
    due_line (IsDueViewOf (g.S.Source.left c.args.source.now)) Stream c.line.result (codes "stream: too long\n") c.line.ensures.ok (too_long (g.S.Source.left c.args.source.now) (c.in-Err-TooLong.ensures.too_long (ap Err c.in-Err-TooLong.field-0-is)))
