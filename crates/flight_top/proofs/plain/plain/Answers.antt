use Rattle.std.proofs.Common.{codes, ap, Err}
use Rattle.flight_top.specs.declared.told.Status.TheVariants.{Bundle}
use Rattle.flight_top.specs.Plain.{IsDuePlainOf}
use Rattle.flight_top.proofs.Dues.{due_line}
use Rattle.flight_top.proofs.Plains.{plain_too_long}
use Rattle.flight_top.proofs.plain.plain.Goals as goal

pub returns-in-Err-TooLong-clause-due : goal.returns-in-Err-TooLong-clause-due
returns-in-Err-TooLong-clause-due g c =
    due_line (IsDuePlainOf c.args.fuel (g.S.Source.left c.args.source.now)) Bundle c.line.result (codes "bundle: too long\n") c.line.ensures.ok
    (plain_too_long c.args.fuel (g.S.Source.left c.args.source.now) (c.in-Err-TooLong.ensures.too_long (ap Err c.in-Err-TooLong.field-0-is)))
