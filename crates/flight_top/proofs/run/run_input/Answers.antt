use Rattle.std.proofs.Common.{codes, ap, Err, refl, inr}
use Rattle.flight_top.specs.declared.told.Status.TheVariants.{Bundle}
use Rattle.flight_top.specs.Run.{IsDueRun}
use Rattle.flight_top.proofs.Dues.{due_line}
use Rattle.flight_top.proofs.run.run_input.Goals as goal

pub returns-in-Err-NotBuilt-clause-due : goal.returns-in-Err-NotBuilt-clause-due
returns-in-Err-NotBuilt-clause-due c =
    due_line (IsDueRun c.args.input.now) Bundle c.line.result (codes "bundle: not built\n") c.line.ensures.ok (inr (c.requires, c.in-Err-NotBuilt.ensures.refused (ap Err c.in-Err-NotBuilt.field-0-is), refl))
