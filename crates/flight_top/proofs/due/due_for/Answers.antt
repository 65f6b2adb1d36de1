use Rattle.flight_top.specs.Due.{texts}
use Rattle.flight_top.proofs.Dues.{due_plain}
use Rattle.flight_top.proofs.due.due_for.Goals as goal

pub returns-in-Some-numbered-clause-due : goal.returns-in-Some-numbered-clause-due
returns-in-Some-numbered-clause-due g c =
    due_plain (texts c.args.words.now) (g.S.Source.left c.args.source.now) c.in-Some-numbered.fuel c.plain.result c.in-Some-numbered.ensures.is c.plain.ensures.due
