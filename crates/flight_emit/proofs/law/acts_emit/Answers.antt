use Rattle.flight_emit.proofs.Whole.{on_paper}
use Rattle.flight_emit.proofs.law.acts_emit.Goals as goal

pub returns : goal.returns
returns c = record { paper = on_paper }
