use Rattle.flight_render.proofs.Paid.{eval-paid}
use Rattle.flight_render.proofs.law.charges.Goals as goal

pub returns : goal.returns
returns c = λ cx t env m. (eval-paid cx t env m).least
