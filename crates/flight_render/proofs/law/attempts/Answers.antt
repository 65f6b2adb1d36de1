use Rattle.flight_render.proofs.Falling.{body_with-tables, attempt_gives}
use Rattle.flight_render.proofs.Attempted.{run_gives}
use Rattle.flight_render.proofs.law.attempts.Goals as goal

pub returns : goal.returns
returns c = record { same = body_with-tables; gives = attempt_gives; task = run_gives }
