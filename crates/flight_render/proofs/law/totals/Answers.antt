use Rattle.flight_render.proofs.Sums.{one_total, one_within, total-within}
use Rattle.flight_render.proofs.law.totals.Goals as goal

pub returns : goal.returns
returns c = record { one = one_total; within = one_within; over = total-within }
