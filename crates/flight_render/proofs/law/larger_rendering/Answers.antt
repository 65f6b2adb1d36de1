use Rattle.flight_render.proofs.Larger.{body_at-keeps, node_at-keeps, tabled-keeps, job_of-keeps, job_of-none, comes-keeps, leads-keeps, node-keeps, slot-keeps, reached-keeps, rendered-keeps, stops-keeps}
use Rattle.flight_render.proofs.Closed.{stands-keeps}
use Rattle.flight_render.proofs.Sums.{total-grows}
use Rattle.flight_render.proofs.Dearer.{over-keeps}
use Rattle.flight_render.proofs.law.larger_rendering.Goals as goal

pub returns : goal.returns
returns c = record {
  bodies = body_at-keeps;
  nodes = node_at-keeps;
  tables = tabled-keeps;
  jobs = job_of-keeps;
  no_jobs = job_of-none;
  ends = comes-keeps;
  chains = leads-keeps;
  shapes = node-keeps;
  slots = slot-keeps;
  reached = reached-keeps;
  rendered = rendered-keeps;
  stands = stands-keeps;
  stops = stops-keeps;
  total = total-grows;
  over = over-keeps;
}
