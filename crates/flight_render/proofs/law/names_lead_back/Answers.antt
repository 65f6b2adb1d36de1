use Rattle.flight_render.proofs.Falling.{body_at-good, good_body, good_root}
use Rattle.flight_render.proofs.law.names_lead_back.Goals as goal

pub returns : goal.returns
returns c = record { rendered = body_at-good; component = good_body; first = good_root }
