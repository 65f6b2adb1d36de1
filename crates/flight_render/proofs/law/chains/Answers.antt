use Rattle.flight_render.proofs.Falling.{no_loop, one_end}
use Rattle.flight_render.proofs.Larger.{there_by-shape}
use Rattle.flight_render.proofs.Reaches.{stands_for, one_slot, one_node}
use Rattle.flight_render.proofs.law.chains.Goals as goal

pub returns : goal.returns
returns c = record { no_loop = no_loop; ends = stands_for; one = one_slot; last = one_end; there = there_by-shape; node = one_node }
