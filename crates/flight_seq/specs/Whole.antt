-- A whole drawing.
use Rattle.std.specs.Prelude.{ℕ, ◌<◌, ◌≤◌, ◌^◌, Bool, List, length}
use Rattle.flight_value.specs.declared.graph.Node.{Node}
use Rattle.flight_value.specs.declared.graph.Slot.{Slot}
use Rattle.flight_render.specs.declared.root.Ground.{Ground}
use Rattle.flight_render.specs.Jobs.{the_root, of_job}
use Rattle.flight_seq.specs.declared.walk.Walk.{Walk}
use Rattle.flight_seq.specs.Walk.{IsWalk}
use Rattle.flight_seq.specs.Chain.{Draws}
use Rattle.flight_seq.specs.Drawing.{DrawEach}

-- the root and all nodes to which it leads
pub record IsDrawing (g : Ground) (settled : List Bool) (fuel : ℕ) (root : Slot) (nodes : List Node) (w : Walk) : Type 0 where
  pub walk : IsWalk g settled fuel w
  pub draws_root : Draws g settled w.bodies.entries w.keys.keys root (of_job the_root)
  pub each : DrawEach g settled w.bodies.entries w.keys.keys nodes
  pub all : length w.keys.keys ≤ length nodes
  pub few : length nodes < 2 ^ 32
