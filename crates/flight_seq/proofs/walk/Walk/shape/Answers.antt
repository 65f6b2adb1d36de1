use Rattle.std.proofs.Common.{sym}
use Rattle.flight_seq.specs.Held.{shape_for}
use Rattle.flight_seq.proofs.Results.{if_ok}
use Rattle.flight_seq.proofs.Shapes.{made_node, stream_node}
use Rattle.flight_seq.proofs.Walks.{node_known}
use Rattle.flight_seq.proofs.walk.Walk.shape.Goals as goal

pub returns-in-Some : goal.returns-in-Some
returns-in-Some c =
    let g = c.args.ground.now in
    let s = c.args.seen.now.settled in
    if_ok c.shape_of_made.result _ _ (λ shape h fuel w. made_node g s c.args.key.now c.in-Made.name c.in-Some.made.now (shape_for shape) c.in-Made.is (node_known g s fuel c.args.self.now.bodies.entries c.in-Made.name c.in-Some.made.now w.bodies (sym c.in-Some.ensures)) h) c.shape_of_made.ensures

pub returns-in-Some-stream_at : goal.returns-in-Some-stream_at
returns-in-Some-stream_at c =
    if_ok c.flow_of.result _ _ (λ shape h fuel w. stream_node c.args.ground.now c.args.seen.now.settled c.args.key.now c.in-Stream.stream c.in-Some-stream_at.flowing.now (shape_for shape) c.in-Stream.is c.in-Some-stream_at.ensures h) c.flow_of.ensures
