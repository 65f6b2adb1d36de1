use Rattle.std.proofs.Common.{◌∙◌, ap, sym, map}
use Rattle.flight_render.specs.Run.{gave}
use Rattle.flight_render.specs.Jobs.{comes}
use Rattle.flight_render.specs.Plain.{flow_last, last_job}
use Rattle.flight_seq.specs.declared.held.Held.TheVariants as held
use Rattle.flight_seq.specs.Held.{shape_for, value_held}
use Rattle.flight_seq.specs.Sources.{behind, stream_shape}
use Rattle.flight_seq.proofs.Flows.{closed_shape, stops_last, last_by, last_none, if_made}
use Rattle.flight_seq.proofs.flow.last_of.Goals as goal

pub returns-in_default : goal.returns-in_default
returns-in_default c =
    let g = c.args.ground.now in
    let s = c.args.seen.now.settled in
    if_made c.closed.result _ _ (closed_shape c.args.flowing.now.flow c.args.held.items held.Blank _ (ap (λ o. flow_last (last_job o) (comes g s (last_job o))) c.in_default.is ∙ last_none g s)) c.closed.ensures

pub returns-in-Some-2 : goal.returns-in-Some-2
returns-in-Some-2 c =
    let g = c.args.ground.now in
    let s = c.args.seen.now.settled in
    let f = c.args.flowing.now.flow in
    ap shape_for c.stream_of.ensures
    ∙ (stops_last g s c.in-Some.source f c.args.held.items c.in-Some-2.state (rw c.in-Some-2.is at c.in_ok-state.ensures)
    ∙ ap (λ o. stream_shape f (behind (map value_held c.args.held.items) (flow_last (last_job o) (comes g s (last_job o))))) (sym c.in-Some.is))

pub returns-in-None : goal.returns-in-None
returns-in-None c =
    let g = c.args.ground.now in
    let s = c.args.seen.now.settled in
    let gives = rw c.in-None.is at c.in_ok-state.ensures in
    if_made c.closed-in-None.result _ _ (closed_shape c.args.flowing.now.flow c.args.held.items (held.Outcome c.in-Some.source) _
    (ap (λ o. flow_last (last_job o) (comes g s (last_job o))) c.in-Some.is ∙ last_by g s c.in-Some.source (gave gives.0) gives.1)) c.closed-in-None.ensures
