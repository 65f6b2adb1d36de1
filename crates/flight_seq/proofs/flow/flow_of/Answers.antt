use Rattle.std.proofs.Common.{◌∙◌, ap, sym, ◌+◌, get_or, drop, map}
use Rattle.flight_render.specs.Run.{gave}
use Rattle.flight_render.specs.Plain.{flow}
use Rattle.flight_seq.specs.declared.held.Held.TheVariants as held
use Rattle.flight_seq.specs.Held.{shape_for, value_held}
use Rattle.flight_seq.specs.Sources.{behind, stream_shape}
use Rattle.flight_seq.proofs.Flows.{stops_item, flow_at, behind_push}
use Rattle.flight_seq.proofs.flow.flow_of.Goals as goal

pub returns-in-Some : goal.returns-in-Some
returns-in-Some c =
    let f = c.args.flowing.now in
    ap shape_for c.stream_of.ensures
    ∙ (stops_item c.args.ground.now c.args.seen.now.settled f.items c.as_slice-source-items.result.now f.last c.loop-source.source-index f.flow c.loop-source.held.items c.in-Some.state c.as_slice-source-items.ensures c.loop-source-test.true (rw c.in-Some.is at c.in_ok-state.ensures)
    ∙ ap (stream_shape f.flow) (sym c.loop-source.invariant))

pub loop-source-preserved : goal.loop-source-preserved
loop-source-preserved c =
    let f = c.args.flowing.now in
    let i = c.loop-source.source-index in
    let x = get_or c.as_slice-source-items.result.now i 0 in
    let gives = rw c.in-None.is at c.in_ok-state.ensures in
    let at = flow_at c.args.ground.now c.args.seen.now.settled f.items c.as_slice-source-items.result.now f.last i (gave gives.0) c.as_slice-source-items.ensures c.loop-source-test.true gives.1 in
    c.loop-source.invariant
    ∙ (ap (behind (map value_held c.loop-source.held.items)) at
    ∙ behind_push c.loop-source.held.items c.push.new.self.items (held.Outcome x) (flow c.args.ground.now c.args.seen.now.settled (drop (i + 1) f.items) f.last) c.in_ok-push-in-None.ensures.items)
