use Rattle.std.proofs.Common.{◌≡◌, Some, subst, sym}
use Rattle.flight_render.specs.Values.{made_in}
use Rattle.flight_render.specs.Bodies.{element_of}
use Rattle.flight_eval.specs.Gives.{work_of}
use Rattle.flight_eval.proofs.Starts.{element_given}
use Rattle.flight_eval.proofs.start.element_body.Goals as goal

pub returns-in-Some : goal.returns-in-Some
returns-in-Some c =
    let place = c.args.place.now in
    let n = c.args.element.now in
    let found = subst (λ z. element_of (made_in z n) ≡ Some (c.in-Some.component, c.in-Some.props.now)) c.as_slice.ensures (sym c.in-Some.ensures) in
    element_given place.fuel place.over.now place.seen.now.settled n place.address.now place.tables.now.made c.in-Some.component c.in-Some.props.now c.component_body.result (work_of c.component_body.new.work) c.requires.address found c.component_body.ensures
