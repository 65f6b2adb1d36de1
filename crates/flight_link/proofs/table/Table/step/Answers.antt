use Rattle.std.proofs.Common.{◌∙◌, sym, refl}
use Rattle.flight_link.specs.declared.found.Spot.{Spot}
use Rattle.flight_link.proofs.Stepping.{step_stops, step_leaves, step_to, step_meets}
use Rattle.flight_link.proofs.table.Table.step.Goals as goal

pub returns-then-is_failure : goal.returns-then-is_failure
returns-then-is_failure c =
    step_stops c.args.self.now c.args.spot c.in-Some.place.now c.args.name.now c.requires.table (sym c.in-Some.ensures) (sym c.is_failure.ensures ∙ c.if-is_failure.true)

pub returns-in_default-step_down : goal.returns-in_default-step_down
returns-in_default-step_down c =
    step_leaves c.args.self.now c.args.spot c.in-Some.place.now c.args.name.now c.requires.table c.requires.stop (sym c.in-Some.ensures) (sym c.is_failure.ensures ∙ c.if-is_failure.false) (sym c.step_down.ensures ∙ c.in_default-step_down.is)

pub returns-in-Some-node : goal.returns-in-Some-node
returns-in-Some-node c =
    let next : Spot = record { row = c.args.spot.row; place = c.in-Some-step_down.number } in
    step_meets c.args.self.now c.args.spot next c.in-Some.place.now c.args.name.now c.in-Some-node.node c.requires.table c.requires.stop (sym c.in-Some.ensures) (sym c.is_failure.ensures ∙ c.if-is_failure.false) (sym c.step_down.ensures ∙ c.in-Some-step_down.is) refl (sym c.node.ensures ∙ c.in-Some-node.is)

pub returns-in-None : goal.returns-in-None
returns-in-None c =
    let next : Spot = record { row = c.args.spot.row; place = c.in-Some-step_down.number } in
    step_to c.args.self.now c.args.spot next c.in-Some.place.now c.args.name.now c.requires.table c.requires.stop (sym c.in-Some.ensures) (sym c.is_failure.ensures ∙ c.if-is_failure.false) (sym c.step_down.ensures ∙ c.in-Some-step_down.is) refl (sym c.node.ensures ∙ c.in-None.is)
