use Rattle.std.proofs.Common.{refl, subst}
use Rattle.flight_graph.specs.Text.{text_of}
use Rattle.flight_seq.specs.Cost.{IsRendered}
use Rattle.flight_seq.specs.declared.total.Rendered.TheVariants.{Within}
use Rattle.flight_top.specs.declared.told.Status.TheVariants.{Done}
use Rattle.flight_top.specs.Plain.{IsDueGround}
use Rattle.flight_top.proofs.Dues.{due_line}
use Rattle.flight_top.proofs.plain.plain_ground.Goals as goal

pub returns-in-Ok-Within-clause-due : goal.returns-in-Ok-Within-clause-due
returns-in-Ok-Within-clause-due c =
    let is : IsRendered c.args.ground.now c.in-Ok.seen.settled c.args.fuel (Within c.in-Ok-Within.field-0-0 c.in-Ok-Within.graph) = subst (IsRendered c.args.ground.now c.in-Ok.seen.settled c.args.fuel) c.in-Ok-Within.field-0-is c.in-Ok-Within.ensures in
    due_line (IsDueGround c.args.fuel c.args.ground.now) Done c.graph_due.result (text_of c.in-Ok-Within.graph) c.graph_due.ensures.ok
    (record {
      settled = c.in-Ok.seen.settled;
      scripted = record { one_each = c.in-Ok.ensures.each; each = c.in-Ok.ensures.is };
      within = is.0.2;
      graph = c.in-Ok-Within.graph;
      valid = is.1;
      draws = is.2;
      is_text = refl;
    })
