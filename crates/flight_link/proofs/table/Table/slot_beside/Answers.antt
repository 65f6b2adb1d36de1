use Rattle.std.proofs.lemmas.Result.{IfOk-weaker}
use Rattle.flight_meaning.specs.Linked.{beside}
use Rattle.flight_meaning.specs.Meaning.{Written, at_place}
use Rattle.flight_link.specs.Nodes.{spot_of}
use Rattle.flight_link.specs.Drawing.{Draws}
use Rattle.flight_link.specs.Targets.{IsTargetOf}
use Rattle.flight_link.proofs.Drawing.{beside_slot}
use Rattle.flight_link.proofs.table.Table.slot_beside.Goals as goal

pub returns-clause-slot : goal.returns-clause-slot
returns-clause-slot c =
    let rows = c.args.self.now.rows.items in
    let keys = c.slot_to.new.numbers.keys.items in
    IfOk-weaker c.slot_to.result (λ slot. (w : Written) → IsTargetOf rows w c.target_written-target.result → Draws rows keys slot w) (λ slot. Draws rows keys slot (at_place (beside (spot_of rows c.args.spot) c.args.place)))
    (λ slot f. beside_slot rows keys c.args.spot c.beside-at.result c.args.place slot c.target_written-target.result c.beside-at.ensures f c.target_written-target.ensures) c.slot_to.ensures.slot
