use Rattle.std.proofs.lemmas.Result.{on_ok_weaker}
use Rattle.flight_link.proofs.LaidOut.{one_entry}
use Rattle.flight_link.proofs.table.Table.push_entry.Goals as goal

pub returns : goal.returns
returns c =
    on_ok_weaker c.push_slots.result (λ h. one_entry c.args.self.now.rows.items c.args.spot c.args.places.now c.args.number c.in-Some.key c.in-Some.value c.args.targets.now.items c.push_slots.new.targets.items c.requires.linked.table.plain c.requires.places c.in-Some.ensures h) c.push_slots.ensures
