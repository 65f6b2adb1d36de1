use Rattle.std.proofs.Common.{◌<◌, length, refl}
use Rattle.flight_link.specs.Nodes.{spot_of}
use Rattle.flight_link.proofs.LaidOut.{entries_none, entries_more}
use Rattle.flight_link.proofs.table.Table.push_entries.Goals as goal

pub loop-number-init : goal.loop-number-init
loop-number-init c = entries_none c.args.self.now.rows.items (spot_of c.args.self.now.rows.items c.args.spot) c.args.targets.now.items c.args.targets.now.items refl

pub loop-number-preserved : goal.loop-number-preserved
loop-number-preserved c =
    let less : c.loop-number.number-index < length c.args.numbers.now = c.loop-number-test.true in
    entries_more c.args.self.now.rows.items (spot_of c.args.self.now.rows.items c.args.spot) c.args.numbers.now c.loop-number.number-index c.args.targets.now.items c.loop-number.targets.items c.push_entry.new.targets.items less c.loop-number.invariant c.in_ok-push_entry.ensures
