use Rattle.std.proofs.Common.{rules, ◌<◌, ◌^◌, length}
use Rattle.flight_link.proofs.LaidOut.{array_laid}
use Rattle.flight_link.proofs.table.Table.lay_array.Goals as goal

pub returns : goal.returns
returns c =
    let few : length c.push_slots.new.targets.items < 2 ^ 32 = search rules in
    array_laid c.args.self.now.rows.items c.args.spot c.args.numbers.now c.args.targets.now.items c.push_slots.new.targets.items c.requires.linked.table.plain c.requires.place c.requires.empty c.in_ok-push_slots.ensures few
