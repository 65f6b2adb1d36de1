use Rattle.flight_link.proofs.Drawing.{pair_drawn}
use Rattle.flight_link.proofs.table.Table.pair.Goals as goal

pub returns-clause-pair : goal.returns-clause-pair
returns-clause-pair c =
    pair_drawn c.args.self.now.rows.items c.slot_beside.new.numbers.keys.items c.slot_beside-2.new.numbers.keys.items c.args.spot c.beside.result c.args.place c.in-Some.key c.in-Some.value c.in_ok-key.key c.in_ok-value.value c.requires.whole.linked.table.plain c.beside.ensures c.in-Some.ensures c.in_ok-key.ensures.slot c.in_ok-value.ensures.grows c.in_ok-value.ensures.slot
