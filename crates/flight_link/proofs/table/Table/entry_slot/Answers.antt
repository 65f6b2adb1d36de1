use Rattle.flight_link.proofs.Slots.{entry_known, entry_none}
use Rattle.flight_link.proofs.table.Table.entry_slot.Goals as goal

pub returns-in-Some-clause-slot : goal.returns-in-Some-clause-slot
returns-in-Some-clause-slot c = entry_known c.args.self.now.rows.items c.args.entries c.in-Some.entry c.args.slot c.item_slot-in-Some.result c.requires.plain c.in-Some.ensures.item c.item_slot-in-Some.ensures.item

pub returns-in-None-clause-slot : goal.returns-in-None-clause-slot
returns-in-None-clause-slot c = entry_none c.args.self.now.rows.items c.args.entries c.args.slot c.requires.plain c.in-None.ensures.item
