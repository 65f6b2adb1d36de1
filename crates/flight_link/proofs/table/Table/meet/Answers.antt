use Rattle.flight_link.proofs.Gaps.{draft_more}
use Rattle.flight_link.proofs.Ordering.{passed_numbered, visited, visited_turns}
use Rattle.flight_link.proofs.table.Table.meet.Goals as goal

pub returns-in_ok-visit-clause-on_way : goal.returns-in_ok-visit-clause-on_way
returns-in_ok-visit-clause-on_way c = visited c.args.self.now c.args.numbers.now.keys.items c.visit.new.numbers.keys.items c.args.waiting.now.items c.visit.new.waiting.items c.args.key c.requires.whole.linked.table c.requires.on_way c.in_ok-visit.ensures.visits

pub returns-in_ok-visit-clause-turns : goal.returns-in_ok-visit-clause-turns
returns-in_ok-visit-clause-turns c = visited_turns c.args.self.now.rows.items c.args.numbers.now.keys.items c.visit.new.numbers.keys.items c.args.waiting.now.items c.visit.new.waiting.items c.args.key c.in_ok-visit.ensures.visits

pub returns-else-is_none-clause-on_way : goal.returns-else-is_none-clause-on_way
returns-else-is_none-clause-on_way c = passed_numbered c.args.self.now.rows.items c.args.numbers.now c.args.waiting.now.items c.args.key c.number_of.result c.is_none.result c.requires.on_way c.requires.numbered c.number_of.ensures c.is_none.ensures c.if-is_none.false

pub returns-in_ok-visit-clause-drafted : goal.returns-in_ok-visit-clause-drafted
returns-in_ok-visit-clause-drafted c = draft_more c.args.self.now.rows.items c.args.numbers.now.keys.items c.visit.new.numbers.keys.items c.args.key c.args.draft.now c.visit.new.draft c.requires.drafted c.in_ok-visit.ensures.visits.keys c.in_ok-visit.ensures.drafts
