use Rattle.flight_link.proofs.Slots.{action_mentioned}
use Rattle.flight_link.proofs.Sights.{action_seen}
use Rattle.flight_link.proofs.table.Table.seen_action.Goals as goal

pub first_mention-requires-clause-mentioned : goal.first_mention-requires-clause-mentioned
first_mention-requires-clause-mentioned c = action_mentioned c.args.self.now.rows.items c.requires.target.0 c.args.id c.requires.target.1

pub returns : goal.returns
returns c = action_seen c.args.self.now.rows.items c.args.id c.first_mention.result c.first_mention.ensures
