use Rattle.flight_link.proofs.Hanging.{goes_on}
use Rattle.flight_link.proofs.table.Table.onward.Goals as goal

pub returns-in-Some : goal.returns-in-Some
returns-in-Some c = goes_on c.args.self.now c.args.states.now c.args.node c.in-Some.behind c.in-Some.left c.state_at-state.result c.moved.result c.requires.states c.state_at-state.ensures c.in-Some.ensures.0 c.moved.ensures.moves c.moved.ensures.quiet
