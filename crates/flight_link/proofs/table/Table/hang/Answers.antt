use Rattle.std.proofs.Common.{sym, subst, arith}
use Rattle.flight_link.specs.Nodes.{AreStates}
use Rattle.flight_link.proofs.Hanging.{goes_within, goes_states, goes_listed, goes_fewer}
use Rattle.flight_link.proofs.table.Table.hang.Goals as goal

pub put-requires-clause-first : goal.put-requires-clause-first
put-requires-clause-first c = λ m left e.
    let w = goes_within c.args.self.now c.args.states.now c.args.node m left c.onward-next.result c.requires.states c.requires.node c.onward-next.ensures e in
    let f = c.requires.room.first in
    omega (arith, w, f)

pub returns-clause-states : goal.returns-clause-states
returns-clause-states c = subst (AreStates c.args.self.now) (sym c.put_at.ensures) (goes_states c.args.self.now c.args.states.now c.args.node c.onward-next.result c.requires.states c.requires.node c.onward-next.ensures)

pub returns-clause-listed : goal.returns-clause-listed
returns-clause-listed c = λ count below listed.
    goes_listed c.args.self.now count c.args.node c.args.states.now c.put_at.new.states c.onward-next.result c.args.backlog.now c.put.new.self c.requires.states c.requires.node c.requires.room.first c.requires.room.next c.onward-next.ensures c.put.ensures.puts c.put_at.ensures below listed

pub returns-clause-fewer : goal.returns-clause-fewer
returns-clause-fewer c = goes_fewer c.args.self.now c.args.node c.args.states.now c.put_at.new.states c.onward-next.result c.args.backlog.now c.put.new.self c.requires.states c.requires.node c.onward-next.ensures c.put.ensures.puts c.put_at.ensures
