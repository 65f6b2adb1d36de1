use Rattle.flight_link.proofs.Targets.{missing_absent, missing_waits, missing_ring}
use Rattle.flight_link.specs.declared.node.State.TheVariants.{Behind}
use Rattle.flight_link.specs.Waiting.{IsResolved, WaitsFor, WaitsForever}
use Rattle.flight_link.specs.Targets.{IsMissing}
use Rattle.std.proofs.Common.{ℕ, Option, Some, None, subst}
use Rattle.std.specs.Prelude.{MatchOption}
use Rattle.flight_link.proofs.table.Table.missing.Goals as goal

pub returns-in-Absent : goal.returns-in-Absent
returns-in-Absent c = missing_absent c.args.self.now c.args.states.now c.args.id c.args.names.now (subst (IsResolved c.args.self.now c.args.states.now c.args.id c.args.names.now) c.in-Absent.is c.requires.resolved)

pub returns-in-Behind : goal.returns-in-Behind
returns-in-Behind c = go c.awaited.result c.awaited.ensures
  where
    behind : IsResolved c.args.self.now c.args.states.now c.args.id c.args.names.now (Behind c.in-Behind.node c.in-Behind.left)
    behind = subst (IsResolved c.args.self.now c.args.states.now c.args.id c.args.names.now) c.in-Behind.is c.requires.resolved

    go : (o : Option ℕ) → MatchOption o (WaitsForever c.args.self.now c.in-Behind.node) (WaitsFor c.args.self.now c.in-Behind.node) → IsMissing c.args.self.now.rows.items c.args.id c.args.names.now o
    go (Some wanting) h = missing_waits c.args.self.now c.args.states.now c.args.id c.args.names.now c.in-Behind.node c.in-Behind.left wanting behind h
    go None h = missing_ring c.args.self.now c.args.states.now c.args.id c.args.names.now c.in-Behind.node c.in-Behind.left behind h
