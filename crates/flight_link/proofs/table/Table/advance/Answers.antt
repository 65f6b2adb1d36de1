use Rattle.std.proofs.Common.{sym, subst}
use Rattle.flight_link.specs.declared.node.State.TheVariants.{Ended, Lost}
use Rattle.flight_link.proofs.Advancing.{IsBehind, behind_begins, behind_within, sound_at, behind_goes, behind_ends, behind_absent, behind_lost, behind_waits}
use Rattle.flight_link.proofs.table.Table.advance.Goals as goal

pub walks-init : goal.walks-init
walks-init c = behind_begins c.args.self.now c.args.node c.args.names.now c.requires.node

pub state_at-requires : goal.state_at-requires
state_at-requires c = behind_within c.args.self.now c.args.states.now c.args.node c.args.names.now c.walks.behind c.walks.rest.now c.requires.states c.walks.invariant

pub descend-requires-clause-stop : goal.descend-requires-clause-stop
descend-requires-clause-stop c =
    (sound_at c.args.self.now c.args.states.now c.walks.behind c.walks.invariant.has.0 (Ended c.in-Ended.spot) c.requires.states c.walks.invariant.has.1 c.in-Ended.ensures).gets.1

pub walks-preserved : goal.walks-preserved
walks-preserved c =
    subst (λ x. IsBehind c.args.self.now c.args.node c.args.names.now c.in-Behind.next x) (sym c.last_of-rest.ensures)
    (behind_goes c.args.self.now c.args.states.now c.args.node c.args.names.now c.walks.behind c.walks.rest.now c.in-Ended.spot c.in-Behind.next c.in-Behind.left c.requires.states c.walks.invariant c.in-Ended.ensures c.in-Behind.ensures.leads c.in-Behind.ensures.fewer)

pub returns-in-Ended-descend-clause-leads : goal.returns-in-Ended-descend-clause-leads
returns-in-Ended-descend-clause-leads c =
    behind_ends c.args.self.now c.args.states.now c.args.node c.args.names.now c.walks.behind c.walks.rest.now c.in-Ended.spot (Ended c.in-Ended-descend.end) c.requires.states c.walks.invariant c.in-Ended.ensures c.in-Ended-descend.ensures.leads

pub returns-in-Lost-descend-clause-leads : goal.returns-in-Lost-descend-clause-leads
returns-in-Lost-descend-clause-leads c =
    behind_ends c.args.self.now c.args.states.now c.args.node c.args.names.now c.walks.behind c.walks.rest.now c.in-Ended.spot Lost c.requires.states c.walks.invariant c.in-Ended.ensures c.in-Lost-descend.ensures.leads

pub returns-in-Absent-descend-clause-leads : goal.returns-in-Absent-descend-clause-leads
returns-in-Absent-descend-clause-leads c =
    behind_absent c.args.self.now c.args.states.now c.args.node c.args.names.now c.walks.behind c.walks.rest.now c.in-Ended.spot c.requires.states c.walks.invariant c.in-Ended.ensures c.in-Absent-descend.ensures.leads

pub returns-in-Lost-clause-leads : goal.returns-in-Lost-clause-leads
returns-in-Lost-clause-leads c =
    behind_lost c.args.self.now c.args.states.now c.args.node c.args.names.now c.walks.behind c.walks.rest.now c.requires.states c.walks.invariant c.in-Lost.ensures

pub returns-in-Absent-clause-leads : goal.returns-in-Absent-clause-leads
returns-in-Absent-clause-leads c =
    behind_waits c.args.self.now c.args.node c.args.names.now c.walks.behind c.walks.rest.now c.walks.invariant
