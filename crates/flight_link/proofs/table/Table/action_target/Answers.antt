use Rattle.std.proofs.Common.{sym, ◌∙◌}
use Rattle.std.proofs.lemmas.Bool.{false≢true}
use Rattle.flight_link.proofs.Targets.{action_target, no_action_target, action_awaits}
use Rattle.flight_link.proofs.table.Table.action_target.Goals as goal

pub returns-then-has_reference : goal.returns-then-has_reference
returns-then-has_reference c = action_target c.args.self.now c.args.end c.args.id c.requires.table c.requires.place (c.has_reference.ensures.0 c.if-has_reference.true)

pub returns-then-has_row : goal.returns-then-has_row
returns-then-has_row c = no_action_target c.args.self.now c.args.end c.args.id c.requires.table c.requires.place (λ x. false≢true (sym c.if-has_reference.false ∙ c.has_reference.ensures.1 x)) (c.has_row.ensures.some.0 c.if-has_row.true)

pub returns-else-has_row : goal.returns-else-has_row
returns-else-has_row c = action_awaits c.args.self.now c.args.end c.args.id c.requires.table c.requires.place (λ x. false≢true (sym c.if-has_reference.false ∙ c.has_reference.ensures.1 x)) (c.has_row.ensures.none c.if-has_row.false)
