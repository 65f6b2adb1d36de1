use Rattle.std.proofs.Common.{subst, sym, ◌∙◌}
use Rattle.flight_meaning.specs.Meaning.{set_token}
use Rattle.flight_link.specs.declared.node.State.TheVariants.{Ended}
use Rattle.flight_link.specs.Waiting.{IsResolved}
use Rattle.flight_link.specs.Targets.{IsTargetFrom, IsMissing}
use Rattle.flight_link.proofs.Defined.{token_never}
use Rattle.flight_link.proofs.Targets.{token_stands, token_lost, token_missing}
use Rattle.flight_link.proofs.table.Table.set_target.Goals as goal

pub returns-then-is_set_at : goal.returns-then-is_set_at
returns-then-is_set_at c =
    let h = subst (λ p. IsResolved c.args.self.now c.args.states.now c.args.reference.now.id p (Ended c.in-Ended.spot)) c.as_slice.ensures c.in-Ended.ensures in
    token_stands c.args.self.now c.args.states.now set_token c.args.end c.in-Ended.spot c.args.reference.now c.token_target.result c.requires.linked.table c.requires.place h (sym c.is_set_at.ensures ∙ c.if-is_set_at.true) c.token_target.ensures

pub returns-else-is_set_at : goal.returns-else-is_set_at
returns-else-is_set_at c =
    let h = subst (λ p. IsResolved c.args.self.now c.args.states.now c.args.reference.now.id p (Ended c.in-Ended.spot)) c.as_slice.ensures c.in-Ended.ensures in
    token_lost c.args.self.now c.args.states.now set_token c.args.end c.in-Ended.spot c.args.reference.now c.requires.linked.table c.requires.place h (sym c.is_set_at.ensures ∙ c.if-is_set_at.false)

pub returns-in_default : goal.returns-in_default
returns-in_default c =
    let h = subst (λ p. IsResolved c.args.self.now c.args.states.now c.args.reference.now.id p c.resolve.result) c.as_slice.ensures c.resolve.ensures in
    let m = subst (λ p. IsMissing c.args.self.now.rows.items c.args.reference.now.id p c.missing.result) c.as_slice-in_default.ensures c.missing.ensures in
    subst (IsTargetFrom c.args.self.now.rows.items c.args.end) (sym c.missing_target.ensures)
    (token_missing c.args.self.now set_token c.args.end c.args.reference.now c.missing.result c.requires.linked.table c.requires.place
    (token_never c.args.self.now c.args.states.now set_token c.args.reference.now c.resolve.result c.requires.linked h c.in_default.not-Ended) m)
