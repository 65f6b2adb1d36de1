use Rattle.std.proofs.Common.{subst, sym, ◌∙◌}
use Rattle.std.proofs.lemmas.Bool.{false≢true}
use Rattle.flight_meaning.specs.Meaning.{map_token}
use Rattle.flight_link.specs.declared.node.State.TheVariants.{Ended}
use Rattle.flight_link.specs.Waiting.{IsResolved}
use Rattle.flight_link.proofs.Defined.{token_ended, token_never}
use Rattle.flight_link.proofs.table.Table.is_map_defined.Goals as goal

pub returns-in-Ended : goal.returns-in-Ended
returns-in-Ended c =
    let h = subst (λ p. IsResolved c.args.self.now c.args.states.now c.args.reference.now.id p (Ended c.in-Ended.spot)) c.as_slice.ensures c.in-Ended.ensures in
    let d = token_ended c.args.self.now c.args.states.now map_token c.args.reference.now c.in-Ended.spot c.requires.table h in
    (λ e. d.0 (sym c.is_map_at.ensures ∙ e), λ x. c.is_map_at.ensures ∙ d.1 x)

pub returns-in_default : goal.returns-in_default
returns-in_default c =
    let h = subst (λ p. IsResolved c.args.self.now c.args.states.now c.args.reference.now.id p c.resolve.result) c.as_slice.ensures c.resolve.ensures in
    (λ e. absurd (false≢true e), λ x. absurd (token_never c.args.self.now c.args.states.now map_token c.args.reference.now c.resolve.result c.requires h c.in_default.not-Ended x))
