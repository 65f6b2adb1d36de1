use Rattle.std.proofs.Common.{subst, ◌∷◌, []}
use Rattle.flight_script.specs.Slots.{IsSlot, Each}
use Rattle.flight_script.specs.Answer.{Answers}
use Rattle.flight_script.proofs.node.read_pair.Goals as goal

pub returns-in-Some : goal.returns-in-Some
returns-in-Some c = subst (λ o. Answers (λ p. Each (IsSlot c.args.count) o (p.key ∷ p.value ∷ [])) c.pair_of.result) c.in-Some.ensures c.pair_of.ensures
