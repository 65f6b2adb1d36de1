use Rattle.std.proofs.Common.{inl, inr, refl}
use Rattle.flight_meaning.specs.Resolve.{to, found, stream, not_yet, nowhere}
use Rattle.flight_meaning.proofs.Paths.{ends-longer, ends-onward, endless-longer}
use Rattle.flight_meaning.proofs.law.steps_go_on.Goals as goal

pub returns-clause-from_place : goal.returns-clause-from_place
returns-clause-from_place c rows id path more s f a = (λ w. ends-onward rows (to id path) more (found s) f a w, λ w. ends-longer rows (to id path) more (found s) f a w)

pub returns-clause-from_absent : goal.returns-clause-from_absent
returns-clause-from_absent c rows id later path more rest a = ends-longer rows (to id path) more (not_yet later rest) (not_yet later _) a (0, refl)

pub returns-clause-from_stream : goal.returns-clause-from_stream
returns-clause-from_stream c rows id at path more name a = ends-longer rows (to id path) _ (stream at) nowhere a (0, refl)

pub returns-clause-from_nowhere : goal.returns-clause-from_nowhere
returns-clause-from_nowhere c rows id path more (inl a) = inl (ends-longer rows (to id path) more nowhere nowhere a (0, refl))
returns-clause-from_nowhere c rows id path more (inr a) = inr (endless-longer rows (to id path) more a)
