use Rattle.std.proofs.Common.{ap, sym, refl, ◌∙◌, inl, Err}
use Rattle.std.proofs.lemmas.Bool.{false_from_ne_true, false≢true}
use Rattle.flight_place.specs.Tokens.{is_barred}
use Rattle.flight_place.proofs.token.token_place.Goals as goal

pub returns-then-is_barred-clause-err : goal.returns-then-is_barred-clause-err
returns-then-is_barred-clause-err c = inl (λ at h. false≢true (sym h.allowed ∙ c.if-is_barred.ensures.0 refl), refl)

pub returns-in_ok-mark_place-in-Ok-clause-place : goal.returns-in_ok-mark_place-in-Ok-clause-place
returns-in_ok-mark_place-in-Ok-clause-place c = record {
  allowed = false_from_ne_true (is_barred c.args.manner c.args.text.now) (λ e. false≢true (c.if-is_barred.ensures.1 e));
  spelled = c.in-Ok.mark;
  spells = c.in-Ok.ensures.spelled;
  is_place = c.in_ok-mark_place-in-Ok.ensures;
}

pub returns-in-Err-BadToken-clause-err : goal.returns-in-Err-BadToken-clause-err
returns-in-Err-BadToken-clause-err c = inl (λ at h. c.in-Err-BadToken.ensures.bad (ap Err c.in-Err-BadToken.field-0-is) h.spelled h.spells, refl)
