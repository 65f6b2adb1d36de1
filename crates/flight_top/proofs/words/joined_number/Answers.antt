use Rattle.std.proofs.Common.{ℕ, sym, subst}
use Rattle.std.specs.Prelude.{MatchOption}
use Rattle.flight_top.specs.Words.{IsNumber}
use Rattle.flight_top.proofs.OneOption.{behind_option, behind_sign}
use Rattle.flight_top.proofs.words.joined_number.Goals as goal

pub returns-in_err-behind-2-clause-none : goal.returns-in_err-behind-2-clause-none
returns-in_err-behind-2-clause-none c none value n e is =
    c.in_err-behind-2.ensures value (behind_option c.args.text.now c.args.option.now c.in_ok-behind.field-0.now value c.in_ok-behind.ensures e)

pub returns-clause-none : goal.returns-clause-none
returns-clause-none c none value n e is =
    let inner = c.in_ok-behind-2.field-0.now in
    let refused = subst (λ o. MatchOption o ((m : ℕ) → ¬ (IsNumber c.args.most inner m)) (IsNumber c.args.most inner)) none c.number_in.ensures in
    refused n (subst (λ v. IsNumber c.args.most v n) (sym (behind_sign c.args.text.now c.args.option.now c.in_ok-behind.field-0.now inner value c.in_ok-behind.ensures c.in_ok-behind-2.ensures e)) is)
