use Rattle.std.proofs.Common.{length, map, arith, rules}
use Rattle.std.proofs.lemmas.Result.{err_from_is_err_and}
use Rattle.flight_syntax.specs.declared.word.Punctuator.TheVariants.{Comma}
use Rattle.flight_syntax.specs.Lexicon.{is_mark, lower_of}
use Rattle.flight_grammar.specs.Reading.{at, behind, both, made, more, first_and, want}
use Rattle.flight_parse.specs.Code.{words, placed}
use Rattle.flight_parse.proofs.Turns.{begins, ends, fails, goes_on, behind_is, behind_fails, length_words}
use Rattle.flight_parse.proofs.declaration.some_parameters.Goals as goal

pub loop-init : goal.loop-init
loop-init c = begins placed (want lower_of) (words c.args.lexemes.now) (words c.in_ok-first.rest.now) c.in_ok-first.first _ c.in_ok-first.ensures (search rules)

pub returns-in_default : goal.returns-in_default
returns-in_default c =
    ends (length (words c.in_ok-first.rest.now)) c.loop.counter (at (is_mark Comma)) (behind (is_mark Comma) (want lower_of)) (map placed c.loop.params) (words c.loop.rest.now) (made first_and (both (want lower_of) (λ a. more (want lower_of))) (words c.args.lexemes.now)) c.loop.invariant c.in_default.ensures.none

pub returns-in_err-param : goal.returns-in_err-param
returns-in_err-param c =
    let e = err_from_is_err_and c.from_residual-in_err-param.result c.from_residual-in_err-param.ensures.1 in
    rw (e.1, e.2) (fails c.in_err-param.field-0.0 (length (words c.in_ok-first.rest.now)) c.loop.counter (at (is_mark Comma)) (behind (is_mark Comma) (want lower_of)) (map placed c.loop.params) (words c.loop.rest.now)
    (made first_and (both (want lower_of) (λ a. more (want lower_of))) (words c.args.lexemes.now)) c.loop.invariant (omega (arith, length_words c.in_ok-first.rest.now)) c.in-Some.ensures.some
    (behind_fails c.in_err-param.field-0.0 (is_mark Comma) (want lower_of) (words c.loop.rest.now) (words c.in-Some.after.now) c.in-Some.ensures.rest c.in_err-param.ensures))

pub loop-preserved : goal.loop-preserved
loop-preserved c =
    goes_on placed (length (words c.in_ok-first.rest.now)) c.loop.counter (at (is_mark Comma)) (behind (is_mark Comma) (want lower_of)) c.loop.params c.push-in-loop.new.self c.in_ok-param.param
    (words c.loop.rest.now) (words c.in_ok-param.after.now) (made first_and (both (want lower_of) (λ a. more (want lower_of))) (words c.args.lexemes.now)) c.loop.invariant (omega (arith, length_words c.in_ok-first.rest.now)) c.in-Some.ensures.some
    (behind_is (is_mark Comma) (want lower_of) (words c.loop.rest.now) (words c.in-Some.after.now) _ c.in-Some.ensures.rest c.in_ok-param.ensures) (search rules)
