use Rattle.std.proofs.Common.{length, map, arith, rules}
use Rattle.std.proofs.lemmas.Result.{err_from_is_err_and}
use Rattle.flight_syntax.specs.declared.word.Punctuator.TheVariants.{Comma}
use Rattle.flight_syntax.specs.Lexicon.{is_mark}
use Rattle.flight_grammar.specs.Reading.{at, behind, both, made, more, first_and}
use Rattle.flight_grammar.specs.Reader as reader
use Rattle.flight_parse.specs.Code.{words}
use Rattle.flight_parse.specs.Values.{json_of}
use Rattle.flight_parse.proofs.Turns.{begins, ends, fails, goes_on, behind_is, behind_fails, length_words}
use Rattle.flight_parse.proofs.values.some_values.Goals as goal

pub loop-init : goal.loop-init
loop-init g c = begins json_of (reader.json_value c.args.below) (words c.args.lexemes.now) (words c.in_ok-first.rest.now) c.in_ok-first.first _ c.in_ok-first.ensures (search rules)

pub returns-in_default : goal.returns-in_default
returns-in_default g c =
    ends (length (words c.in_ok-first.rest.now)) c.loop.counter (at (is_mark Comma)) (behind (is_mark Comma) (reader.json_value c.args.below)) (map json_of c.loop.values) (words c.loop.rest.now) (made first_and (both (reader.json_value c.args.below) (λ a. more (reader.json_value c.args.below))) (words c.args.lexemes.now)) c.loop.invariant c.in_default.ensures.none

pub returns-in_err-value : goal.returns-in_err-value
returns-in_err-value g c =
    let e = err_from_is_err_and c.from_residual-in_err-value.result c.from_residual-in_err-value.ensures.1 in
    rw (e.1, e.2) (fails c.in_err-value.field-0.0 (length (words c.in_ok-first.rest.now)) c.loop.counter (at (is_mark Comma)) (behind (is_mark Comma) (reader.json_value c.args.below)) (map json_of c.loop.values) (words c.loop.rest.now)
    (made first_and (both (reader.json_value c.args.below) (λ a. more (reader.json_value c.args.below))) (words c.args.lexemes.now)) c.loop.invariant (omega (arith, length_words c.in_ok-first.rest.now)) c.in-Some.ensures.some
    (behind_fails c.in_err-value.field-0.0 (is_mark Comma) (reader.json_value c.args.below) (words c.loop.rest.now) (words c.in-Some.after.now) c.in-Some.ensures.rest c.in_err-value.ensures))

pub loop-preserved : goal.loop-preserved
loop-preserved g c =
    goes_on json_of (length (words c.in_ok-first.rest.now)) c.loop.counter (at (is_mark Comma)) (behind (is_mark Comma) (reader.json_value c.args.below)) c.loop.values c.push-in-loop.new.self c.in_ok-value.value
    (words c.loop.rest.now) (words c.in_ok-value.after.now) (made first_and (both (reader.json_value c.args.below) (λ a. more (reader.json_value c.args.below))) (words c.args.lexemes.now)) c.loop.invariant (omega (arith, length_words c.in_ok-first.rest.now)) c.in-Some.ensures.some
    (behind_is (is_mark Comma) (reader.json_value c.args.below) (words c.loop.rest.now) (words c.in-Some.after.now) _ c.in-Some.ensures.rest c.in_ok-value.ensures) (search rules)
