use Rattle.std.proofs.Common.{length, map, arith, rules}
use Rattle.std.proofs.lemmas.Result.{err_from_is_err_and}
use Rattle.flight_syntax.specs.declared.word.Punctuator.TheVariants.{Comma}
use Rattle.flight_syntax.specs.Lexicon.{is_mark}
use Rattle.flight_grammar.specs.Reading.{at, behind, both, made, more, first_and}
use Rattle.flight_grammar.specs.Reader as reader
use Rattle.flight_parse.specs.Code.{words, property_of}
use Rattle.flight_parse.proofs.Turns.{begins, ends, fails, goes_on, behind_is, behind_fails, length_words}
use Rattle.flight_parse.proofs.list.some_properties.Goals as goal

pub loop-init : goal.loop-init
loop-init g c = begins property_of (reader.property (reader.expression c.args.below)) (words c.args.lexemes.now) (words c.in_ok-first.rest.now) c.in_ok-first.first _ c.in_ok-first.ensures (search rules)

pub returns-in_default : goal.returns-in_default
returns-in_default g c =
    ends (length (words c.in_ok-first.rest.now)) c.loop.counter (at (is_mark Comma)) (behind (is_mark Comma) (reader.property (reader.expression c.args.below))) (map property_of c.loop.properties) (words c.loop.rest.now) (made first_and (both (reader.property (reader.expression c.args.below)) (λ a. more (reader.property (reader.expression c.args.below)))) (words c.args.lexemes.now)) c.loop.invariant c.in_default.ensures.none

pub returns-in_err-property : goal.returns-in_err-property
returns-in_err-property g c =
    let e = err_from_is_err_and c.from_residual-in_err-property.result c.from_residual-in_err-property.ensures.1 in
    rw (e.1, e.2) (fails c.in_err-property.field-0.0 (length (words c.in_ok-first.rest.now)) c.loop.counter (at (is_mark Comma)) (behind (is_mark Comma) (reader.property (reader.expression c.args.below))) (map property_of c.loop.properties) (words c.loop.rest.now)
    (made first_and (both (reader.property (reader.expression c.args.below)) (λ a. more (reader.property (reader.expression c.args.below)))) (words c.args.lexemes.now)) c.loop.invariant (omega (arith, length_words c.in_ok-first.rest.now)) c.in-Some.ensures.some
    (behind_fails c.in_err-property.field-0.0 (is_mark Comma) (reader.property (reader.expression c.args.below)) (words c.loop.rest.now) (words c.in-Some.after.now) c.in-Some.ensures.rest c.in_err-property.ensures))

pub loop-preserved : goal.loop-preserved
loop-preserved g c =
    goes_on property_of (length (words c.in_ok-first.rest.now)) c.loop.counter (at (is_mark Comma)) (behind (is_mark Comma) (reader.property (reader.expression c.args.below))) c.loop.properties c.push-in-loop.new.self c.in_ok-property.property
    (words c.loop.rest.now) (words c.in_ok-property.after.now) (made first_and (both (reader.property (reader.expression c.args.below)) (λ a. more (reader.property (reader.expression c.args.below)))) (words c.args.lexemes.now)) c.loop.invariant (omega (arith, length_words c.in_ok-first.rest.now)) c.in-Some.ensures.some
    (behind_is (is_mark Comma) (reader.property (reader.expression c.args.below)) (words c.loop.rest.now) (words c.in-Some.after.now) _ c.in-Some.ensures.rest c.in_ok-property.ensures) (search rules)
