use Rattle.std.proofs.Common.{length, map, arith, rules}
use Rattle.std.proofs.lemmas.Result.{err_from_is_err_and}
use Rattle.flight_syntax.specs.declared.word.Punctuator.TheVariants.{Minus}
use Rattle.flight_syntax.specs.Lexicon.{is_mark, name_of}
use Rattle.flight_grammar.specs.Reading.{want, at, behind}
use Rattle.flight_grammar.specs.Reader as reader
use Rattle.flight_parse.specs.Code.{words, placed}
use Rattle.flight_parse.proofs.Turns.{ends, fails, goes_on, behind_is, behind_fails, length_words}
use Rattle.flight_parse.proofs.tag.more_parts.Goals as goal

pub returns-in_default : goal.returns-in_default
returns-in_default c =
    let ls = c.args.lexemes.now in
    ends (length (words ls)) c.loop.counter (at (is_mark Minus)) (behind (is_mark Minus) (want name_of)) (map placed c.loop.parts.items) (words c.loop.rest.now)
    (reader.more_parts (words ls)) c.loop.invariant c.in_default.ensures.none

pub returns-in_err-part : goal.returns-in_err-part
returns-in_err-part c =
    let ls = c.args.lexemes.now in
    let e = err_from_is_err_and c.from_residual.result c.from_residual.ensures.1 in
    rw (e.1, e.2) (fails c.in_err-part.field-0.0 (length (words ls)) c.loop.counter (at (is_mark Minus)) (behind (is_mark Minus) (want name_of)) (map placed c.loop.parts.items) (words c.loop.rest.now)
    (reader.more_parts (words ls)) c.loop.invariant (omega (arith, length_words ls)) c.in-Some.ensures.some
    (behind_fails c.in_err-part.field-0.0 (is_mark Minus) (want name_of) (words c.loop.rest.now) (words c.in-Some.after.now) c.in-Some.ensures.rest c.in_err-part.ensures))

pub loop-preserved : goal.loop-preserved
loop-preserved c =
    let ls = c.args.lexemes.now in
    goes_on placed (length (words ls)) c.loop.counter (at (is_mark Minus)) (behind (is_mark Minus) (want name_of)) c.loop.parts.items c.push.new.self.items c.in_ok-part.part
    (words c.loop.rest.now) (words c.in_ok-part.after.now) (reader.more_parts (words ls)) c.loop.invariant (omega (arith, length_words ls)) c.in-Some.ensures.some
    (behind_is (is_mark Minus) (want name_of) (words c.loop.rest.now) (words c.in-Some.after.now) _ c.in-Some.ensures.rest c.in_ok-part.ensures) (search rules)
