use Rattle.std.proofs.Common.{length, map, arith, rules}
use Rattle.std.proofs.lemmas.Result.{err_from_is_err_and}
use Rattle.flight_syntax.specs.declared.word.Punctuator.TheVariants.{Comma}
use Rattle.flight_syntax.specs.Lexicon.{is_mark}
use Rattle.flight_grammar.specs.Reading.{at, behind, both, made, more, first_and}
use Rattle.flight_grammar.specs.Reader as reader
use Rattle.flight_parse.specs.Code.{words, tree_of}
use Rattle.flight_parse.proofs.Turns.{begins, ends, fails, goes_on, behind_is, behind_fails, length_words}
use Rattle.flight_parse.proofs.list.some_items.Goals as goal

pub loop-init : goal.loop-init
loop-init g c = begins tree_of (reader.expression c.args.below) (words c.args.lexemes.now) (words c.in_ok-first.rest.now) c.in_ok-first.first _ c.in_ok-first.ensures (search rules)

pub returns-in_default : goal.returns-in_default
returns-in_default g c =
    ends (length (words c.in_ok-first.rest.now)) c.loop.counter (at (is_mark Comma)) (behind (is_mark Comma) (reader.expression c.args.below)) (map tree_of c.loop.items) (words c.loop.rest.now) (made first_and (both (reader.expression c.args.below) (λ a. more (reader.expression c.args.below))) (words c.args.lexemes.now)) c.loop.invariant c.in_default.ensures.none

pub returns-in_err-item : goal.returns-in_err-item
returns-in_err-item g c =
    let e = err_from_is_err_and c.from_residual-in_err-item.result c.from_residual-in_err-item.ensures.1 in
    rw (e.1, e.2) (fails c.in_err-item.field-0.0 (length (words c.in_ok-first.rest.now)) c.loop.counter (at (is_mark Comma)) (behind (is_mark Comma) (reader.expression c.args.below)) (map tree_of c.loop.items) (words c.loop.rest.now)
    (made first_and (both (reader.expression c.args.below) (λ a. more (reader.expression c.args.below))) (words c.args.lexemes.now)) c.loop.invariant (omega (arith, length_words c.in_ok-first.rest.now)) c.in-Some.ensures.some
    (behind_fails c.in_err-item.field-0.0 (is_mark Comma) (reader.expression c.args.below) (words c.loop.rest.now) (words c.in-Some.after.now) c.in-Some.ensures.rest c.in_err-item.ensures))

pub loop-preserved : goal.loop-preserved
loop-preserved g c =
    goes_on tree_of (length (words c.in_ok-first.rest.now)) c.loop.counter (at (is_mark Comma)) (behind (is_mark Comma) (reader.expression c.args.below)) c.loop.items c.push-in-loop.new.self c.in_ok-item.item
    (words c.loop.rest.now) (words c.in_ok-item.after.now) (made first_and (both (reader.expression c.args.below) (λ a. more (reader.expression c.args.below))) (words c.args.lexemes.now)) c.loop.invariant (omega (arith, length_words c.in_ok-first.rest.now)) c.in-Some.ensures.some
    (behind_is (is_mark Comma) (reader.expression c.args.below) (words c.loop.rest.now) (words c.in-Some.after.now) _ c.in-Some.ensures.rest c.in_ok-item.ensures) (search rules)
