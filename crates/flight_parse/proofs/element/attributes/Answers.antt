use Rattle.std.proofs.Common.{length, map, arith, rules, sym, ◌∙◌}
use Rattle.std.proofs.lemmas.Result.{err_from_is_err_and}
use Rattle.flight_syntax.specs.Lexicon.{name_of}
use Rattle.flight_grammar.specs.Reading.{at}
use Rattle.flight_grammar.specs.Reader as reader
use Rattle.flight_parse.specs.Code.{words, property_of}
use Rattle.flight_parse.proofs.Turns.{ends, fails, goes_on, length_words}
use Rattle.flight_parse.proofs.element.attributes.Goals as goal

pub returns-then-not-starts_name : goal.returns-then-not-starts_name
returns-then-not-starts_name g c =
    ends (length (words c.args.lexemes.now)) c.loop.counter (at name_of) (reader.attribute (reader.expression c.args.below)) (map property_of c.loop.attributes) (words c.loop.rest.now) (reader.attributes (reader.expression c.args.below) (words c.args.lexemes.now)) c.loop.invariant (sym c.starts_name.ensures ∙ c.if-not-starts_name.true)

pub returns-in_err-attribute : goal.returns-in_err-attribute
returns-in_err-attribute g c =
    let e = err_from_is_err_and c.from_residual.result c.from_residual.ensures.1 in
    rw (e.1, e.2) (fails c.in_err-attribute.field-0.0 (length (words c.args.lexemes.now)) c.loop.counter (at name_of) (reader.attribute (reader.expression c.args.below)) (map property_of c.loop.attributes) (words c.loop.rest.now)
    (reader.attributes (reader.expression c.args.below) (words c.args.lexemes.now)) c.loop.invariant (omega (arith, length_words c.args.lexemes.now)) (sym c.starts_name.ensures ∙ c.if-not-starts_name.false) c.in_err-attribute.ensures)

pub loop-preserved : goal.loop-preserved
loop-preserved g c =
    goes_on property_of (length (words c.args.lexemes.now)) c.loop.counter (at name_of) (reader.attribute (reader.expression c.args.below)) c.loop.attributes c.push.new.self c.in_ok-attribute.attribute
    (words c.loop.rest.now) (words c.in_ok-attribute.after.now) (reader.attributes (reader.expression c.args.below) (words c.args.lexemes.now)) c.loop.invariant (omega (arith, length_words c.args.lexemes.now)) (sym c.starts_name.ensures ∙ c.if-not-starts_name.false)
    c.in_ok-attribute.ensures (search rules)
