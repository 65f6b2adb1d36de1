use Rattle.std.proofs.Common.{length, map, arith, rules, sym, ◌∙◌}
use Rattle.std.proofs.lemmas.Result.{err_from_is_err_and}
use Rattle.flight_grammar.specs.Reader as reader
use Rattle.flight_parse.specs.Code.{words, tree_of}
use Rattle.flight_parse.proofs.Turns.{ends, fails, goes_on, length_words}
use Rattle.flight_parse.proofs.element.children.Goals as goal

pub returns-then-not-starts_child : goal.returns-then-not-starts_child
returns-then-not-starts_child g c =
    ends (length (words c.args.lexemes.now)) c.loop.counter reader.starts_child (reader.child (reader.expression c.args.below) (reader.child_element c.args.below)) (map tree_of c.loop.children) (words c.loop.rest.now) (reader.children (reader.expression c.args.below) (reader.child_element c.args.below) (words c.args.lexemes.now)) c.loop.invariant (sym c.starts_child.ensures ∙ c.if-not-starts_child.true)

pub returns-in_err-child : goal.returns-in_err-child
returns-in_err-child g c =
    let e = err_from_is_err_and c.from_residual.result c.from_residual.ensures.1 in
    rw (e.1, e.2) (fails c.in_err-child.field-0.0 (length (words c.args.lexemes.now)) c.loop.counter reader.starts_child (reader.child (reader.expression c.args.below) (reader.child_element c.args.below)) (map tree_of c.loop.children) (words c.loop.rest.now)
    (reader.children (reader.expression c.args.below) (reader.child_element c.args.below) (words c.args.lexemes.now)) c.loop.invariant (omega (arith, length_words c.args.lexemes.now)) (sym c.starts_child.ensures ∙ c.if-not-starts_child.false) c.in_err-child.ensures)

pub loop-preserved : goal.loop-preserved
loop-preserved g c =
    goes_on tree_of (length (words c.args.lexemes.now)) c.loop.counter reader.starts_child (reader.child (reader.expression c.args.below) (reader.child_element c.args.below)) c.loop.children c.push.new.self c.in_ok-child.child
    (words c.loop.rest.now) (words c.in_ok-child.after.now) (reader.children (reader.expression c.args.below) (reader.child_element c.args.below) (words c.args.lexemes.now)) c.loop.invariant (omega (arith, length_words c.args.lexemes.now)) (sym c.starts_child.ensures ∙ c.if-not-starts_child.false)
    c.in_ok-child.ensures (search rules)
