use Rattle.std.proofs.Common.{length, map, arith, rules, sym, ◌∙◌}
use Rattle.std.proofs.lemmas.Result.{err_from_is_err_and}
use Rattle.flight_grammar.specs.Reading.{many}
use Rattle.flight_grammar.specs.Reader as reader
use Rattle.flight_parse.specs.Code.{words}
use Rattle.flight_parse.proofs.Turns.{ends, fails, goes_on, length_words}
use Rattle.flight_parse.specs.Declarations.{declaration_of}
use Rattle.flight_parse.proofs.declaration.declarations.Goals as goal

pub returns-then-not-starts_declaration : goal.returns-then-not-starts_declaration
returns-then-not-starts_declaration c =
    ends (length (words c.args.lexemes.now)) c.loop.counter reader.starts_declaration reader.declaration (map declaration_of c.loop.declarations.items) (words c.loop.rest.now) (many reader.starts_declaration reader.declaration (words c.args.lexemes.now)) c.loop.invariant (sym c.starts_declaration.ensures ∙ c.if-not-starts_declaration.true)

pub returns-in_err-declaration : goal.returns-in_err-declaration
returns-in_err-declaration c =
    let e = err_from_is_err_and c.from_residual.result c.from_residual.ensures.1 in
    rw (e.1, e.2) (fails c.in_err-declaration.field-0.0 (length (words c.args.lexemes.now)) c.loop.counter reader.starts_declaration reader.declaration (map declaration_of c.loop.declarations.items) (words c.loop.rest.now)
    (many reader.starts_declaration reader.declaration (words c.args.lexemes.now)) c.loop.invariant (omega (arith, length_words c.args.lexemes.now)) (sym c.starts_declaration.ensures ∙ c.if-not-starts_declaration.false) c.in_err-declaration.ensures)

pub loop-preserved : goal.loop-preserved
loop-preserved c =
    goes_on declaration_of (length (words c.args.lexemes.now)) c.loop.counter reader.starts_declaration reader.declaration c.loop.declarations.items c.push.new.self.items c.in_ok-declaration.declaration
    (words c.loop.rest.now) (words c.in_ok-declaration.after.now) (many reader.starts_declaration reader.declaration (words c.args.lexemes.now)) c.loop.invariant (omega (arith, length_words c.args.lexemes.now)) (sym c.starts_declaration.ensures ∙ c.if-not-starts_declaration.false)
    c.in_ok-declaration.ensures (search rules)
