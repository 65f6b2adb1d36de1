use Rattle.std.proofs.Common.{◌≡◌, sym, ap, subst, arith, rules, List, ℕ, Err, IfOk, IsUtf8, All}
use Rattle.serde_json.specs.View.{view}
use Rattle.flight_syntax.specs.declared.token.Token.{Token}
use Rattle.flight_syntax.specs.Words.{words_of}
use Rattle.flight_top.specs.StaticReader.{Gives, program}
use Rattle.flight_top.proofs.StaticPrograms.{declared_tree, tree_row, no_tree, no_tree_by_fault}
use Rattle.flight_top.proofs.static_program.static_json.Goals as goal

pub returns-in-Ok-clause-tree : goal.returns-in-Ok-clause-tree
returns-in-Ok-clause-tree c =
    let utf8 : IsUtf8 c.args.input.now = search rules in
    let gives = subst (λ (ts : List Token). Gives view c.program.result (program (words_of c.args.input.now ts))) c.as_slice.ensures.value c.program.ensures in
    declared_tree c.args.input.now c.in-Ok.tokens.items c.program.result c.if-input-gt-MOST_PROGRAM.false utf8 c.in-Ok.ensures.ok c.in-Ok.ensures.each gives

pub returns-in-Ok-clause-row : goal.returns-in-Ok-clause-row
returns-in-Ok-clause-row c = tree_row c.args.input.now c.program.result (returns-in-Ok-clause-tree c)

pub returns-in-Ok-clause-refused : goal.returns-in-Ok-clause-refused
returns-in-Ok-clause-refused c =
    let gives = subst (λ (ts : List Token). Gives view c.program.result (program (words_of c.args.input.now ts))) c.as_slice.ensures.value c.program.ensures in
    no_tree c.args.input.now c.in-Ok.tokens.items c.program.result (c.one_reading.ensures c.args.input.now) c.in-Ok.ensures.ok gives

pub returns-in-Err-Fault-clause-refused : goal.returns-in-Err-Fault-clause-refused
returns-in-Err-Fault-clause-refused c = λ same.
    let fault = rw c.in-Err-Fault.field-0-is at c.in-Err-Fault.ensures.fault in
    no_tree_by_fault c.args.input.now c.in-Err-Fault.field-0-0 (c.one_reading.ensures c.args.input.now) fault
