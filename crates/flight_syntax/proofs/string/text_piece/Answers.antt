use Rattle.std.proofs.Common.{sym, arith, drop, length-drop, add-zero}
use Rattle.std.proofs.lemmas.List.{take_rest, get_or-drop}
use Rattle.std.proofs.lemmas.Bool.{both_ways}
use Rattle.flight_syntax.proofs.Literals.{Stands-text, none-unclosed, none-no_string, literal-IsUtf8}
use Rattle.flight_syntax.proofs.string.text_piece.Goals as goal

pub returns-in_default : goal.returns-in_default
returns-in_default c =
    let rest = take_rest c.args.text.now c.args.at in
    let value = rw (rest, take_rest (drop c.args.at c.args.text.now) 1) at c.in_default.ensures.value in
    none-unclosed (drop c.args.at c.args.text.now) (simp length-drop (omega arith)) (rw (get_or-drop, add-zero) c.requires.quote) (sym value)

pub is_string-requires : goal.is_string-requires
is_string-requires c =
    let rest = take_rest c.args.text.now c.args.at in
    let value = rw (rest, take_rest (drop c.args.at c.args.text.now) 1) at c.in-Some.ensures.value in
    rw rest (literal-IsUtf8 c.args.text.now c.args.at c.in-Some.closing c.requires.utf8 c.requires.within c.requires.quote (sym value))

pub returns-then-not-branch : goal.returns-then-not-branch
returns-then-not-branch c =
    let rest = take_rest c.args.text.now c.args.at in
    let value = rw (rest, take_rest (drop c.args.at c.args.text.now) 1) at c.in-Some.ensures.value in
    let answer = rw rest at c.in_ok-is_string.ensures in
    none-no_string (drop c.args.at c.args.text.now) c.in-Some.closing (simp length-drop (omega arith)) (rw (get_or-drop, add-zero) c.requires.quote) (sym value)
    (λ v is. both_ways c.in_ok-is_string.field-0 c.if-not-branch.true (answer.1 (v, is)))

pub returns : goal.returns
returns c =
    let rest = take_rest c.args.text.now c.args.at in
    let value = rw (rest, take_rest (drop c.args.at c.args.text.now) 1) at c.in-Some.ensures.value in
    let answer = rw rest at c.in_ok-is_string.ensures in
    let is = answer.0 c.if-not-branch.false in
    Stands-text (drop c.args.at c.args.text.now) c.in-Some.closing (simp length-drop (omega arith)) (rw (get_or-drop, add-zero) c.requires.quote) (sym value) is.0 is.1
