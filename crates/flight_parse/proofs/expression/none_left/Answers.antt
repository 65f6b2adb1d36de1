use Rattle.flight_parse.specs.Code.{words}
use Rattle.flight_parse.proofs.Chains.{expression_none, child_none}
use Rattle.flight_parse.proofs.expression.none_left.Goals as goal

pub returns-then-child : goal.returns-then-child
returns-then-child c = rw c.if-child.true (child_none c.no_child.result (words c.args.lexemes.now) c.no_child.ensures)

pub returns-else-child : goal.returns-else-child
returns-else-child c = rw c.if-child.false (expression_none c.too_deep.result c.args.lexemes.now c.too_deep.ensures)
