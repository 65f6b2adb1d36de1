use Rattle.flight_print.proofs.Posts.{postfixed_shape}
use Rattle.flight_print.proofs.shape.+shape.Goals as goal

pub returns-else-is_empty : goal.returns-else-is_empty
returns-else-is_empty t c = postfixed_shape c.args.expr.now c.in-Postfixed.of c.in-Postfixed.postfixes c.as_slice.result.now c.is_empty.result c.in-Postfixed.is c.as_slice.ensures c.is_empty.ensures c.if-is_empty.false
