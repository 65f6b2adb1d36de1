use Rattle.flight_feed.proofs.Lines as lines
use Rattle.flight_feed.proofs.payload.before_newline.Goals as goal

pub returns-clause-line : goal.returns-clause-line
returns-clause-line c = lines.before_newline c.memchr.result c.args.piece.now c.unwrap_or.result c.memchr.ensures c.unwrap_or.ensures
