use Rattle.std.proofs.Common.{sym, ◌∙◌}
use Rattle.flight_feed.proofs.Heads.{begins_hint}
use Rattle.flight_feed.proofs.head.after_colon.Goals as goal

pub returns-in-Hint-clause-ok : goal.returns-in-Hint-clause-ok
returns-in-Hint-clause-ok c = begins_hint c.args.head.now c.args.byte c.requires (sym c.read_tag.ensures ∙ c.in-Hint.is)
