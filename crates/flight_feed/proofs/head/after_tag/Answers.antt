use Rattle.std.proofs.Common.{refl, sym, ◌∙◌}
use Rattle.flight_feed.proofs.Heads.{begins_length, begins_line}
use Rattle.flight_feed.proofs.head.after_tag.Goals as goal

pub returns-in-Sized-clause-ok : goal.returns-in-Sized-clause-ok
returns-in-Sized-clause-ok c =
    (begins_length c.args.head.now c.args.id c.args.byte c.requires.head (sym c.read_tag.ensures ∙ c.in-Sized.is), refl)

pub returns-in-Line-clause-ok : goal.returns-in-Line-clause-ok
returns-in-Line-clause-ok c =
    begins_line c.in-Line.kind c.args.head.now c.args.id c.args.byte c.requires.head (sym c.read_tag.ensures ∙ c.in-Line.is)
