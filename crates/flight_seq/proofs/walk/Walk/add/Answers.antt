use Rattle.std.proofs.Common.{◌∙◌}
use Rattle.indexmap.proofs.CallerLemmas.{insert_entry-new}
use Rattle.flight_seq.proofs.walk.Walk.add.Goals as goal

pub returns-clause-bodies : goal.returns-clause-bodies
returns-clause-bodies c = c.in_ok-insert.ensures.entries ∙ insert_entry-new _ c.args.self.now.bodies c.args.address c.args.known c.requires
