use Rattle.flight_feed.proofs.Parts.{part_of}
use Rattle.flight_feed.proofs.feed.Feed.feed.Goals as goal

pub returns-in-Ok-clause-part : goal.returns-in-Ok-clause-part
returns-in-Ok-clause-part c =
    let b = c.take_all.new.begun in
    part_of b.mode b.head.items b.payload.items c.in-Ok.ensures.begun.begins c.in-Ok.ensures.begun.unfinished
