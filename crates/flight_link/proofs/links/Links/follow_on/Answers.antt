use Rattle.std.proofs.Common.{subst}
use Rattle.flight_meaning.specs.Linked.{FollowOn}
use Rattle.flight_link.proofs.links.Links.follow_on.Goals as goal

pub returns : goal.returns
returns c = subst FollowOn c.self.view_is c.follow_on.ensures
