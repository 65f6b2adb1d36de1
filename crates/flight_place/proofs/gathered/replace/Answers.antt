use Rattle.flight_place.proofs.Gathering.{set-with_value}
use Rattle.flight_place.proofs.gathered.replace.Goals as goal

pub returns : goal.returns
returns c = set-with_value c.args.list.now.items c.args.at c.index_mut.result.now c.args.value c.requires c.index_mut.ensures.value
