use Rattle.std.proofs.Common.{ap, ◌∙◌}
use Rattle.flight_place.specs.Parsed.{members_data}
use Rattle.flight_place.proofs.Gathering.{put-inserted_entry}
use Rattle.flight_place.proofs.gathered.insert_in_map.Goals as goal

pub returns : goal.returns
returns c = ap members_data c.in_ok-insert.ensures.entries ∙ put-inserted_entry c.args.map.now.entries c.args.name c.args.value
