use Rattle.std.proofs.Common.{rules}
use Rattle.flight_seq.proofs.Asking.{asked_root}
use Rattle.flight_seq.proofs.walk.Walk.root.Goals as goal

pub end_of-requires-clause-asked : goal.end_of-requires-clause-asked
end_of-requires-clause-asked c = asked_root c.args.ground.now c.args.seen.now.settled _ (search rules)
