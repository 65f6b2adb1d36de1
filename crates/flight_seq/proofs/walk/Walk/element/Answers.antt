use Rattle.flight_seq.proofs.Asking.{asked_element}
use Rattle.flight_seq.proofs.walk.Walk.element.Goals as goal

pub end_of-requires-clause-asked : goal.end_of-requires-clause-asked
end_of-requires-clause-asked c =
    asked_element c.args.ground.now c.requires.valid c.args.seen.now.settled c.args.fuel c.args.self.now c.args.name c.in_ok-tables.tables c.in_ok-address.address c.requires.walk c.requires.met c.requires.server c.in_ok-tables.ensures c.in_ok-address.ensures
