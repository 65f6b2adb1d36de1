use Rattle.flight_eval.specs.Gives.{work_of}
use Rattle.flight_eval.proofs.Starts.{root_at}
use Rattle.flight_eval.proofs.start.root_body.Goals as goal

pub returns : goal.returns
returns c =
    let place = c.args.place.now in
    root_at place.fuel place.over.now place.seen.now.settled place.address.now place.tables.now.made c.first_body.result (work_of c.first_body.new.work) c.requires.address c.requires.tables c.first_body.ensures
