use Rattle.flight_seq.proofs.Keys.{adds}
use Rattle.flight_seq.proofs.walk.Walk.number.Goals as goal

pub returns-in-Ok-clause-keys : goal.returns-in-Ok-clause-keys
returns-in-Ok-clause-keys c = adds c.args.self.now.keys.keys c.insert_full.new.self.keys c.args.key c.in_ok-number.ensures.keys
