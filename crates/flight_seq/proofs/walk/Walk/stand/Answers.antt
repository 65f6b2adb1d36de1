use Rattle.flight_seq.proofs.Chains.{stands_push}
use Rattle.flight_seq.proofs.walk.Walk.stand.Goals as goal

pub returns : goal.returns
returns c = λ g s fuel v walk met none target.
    stands_push g s fuel c.args.self.now c.number.new.self v c.args.key c.in_ok-number.field-0 walk met none target c.in_ok-number.ensures.keys c.in_ok-number.ensures.number c.in_ok-number.ensures.bodies c.in_ok-number.ensures.spent
