use Rattle.std.proofs.Common.{refl}
use Rattle.flight_link.specs.declared.backlog.Backlog.{Backlog}
use Rattle.flight_link.proofs.Hanging.{rest_same}
use Rattle.flight_link.proofs.backlog.Backlog.reach.Goals as goal

pub returns-in_err-reach-2-clause-rest : goal.returns-in_err-reach-2-clause-rest
returns-in_err-reach-2-clause-rest c =
    let b : Backlog = record { first = c.reach.new.cells; next = c.reach-2.new.cells; ended = c.args.self.now.ended } in
    λ states rest. rest_same states c.args.self.now b c.reach.ensures.same c.reach-2.ensures.same refl rest

pub returns-in_err-reserve-clause-rest : goal.returns-in_err-reserve-clause-rest
returns-in_err-reserve-clause-rest c =
    let b : Backlog = record { first = c.reach.new.cells; next = c.reach-2.new.cells; ended = c.reserve.new.self } in
    λ states rest. rest_same states c.args.self.now b c.reach.ensures.same c.reach-2.ensures.same c.reserve.ensures.items rest

pub returns-clause-rest : goal.returns-clause-rest
returns-clause-rest c =
    let b : Backlog = record { first = c.reach.new.cells; next = c.reach-2.new.cells; ended = c.reserve.new.self } in
    λ states rest. rest_same states c.args.self.now b c.reach.ensures.same c.reach-2.ensures.same c.reserve.ensures.items rest
