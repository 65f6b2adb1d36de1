use Rattle.std.proofs.Common.{ℕ, List, [], ◌∷◌, ◌++◌, ◌∙◌, ap}
use Rattle.flight_seq.specs.declared.walk.Walk.{Walk}
use Rattle.flight_seq.proofs.Pushing.{over_total, reaches_push}
use Rattle.flight_seq.proofs.walk.Walk.render.Goals as goal

pub returns-in_default-spend : goal.returns-in_default-spend
returns-in_default-spend c =
    over_total c.args.ground.now c.args.seen.now.settled c.args.fuel c.args.self.now c.args.address.now c.in-Some.known c.requires.walk (rw c.in-Some.is at c.in_ok-known.ensures) c.requires.new c.in_default-spend.ensures

pub returns : goal.returns
returns c =
    let new : Walk = record { bodies = c.add.new.self.bodies; spent = c.in-Some-spend.spent; keys = c.add.new.self.keys } in
    let k = c.in-Some.known in
    let bodies = c.in_ok-add.ensures.bodies ∙ ap (λ (a : List ℕ). c.args.self.now.bodies.entries ++ (a, k) ∷ []) c.in_ok-share.ensures in
    reaches_push c.args.ground.now c.args.seen.now.settled c.args.fuel c.args.self.now new c.args.address.now k c.requires.walk (rw c.in-Some.is at c.in_ok-known.ensures) c.requires.new bodies c.in-Some-spend.ensures.0 c.in-Some-spend.ensures.1 c.in_ok-add.ensures.keys
