use Rattle.std.proofs.Common.{sym, subst}
use Rattle.flight_syntax.specs.declared.script.Seen.{Seen}
use Rattle.flight_render.specs.Plain.{NodeIs}
use Rattle.flight_seq.specs.Held.{shape_for}
use Rattle.flight_seq.specs.Walk.{IsWalk}
use Rattle.flight_seq.proofs.walk.Walk.shape_at.Goals as goal

pub returns-in_ok-shape-in-Some : goal.returns-in_ok-shape-in-Some
returns-in_ok-shape-in-Some c = λ fuel walk. (
  c.in-Some.key.now,
  sym c.in-Some.ensures.key,
  subst (λ (x : Seen). NodeIs c.args.ground.now x.settled c.in-Some.key.now (shape_for c.in_ok-shape-in-Some.field-0)) c.get.ensures
      (c.in_ok-shape-in-Some.ensures fuel (subst (λ (x : Seen). IsWalk c.args.ground.now x.settled fuel c.args.self.now) (sym c.get.ensures) walk)),
)
