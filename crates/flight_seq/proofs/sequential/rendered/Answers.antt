use Rattle.std.proofs.Common.{subst}
use Rattle.flight_syntax.specs.declared.script.Seen.{Seen}
use Rattle.flight_seq.specs.Cost.{IsRenderedIn}
use Rattle.flight_seq.proofs.sequential.rendered.Goals as goal

pub returns-in-Some : goal.returns-in-Some
returns-in-Some c =
    subst (λ (x : Seen). IsRenderedIn c.args.ground.now x.settled c.args.fuel c.graph.new.self.spent c.in-Some.graph) c.in_ok-seen.ensures (rw c.in-Some.is at c.in_ok-graph.ensures)
