use Rattle.std.proofs.Common.{◌≡◌, ◌<◌, ◌^◌, List, length, sym, subst, rules}
use Rattle.flight_value.specs.declared.graph.Node.{Node}
use Rattle.flight_render.specs.Costs.{at_root}
use Rattle.flight_render.specs.Jobs.{of_job, the_root}
use Rattle.flight_seq.specs.Cost.{IsRenderedIn}
use Rattle.flight_seq.proofs.Chains.{draws_on}
use Rattle.flight_seq.proofs.Whole.{is_rendered}
use Rattle.flight_seq.proofs.walk.Walk.graph.Goals as goal

pub follow-requires-clause-met : goal.follow-requires-clause-met
follow-requires-clause-met c = at_root

pub returns : goal.returns
returns c =
    let g = c.args.ground.now in
    let s = c.args.seen.now.settled in
    let w = c.nodes.new.self in
    let nodes = c.in-Some-2.nodes.items in
    let follows = rw c.in-Some.is at c.in_ok-root.ensures in
    let drawn = rw c.in-Some-2.is at c.in_ok-nodes.ensures in
    let count : c.len.result ≡ length nodes = search rules in
    subst (λ (ns : List Node). IsRenderedIn g s c.args.fuel w.spent (record { root = c.in-Some.root; nodes = ns })) (sym c.new.ensures)
    (is_rendered g s c.args.fuel c.in-Some.root nodes w (record {
      walk = drawn.walk;
      draws_root = draws_on g s c.follow.new.self w c.in-Some.root (of_job the_root) drawn.goes_on follows.draws;
      each = drawn.each;
      all = drawn.all;
      few = subst (λ n. n < 2 ^ 32) count c.in_ok-within.ensures;
    }) c.requires.valid)
