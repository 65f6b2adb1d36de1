use Rattle.std.proofs.Common.{◌≡◌, ◌∙◌, sym, ap, subst, length, slice_get, rules}
use Rattle.flight_seq.specs.Drawing.{IsKept}
use Rattle.flight_seq.proofs.Pushing.{goes_none}
use Rattle.flight_seq.proofs.Chains.{goes_on}
use Rattle.flight_seq.proofs.Drawings.{each_none, past_all, slots_met, each_push}
use Rattle.flight_seq.proofs.walk.Walk.nodes.Goals as goal

pub nodes-init : goal.nodes-init
nodes-init c = record {
  walk = c.requires.walk;
  goes_on = goes_none c.args.self.now;
  each = each_none c.args.ground.now c.args.seen.now.settled c.args.self.now c.new-nodes.result.items c.new-nodes.ensures.items;
}

pub returns-in_default : goal.returns-in_default
returns-in_default c =
    let count : c.len.result ≡ length c.nodes.nodes.items = search rules in
    let none = rw c.in_default.is at (c.in_ok-shape.ensures c.args.fuel c.nodes.invariant.walk) in
    record {
      walk = c.nodes.invariant.walk;
      goes_on = c.nodes.invariant.goes_on;
      each = c.nodes.invariant.each;
      all = past_all c.nodes.self.keys.keys (length c.nodes.nodes.items) (ap (slice_get c.nodes.self.keys.keys) (sym count) ∙ none);
    }

pub node-requires-clause-met : goal.node-requires-clause-met
node-requires-clause-met c =
    slots_met c.args.ground.now c.args.seen.now.settled c.args.fuel c.nodes.self c.len.result c.in-Some.shape c.nodes.invariant.walk (rw c.in-Some.is at (c.in_ok-shape.ensures c.args.fuel c.nodes.invariant.walk))

pub nodes-preserved : goal.nodes-preserved
nodes-preserved c =
    let g = c.args.ground.now in
    let s = c.args.seen.now.settled in
    let count : c.len.result ≡ length c.nodes.nodes.items = search rules in
    let kept = rw c.in-Some.is at (c.in_ok-shape.ensures c.args.fuel c.nodes.invariant.walk) in
    let drawn = rw c.in-Some-2.is at c.in_ok-node.ensures in
    record {
      walk = drawn.walk;
      goes_on = goes_on c.args.self.now c.nodes.self c.node.new.self c.nodes.invariant.goes_on drawn.goes_on;
      each = each_push g s c.args.fuel c.nodes.self c.node.new.self c.nodes.nodes.items c.push.new.self.items c.in-Some.shape c.in-Some-2.node c.nodes.invariant.each
          (subst (λ n. IsKept g s c.nodes.self n c.in-Some.shape) count kept) drawn c.in_ok-push-in-Some-2.ensures.items;
    }
