use Rattle.std.proofs.Common.{◌≡◌, ◌<◌, List, length, sym, ◌∙◌, subst, refl, arith, rules, ℕ}
use Rattle.flight_value.specs.declared.graph.Node.{Node}
use Rattle.flight_graph.specs.Canon.{node_at}
use Rattle.flight_graph.specs.Walk.{NamesBelow, turns_left}
use Rattle.flight_graph.specs.declared.walk.Walk.{Walk}
use Rattle.flight_graph.proofs.Walks.{begins, names_below, nothing_waits, taken_kept, taken_reached, taken_turns}
use Rattle.flight_graph.proofs.walk.visit_all.Goals as goal

pub loop-node-init : goal.loop-node-init
loop-node-init c =
    let w : Walk = record { places = c.in_ok-walk.walk.places; order = c.in_ok-walk.walk.order; waiting = c.push_slot.new.waiting } in
    let b = begins c.args.graph.now c.as_slice-nodes.result.now c.as_slice-nodes.ensures c.requires c.in_ok-walk.walk w c.in_ok-walk.ensures refl refl c.in_ok-push_slot.ensures in
    record { kept = b.0; reached = b.1 }

pub meet-requires : goal.meet-requires
meet-requires c =
    let w : Walk = record { places = c.loop-node.walk.places; order = c.loop-node.walk.order; waiting = c.pop.new.self } in
    let t = taken_kept (length c.as_slice-nodes.result.now) c.in-Some.node c.loop-node.walk w c.loop-node.invariant.kept refl refl c.in-Some.ensures.items in
    record {
      kept = t.0;
      within = t.1;
      valid = subst (λ (nodes : List Node). (n : ℕ) → NamesBelow (length nodes) (node_at nodes n)) (sym c.as_slice-nodes.ensures) (names_below c.args.graph.now c.requires);
    }

pub loop-node-smaller : goal.loop-node-smaller
loop-node-smaller c =
    let w : Walk = record { places = c.loop-node.walk.places; order = c.loop-node.walk.order; waiting = c.pop.new.self } in
    let less = taken_turns c.as_slice-nodes.result.now c.in-Some.node c.loop-node.walk w refl c.in-Some.ensures.items in
    let same : turns_left c.as_slice-nodes.result.now c.meet.new.walk < turns_left c.as_slice-nodes.result.now c.loop-node.walk = omega (arith, less, c.in_ok-meet.ensures.turns) in
    same

pub loop-node-preserved : goal.loop-node-preserved
loop-node-preserved c =
    let w : Walk = record { places = c.loop-node.walk.places; order = c.loop-node.walk.order; waiting = c.pop.new.self } in
    record {
      kept = c.in_ok-meet.ensures.kept;
      reached =
          c.in_ok-meet.ensures.reached
          ∙ (taken_reached c.as_slice-nodes.result.now c.in-Some.node c.loop-node.walk w refl refl c.in-Some.ensures.items
          ∙ c.loop-node.invariant.reached);
    }

pub returns-clause-visited : goal.returns-clause-visited
returns-clause-visited c =
    let none : length c.loop-node.walk.waiting.items ≡ 0 = search rules in
    sym (nothing_waits c.as_slice-nodes.result.now c.loop-node.walk none) ∙ c.loop-node.invariant.reached
