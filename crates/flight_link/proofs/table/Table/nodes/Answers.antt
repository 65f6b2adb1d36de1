use Rattle.std.proofs.Common.{rules, ◌≡◌, ℕ, Some, List, slice_get, length, sym, subst}
use Rattle.flight_value.specs.declared.graph.Node.{Node}
use Rattle.flight_link.specs.declared.key.NodeKey.{NodeKey}
use Rattle.flight_link.specs.Drawing.{identity_of, DrawsNode}
use Rattle.flight_link.proofs.Drawing.{grows_on, each_push}
use Rattle.flight_link.proofs.table.Table.nodes.Goals as goal

pub nodes-preserved : goal.nodes-preserved
nodes-preserved c =
    let old = c.nodes.numbers.keys.items in
    let new = c.node_of.new.numbers.keys.items in
    let at : slice_get old (length c.nodes.nodes.items) ≡ Some c.in-Some.key = search rules in
    record {
      numbered = c.in_ok-node_of.ensures.numbered;
      grows = grows_on c.args.numbers.now.keys.items old new c.nodes.invariant.grows c.in_ok-node_of.ensures.grows;
      each = subst (λ (xs : List Node). (n : ℕ) (node : Node) → slice_get xs n ≡ Some node → (key : NodeKey) × (slice_get new n ≡ Some key) × DrawsNode c.args.self.now.rows.items new (identity_of c.args.self.now.rows.items key) node) (sym c.in_ok-push.ensures.items)
          (each_push c.args.self.now.rows.items old new c.nodes.nodes.items c.in-Some.key c.in_ok-node_of.field-0 c.in_ok-node_of.ensures.grows c.nodes.invariant.each at c.in_ok-node_of.ensures.node);
    }
