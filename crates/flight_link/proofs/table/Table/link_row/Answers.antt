use Rattle.std.proofs.Common.{◌≡◌, length, sym, subst, arith, rules}
use Rattle.std.proofs.lemmas.Option.{slice_get_within}
use Rattle.flight_link.specs.declared.node.Start.TheVariants.{Id}
use Rattle.flight_link.specs.Backlogs.{AreBegun}
use Rattle.flight_link.proofs.table.Table.link_row.Goals as goal

pub settle-requires-clause-begun : goal.settle-requires-clause-begun
settle-requires-clause-begun c =
    let same : c.in_ok-nodes.nodes.start ≡ length c.args.states.now.items = search rules in
    subst (λ k. AreBegun k c.args.node c.deref_mut.result.now c.reach.new.self) (sym same)
    (subst (λ x. AreBegun (length c.args.states.now.items) c.args.node x c.reach.new.self) (sym c.deref_mut.ensures.value)
    (c.in_ok-push_row.ensures.listed c.reach.new.self c.requires.quiet (c.reach.ensures.rest c.args.states.now.items c.requires.rest)))

pub settle-requires-clause-below : goal.settle-requires-clause-below
settle-requires-clause-below c =
    let same : c.in_ok-nodes.nodes.start ≡ length c.args.states.now.items = search rules in
    let w = slice_get_within c.args.self.now.starts.items c.args.node (Id c.args.row.id) c.requires.may.is_node in
    let e = c.requires.states.one_each in
    omega (arith, same, w, e)
