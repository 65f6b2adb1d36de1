use Rattle.std.proofs.Common.{rules, ◌≡◌, ◌∙◌, ◌<◌, ◌^◌, Some, length, subst}
use Rattle.flight_meaning.specs.declared.place.Place.TheVariants as place
use Rattle.flight_link.specs.declared.node.State.TheVariants.{Ended}
use Rattle.flight_link.specs.Nodes.{place_in}
use Rattle.flight_link.specs.Waiting.{IsResolved}
use Rattle.flight_link.proofs.LaidOut.{map_laid}
use Rattle.flight_link.proofs.table.Table.lay_map.Goals as goal

pub returns : goal.returns
returns c =
    let h = subst (λ p. IsResolved c.args.self.now c.args.states.now c.args.reference.now.id p (Ended c.in-Ended.end)) c.as_slice.ensures c.in-Ended.ensures in
    let at : place_in c.args.self.now.rows.items c.in-Ended.end ≡ Some (place.Array c.as_slice-2.result.now) = c.in-Some.ensures c.in-Ended.end.place ∙ search rules in
    let few : length c.push_entries.new.targets.items < 2 ^ 32 = search rules in
    map_laid c.args.self.now.rows.items c.args.spot c.in-Ended.end c.args.reference.now c.as_slice-2.result.now c.args.targets.now.items c.push_entries.new.targets.items c.requires.linked.table.plain c.requires.place h.0 at c.requires.empty c.in_ok-push_entries.ensures few
