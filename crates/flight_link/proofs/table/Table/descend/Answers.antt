use Rattle.std.proofs.Common.{◌≡◌, ◌∷◌, length, rules}
use Rattle.std.proofs.lemmas.List.{nil_from_length}
use Rattle.flight_link.proofs.Advancing.{way_goes, way_ends, way_stops, way_leaves, way_meets, way_at}
use Rattle.flight_link.proofs.table.Table.descend.Goals as goal

pub returns-in-Stops-clause-leads : goal.returns-in-Stops-clause-leads
returns-in-Stops-clause-leads c =
    let split : c.loop-name.rest.now ≡ c.in-Some.name.now ∷ c.in-Some.behind.now = search rules in
    let w = way_at c.args.self.now c.args.spot c.args.names.now c.loop-name.at _ _ split c.loop-name.invariant in
    way_stops c.args.self.now c.args.spot c.args.names.now c.loop-name.at c.in-Some.name.now c.in-Some.behind.now w c.in-Stops.ensures

pub returns-in-Leaves-clause-leads : goal.returns-in-Leaves-clause-leads
returns-in-Leaves-clause-leads c =
    let split : c.loop-name.rest.now ≡ c.in-Some.name.now ∷ c.in-Some.behind.now = search rules in
    let w = way_at c.args.self.now c.args.spot c.args.names.now c.loop-name.at _ _ split c.loop-name.invariant in
    way_leaves c.args.self.now c.args.spot c.args.names.now c.loop-name.at c.in-Some.name.now c.in-Some.behind.now w c.in-Leaves.ensures

pub returns-in-Meets-clause-leads : goal.returns-in-Meets-clause-leads
returns-in-Meets-clause-leads c =
    let split : c.loop-name.rest.now ≡ c.in-Some.name.now ∷ c.in-Some.behind.now = search rules in
    let w = way_at c.args.self.now c.args.spot c.args.names.now c.loop-name.at _ _ split c.loop-name.invariant in
    way_meets c.args.self.now c.args.spot c.args.names.now c.loop-name.at c.in-Some.name.now c.in-Some.behind.now c.in-Meets.node w c.in-Meets.ensures

pub loop-name-preserved : goal.loop-name-preserved
loop-name-preserved c =
    let split : c.loop-name.rest.now ≡ c.in-Some.name.now ∷ c.in-Some.behind.now = search rules in
    let w = way_at c.args.self.now c.args.spot c.args.names.now c.loop-name.at _ _ split c.loop-name.invariant in
    way_goes c.args.self.now c.args.spot c.args.names.now c.loop-name.at c.in-To.next c.in-Some.name.now c.in-Some.behind.now c.requires.table w c.in-To.ensures

pub returns-clause-leads : goal.returns-clause-leads
returns-clause-leads c =
    let len : length c.loop-name.rest.now ≡ 0 = search rules in
    let none = nil_from_length c.loop-name.rest.now len in
    let w = way_at c.args.self.now c.args.spot c.args.names.now c.loop-name.at _ _ none c.loop-name.invariant in
    way_ends c.args.self.now c.args.spot c.args.names.now c.loop-name.at c.requires.table w
