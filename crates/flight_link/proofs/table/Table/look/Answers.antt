use Rattle.std.proofs.Common.{◌≡◌, ◌∷◌, length, subst, rules}
use Rattle.std.proofs.lemmas.List.{nil_from_length}
use Rattle.flight_link.specs.Slots.{IsOnTheWay}
use Rattle.flight_link.proofs.Sights.{way_goes, way_awaits, way_leaves, way_ends}
use Rattle.flight_link.proofs.table.Table.look.Goals as goal

pub returns-in-NotYet : goal.returns-in-NotYet
returns-in-NotYet c =
    let split : c.way.rest.now ≡ c.in-Some.slot.now ∷ c.in-Some.behind.now = search rules in
    way_awaits c.args.self.now.rows.items c.args.path.now c.in-Some.behind.now c.in-Some.slot.now c.in-NotYet.id c.way.target (subst (λ r. IsOnTheWay c.args.self.now.rows.items c.args.path.now r c.way.target) split c.way.invariant) c.in-NotYet.ensures

pub returns-in-NoPlace : goal.returns-in-NoPlace
returns-in-NoPlace c =
    let split : c.way.rest.now ≡ c.in-Some.slot.now ∷ c.in-Some.behind.now = search rules in
    way_leaves c.args.self.now.rows.items c.args.path.now c.in-Some.behind.now c.in-Some.slot.now c.way.target (subst (λ r. IsOnTheWay c.args.self.now.rows.items c.args.path.now r c.way.target) split c.way.invariant) c.in-NoPlace.ensures

pub way-preserved : goal.way-preserved
way-preserved c =
    let split : c.way.rest.now ≡ c.in-Some.slot.now ∷ c.in-Some.behind.now = search rules in
    way_goes c.args.self.now.rows.items c.args.path.now c.in-Some.behind.now c.in-Some.slot.now c.way.target c.in-Slot.next (subst (λ r. IsOnTheWay c.args.self.now.rows.items c.args.path.now r c.way.target) split c.way.invariant) c.in-Slot.ensures

pub returns : goal.returns
returns c =
    let len : length c.way.rest.now ≡ 0 = search rules in
    let none = nil_from_length c.way.rest.now len in
    way_ends c.args.self.now.rows.items c.args.path.now c.way.target c.seen.result (subst (λ r. IsOnTheWay c.args.self.now.rows.items c.args.path.now r c.way.target) none c.way.invariant) c.seen.ensures
