use Rattle.std.proofs.Common.{ℕ, ◌≡◌, ◌+◌, ◌∙◌, sym, ap, Option, Some, None, ◌++◌, ◌∷◌, [], length, rules, subst, arith}
use Rattle.flight_link.specs.declared.fresh.Fresh.{Fresh}
use Rattle.flight_link.specs.declared.node.Start.TheVariants.{Place as AtPlace}
use Rattle.flight_link.specs.Nodes.{followed, IsKnown}
use Rattle.flight_link.proofs.Growing.{fresh_none, fresh_some}
use Rattle.flight_link.proofs.table.Table.add_fresh.Goals as goal

pub returns-in_default : goal.returns-in_default
returns-in_default c = λ places are last.
    let none : followed c.args.place.now ≡ None = search rules in
    fresh_none c.args.self.now.starts.items c.args.spot.row places c.args.place.now c.args.fresh.now are none

pub returns : goal.returns
returns c = λ places are last.
    let g : Fresh = record { index = c.push.new.self; starts = c.push-2.new.self; states = c.push-3.new.self } in
    let some : followed c.args.place.now ≡ Some (c.in-Some.id, c.in-Some.names.now) = search rules in
    let known = subst (IsKnown c.args.self.now.rows.items c.args.self.now.starts.items c.in-Some.id) (sym c.in-Some-get.ensures) (c.requires.known c.in-Some.id) in
    let number : c.in-Ok.number ≡ length c.args.self.now.starts.items + length c.args.fresh.now.starts.items = search rules in
    let few = are.few in
    let long : length c.reach.new.cells.items ≡ length places = c.in_ok-reach.ensures.exact (omega (arith, few, last)) ∙ last in
    fresh_some c.args.self.now.starts.items c.args.spot.row places c.args.place.now c.args.fresh.now g c.reach.new.cells.items (c.in-Some.id, c.in-Some.names.now) c.in-Ok.number c.in-Some-get.known.node are some known.0 number c.reach.ensures.same long
    (c.in_ok-push.ensures.items ∙ ap (λ (o : Option ℕ). c.reach.new.cells.items ++ o ∷ []) c.in_ok-try_of.ensures)
    (c.in_ok-push-2.ensures.items ∙ ap (λ n. c.args.fresh.now.starts.items ++ AtPlace (record { row = c.args.spot.row; place = n }) ∷ []) last)
    (search rules)
