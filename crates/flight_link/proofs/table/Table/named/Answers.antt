use Rattle.std.proofs.Common.{◌≡◌, ◌∙◌, sym, ap, refl, None, List, ◌++◌, ◌∷◌, [], length, rules, slice_get}
use Rattle.flight_link.specs.Known.{known_of}
use Rattle.flight_link.specs.declared.ids.Known.{Known}
use Rattle.flight_link.specs.declared.table.Table.{Table}
use Rattle.flight_link.specs.declared.node.Start.{Start}
use Rattle.flight_link.specs.declared.node.Start.TheVariants.{Id}
use Rattle.flight_link.specs.declared.node.State.{State}
use Rattle.flight_link.specs.declared.node.State.TheVariants.{Absent}
use Rattle.flight_link.proofs.Growing.{IsNamedNow, named_table, named_states, name_quiet, push_at}
use Rattle.flight_link.proofs.Hanging.{rest_absent}
use Rattle.flight_link.proofs.table.Table.named.Goals as goal

pub returns-clause-table : goal.returns-clause-table
returns-clause-table c =
    let u : Table = record { rows = c.args.self.now.rows; starts = c.put_last.new.list; index = c.args.self.now.index; known = c.insert.new.self } in
    let k : Known = record { node = c.in-Ok.node; row = c.none.result } in
    let added = c.put_last.ensures ∙ ap (λ (x : List Start). x ++ Id c.args.id ∷ []) c.reserve.ensures.items in
    let none : known_of c.args.self.now.known c.args.id ≡ None = sym c.get.ensures ∙ c.in_default.is in
    let number : c.in-Ok.node ≡ length c.args.self.now.starts.items = search rules in
    let is : IsNamedNow c.args.self.now u c.args.id k = record { rows = refl; index = refl; starts = added; none = none; updates = c.in_ok-insert.ensures.ok; node = number; row = c.none.ensures } in
    named_table c.args.self.now u c.args.id k c.requires.table is

pub returns-clause-states : goal.returns-clause-states
returns-clause-states c =
    let u : Table = record { rows = c.args.self.now.rows; starts = c.put_last.new.list; index = c.args.self.now.index; known = c.insert.new.self } in
    let k : Known = record { node = c.in-Ok.node; row = c.none.result } in
    let added = c.put_last.ensures ∙ ap (λ (x : List Start). x ++ Id c.args.id ∷ []) c.reserve.ensures.items in
    let none : known_of c.args.self.now.known c.args.id ≡ None = sym c.get.ensures ∙ c.in_default.is in
    let number : c.in-Ok.node ≡ length c.args.self.now.starts.items = search rules in
    let is : IsNamedNow c.args.self.now u c.args.id k = record { rows = refl; index = refl; starts = added; none = none; updates = c.in_ok-insert.ensures.ok; node = number; row = c.none.ensures } in
    named_states c.args.self.now u c.args.id k c.args.states.now.items c.put_last-2.new.list.items c.requires.table is (c.put_last-2.ensures ∙ ap (λ (x : List State). x ++ Absent ∷ []) c.reserve-2.ensures.items) c.requires.states

pub returns-clause-quiet : goal.returns-clause-quiet
returns-clause-quiet c = name_quiet c.args.states.now.items c.put_last-2.new.list.items (c.put_last-2.ensures ∙ ap (λ (x : List State). x ++ Absent ∷ []) c.reserve-2.ensures.items)

pub returns-clause-node : goal.returns-clause-node
returns-clause-node c =
    let number : c.in-Ok.node ≡ length c.args.self.now.starts.items = search rules in
    let added = c.put_last.ensures ∙ ap (λ (x : List Start). x ++ Id c.args.id ∷ []) c.reserve.ensures.items in
    ap (λ (x : List Start). slice_get x c.in-Ok.node) added ∙ (ap (slice_get (c.args.self.now.starts.items ++ Id c.args.id ∷ [])) number ∙ push_at c.args.self.now.starts.items (Id c.args.id))

pub returns-clause-rest : goal.returns-clause-rest
returns-clause-rest c = λ backlog rest. rest_absent c.args.states.now.items c.put_last-2.new.list.items backlog (c.put_last-2.ensures ∙ ap (λ (x : List State). x ++ Absent ∷ []) c.reserve-2.ensures.items) rest
