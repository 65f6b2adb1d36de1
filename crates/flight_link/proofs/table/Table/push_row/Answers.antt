use Rattle.std.proofs.Common.{◌≡◌, ◌∙◌, ap, Some, List, Option, ℕ, ◌++◌, ◌∷◌, [], length, slice_set, rules, nat_eq, cond}
use Rattle.flight_link.specs.Known.{known_of}
use Rattle.flight_meaning.specs.declared.place.PlacedRow.{PlacedRow}
use Rattle.flight_link.specs.declared.table.Table.{Table}
use Rattle.flight_link.specs.declared.node.Start.{Start}
use Rattle.flight_link.specs.declared.node.State.{State}
use Rattle.flight_link.specs.Growth.{root_of}
use Rattle.flight_link.proofs.RowComes.{HasCome, table_added, states_added}
use Rattle.flight_link.proofs.Hanging.{row_begun}
use Rattle.flight_link.proofs.table.Table.push_row.Goals as goal

pub returns-clause-table : goal.returns-clause-table
returns-clause-table c =
    let u : Table = record { rows = c.put_last.new.list; starts = c.append_last.new.list; index = c.put_last-2.new.list; known = c.insert.new.self } in
    let number : c.in-Ok.number ≡ length c.args.self.now.rows.items = search rules in
    let has : HasCome c.args.self.now u c.args.row c.args.fresh c.args.node = record {
      rows = c.put_last.ensures ∙ ap (λ (x : List PlacedRow). x ++ c.args.row ∷ []) c.reserve.ensures.items;
      index = c.put_last-2.ensures ∙ (ap (λ (x : List (List (Option ℕ))). x ++ c.new.result ∷ []) c.reserve-2.ensures.items ∙ ap (λ y. c.args.self.now.index.items ++ y ∷ []) c.new.ensures);
      starts = c.append_last.ensures ∙ ap (λ (x : List Start). x ++ c.args.fresh.starts.items) c.reserve-3.ensures.items;
      updates = λ q. c.in_ok-insert.ensures.ok q ∙ ap (λ (o : Option ℕ). cond (nat_eq c.args.row.id q) (Some (record { node = c.args.node; row = o })) (known_of c.args.self.now.known q)) (c.in_ok-try_of.ensures ∙ ap Some number);
    } in
    table_added c.args.self.now u c.args.row c.args.fresh c.args.node c.requires.table c.requires.may has

pub returns-clause-states : goal.returns-clause-states
returns-clause-states c =
    let u : Table = record { rows = c.put_last.new.list; starts = c.append_last.new.list; index = c.put_last-2.new.list; known = c.insert.new.self } in
    let number : c.in-Ok.number ≡ length c.args.self.now.rows.items = search rules in
    let has : HasCome c.args.self.now u c.args.row c.args.fresh c.args.node = record {
      rows = c.put_last.ensures ∙ ap (λ (x : List PlacedRow). x ++ c.args.row ∷ []) c.reserve.ensures.items;
      index = c.put_last-2.ensures ∙ (ap (λ (x : List (List (Option ℕ))). x ++ c.new.result ∷ []) c.reserve-2.ensures.items ∙ ap (λ y. c.args.self.now.index.items ++ y ∷ []) c.new.ensures);
      starts = c.append_last.ensures ∙ ap (λ (x : List Start). x ++ c.args.fresh.starts.items) c.reserve-3.ensures.items;
      updates = λ q. c.in_ok-insert.ensures.ok q ∙ ap (λ (o : Option ℕ). cond (nat_eq c.args.row.id q) (Some (record { node = c.args.node; row = o })) (known_of c.args.self.now.known q)) (c.in_ok-try_of.ensures ∙ ap Some number);
    } in
    states_added c.args.self.now u c.args.row c.args.fresh c.args.node c.args.states.now.items c.put_state.new.states.items c.requires.table c.requires.may has c.requires.states
    (c.put_state.ensures
    ∙ (ap (λ (x : List State). slice_set x c.args.node c.root_state-root.result) (c.append_last-2.ensures ∙ ap (λ (x : List State). x ++ c.args.fresh.states.items) c.reserve-4.ensures.items)
    ∙ ap (λ x. slice_set (c.args.states.now.items ++ c.args.fresh.states.items) c.args.node x)
    (c.root_state-root.ensures ∙ (ap (λ x. root_of x c.in-Ok.number) c.as_slice.ensures.value ∙ ap (root_of c.args.fresh.index.items) number))))

pub returns-clause-listed : goal.returns-clause-listed
returns-clause-listed c = λ backlog quiet rest.
    let number : c.in-Ok.number ≡ length c.args.self.now.rows.items = search rules in
    row_begun c.args.self.now c.args.row c.args.fresh c.args.node c.args.states.now.items c.put_state.new.states.items backlog c.requires.table c.requires.may c.requires.states
    (c.put_state.ensures
    ∙ (ap (λ (x : List State). slice_set x c.args.node c.root_state-root.result) (c.append_last-2.ensures ∙ ap (λ (x : List State). x ++ c.args.fresh.states.items) c.reserve-4.ensures.items)
    ∙ ap (λ x. slice_set (c.args.states.now.items ++ c.args.fresh.states.items) c.args.node x)
    (c.root_state-root.ensures ∙ (ap (λ x. root_of x c.in-Ok.number) c.as_slice.ensures.value ∙ ap (root_of c.args.fresh.index.items) number))))
    quiet rest
