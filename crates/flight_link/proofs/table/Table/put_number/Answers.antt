use Rattle.std.proofs.Common.{Some, refl, sym, ap, subst, ◌∙◌, slice_set, arith}
use Rattle.flight_link.specs.declared.numbers.Numbers.{Numbers}
use Rattle.flight_link.specs.Numbering.{IsKey, IsPut}
use Rattle.flight_link.proofs.Drawing.{number_within, put_made}
use Rattle.flight_link.proofs.table.Table.put_number.Goals as goal

pub put_cell-requires : goal.put_cell-requires
put_cell-requires c =
    let key = subst (IsKey c.args.self.now.rows.items) c.in-Made.is c.requires.key in
    let less = number_within c.args.self.now.rows.items c.in-Made.spot key.0 key.1 in
    let value = c.number-at.ensures.value in
    let room = c.requires.room in
    omega (arith, less, value, room)

pub returns-in_ok-try_of-in-Made-clause-put : goal.returns-in_ok-try_of-in-Made-clause-put
returns-in_ok-try_of-in-Made-clause-put c =
    let rows = c.args.self.now.rows.items in
    let old = c.args.numbers.now in
    let new : Numbers = record { keys = old.keys; places = c.put_cell.new.cells; promises = old.promises; actions = old.actions } in
    let key = subst (IsKey rows) c.in-Made.is c.requires.key in
    subst (λ k. IsPut rows old new k c.args.number) (sym c.in-Made.is)
    (put_made rows old new c.in-Made.spot key.0 c.args.number key.1 c.requires.room refl refl refl
    (c.put_cell.ensures ∙ (ap (slice_set old.places.items c.number-at.result) c.in_ok-try_of-in-Made.ensures ∙ ap (λ n. slice_set old.places.items n (Some c.args.number)) c.number-at.ensures.value)))
