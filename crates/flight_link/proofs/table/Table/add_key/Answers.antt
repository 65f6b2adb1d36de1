use Rattle.std.proofs.Common.{◌≡◌, ◌∙◌, ap, refl, Some, List, ◌++◌, ◌∷◌, [], length, rules, slice_get}
use Rattle.flight_link.specs.declared.key.NodeKey.{NodeKey}
use Rattle.flight_link.specs.declared.numbers.Numbers.{Numbers}
use Rattle.flight_link.proofs.Drawing.{numbered_push, same_tables}
use Rattle.flight_link.proofs.Growing.{push_at}
use Rattle.flight_link.proofs.table.Table.add_key.Goals as goal

pub returns-clause-numbered : goal.returns-clause-numbered
returns-clause-numbered c =
    let rows = c.args.self.now.rows.items in
    let n = c.args.numbers.now in
    let t : Numbers = record { keys = c.reserve.new.self; places = n.places; promises = n.promises; actions = n.actions } in
    let p = c.put_number.new.numbers in
    let u : Numbers = record { keys = c.put_last.new.list; places = p.places; promises = p.promises; actions = p.actions } in
    let keys = c.put_last.ensures ∙ ap (λ (x : List NodeKey). x ++ c.args.key ∷ []) (c.in_ok-put_number.ensures.put.keys ∙ c.reserve.ensures.items) in
    let number : c.in-Ok.number ≡ length n.keys.items = search rules in
    numbered_push rows n u c.args.key c.requires.key c.requires.numbered c.requires.fresh keys
    (same_tables rows u p refl refl refl c.args.key ∙ (c.in_ok-put_number.ensures.put.here ∙ ap Some number))
    (λ other there ne. same_tables rows u p refl refl refl other ∙ (c.in_ok-put_number.ensures.put.others other there ne ∙ same_tables rows t n refl refl refl other))
    c.in_ok-put_number.ensures.put.room

pub returns-clause-number : goal.returns-clause-number
returns-clause-number c =
    let keys = c.put_last.ensures ∙ ap (λ (x : List NodeKey). x ++ c.args.key ∷ []) (c.in_ok-put_number.ensures.put.keys ∙ c.reserve.ensures.items) in
    let number : c.in-Ok.number ≡ length c.args.numbers.now.keys.items = search rules in
    ap (λ (x : List NodeKey). slice_get x c.in-Ok.number) keys ∙ (ap (slice_get (c.args.numbers.now.keys.items ++ c.args.key ∷ [])) number ∙ push_at c.args.numbers.now.keys.items c.args.key)
