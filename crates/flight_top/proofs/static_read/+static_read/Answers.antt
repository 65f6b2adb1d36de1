use Rattle.std.proofs.Common.{◌≡◌, ◌+◌, ◌-◌, ◌<◌, ◌++◌, ◌∷◌, [], ℕ, suc, List, length, map, refl, sym, ◌∙◌, ap, subst, arith, rules, Option, Some, None, codes}
use Rattle.std.proofs.lemmas.List.{map-append}
use Rattle.serde_json.specs.Data.{Data, array, no_items}
use Rattle.serde_json.specs.View.{view, items_of, members_view}
use Rattle.serde_json.specs.declared.value.Value.{Array}
use Rattle.serde_json.proofs.Views.{view-Array}
use Rattle.flight_syntax.specs.declared.token.TokenKind.TheVariants.{Mark}
use Rattle.flight_syntax.specs.Words.{Word}
use Rattle.flight_top.specs.StaticReader.{Gives, gives, seen, Reader, ◌>>=◌, if_some, want, items_by, array_rest, members_by, attributes_by, value, words_from}
use Rattle.flight_top.proofs.StaticLoops.{turn_off, value_at, item_open, item_closed, item_comma, prop_comma, attribute_next}
use Rattle.flight_top.proofs.static_read.+static_read.Goals as goal

-- what is left to be read, and one turn of it
rest_is : (p : Reader) (ws : List Word) → None ≡ want Mark (codes "]") ws → array_rest p ws ≡ items_by (length ws) p [] ws
rest_is p ws none = ap (λ o. if_some o (λ r. gives (array no_items) r) (items_by (length ws) p [] ws)) (sym none)

items_turn : (p : Reader) (end at : ℕ) (done : List Data) (ws all : List Word) → at < end → items_by (end - at) p done ws ≡ items_by (length all) p [] all → items_by (suc (end - (at + 1))) p done ws ≡ items_by (length all) p [] all
items_turn p end at done ws all less e = ap (λ k. items_by k p done ws) (sym (turn_off end at less)) ∙ e

pub array-returns-in_err-item : goal.array-returns-in_err-item
array-returns-in_err-item t c =
    let p = value c.args.below in
    let all = words_from c.args.code.now c.args.at in
    let ws = words_from c.args.code.now c.items.next in
    let done = map view c.items.items.items in
    let end = length c.args.code.now.tokens.now in
    let turn = items_turn p end c.items.counter done ws all c.items-test.true c.items.invariant in
    subst (λ o. Gives (seen c.args.code.now) c.from_residual.result o) (turn ∙ sym (rest_is p all c.in_default.ensures)) (search rules)

pub array-returns-in-Some-want : goal.array-returns-in-Some-want
array-returns-in-Some-want t c =
    let p = value c.args.below in
    let all = words_from c.args.code.now c.args.at in
    let ws = words_from c.args.code.now c.items.next in
    let done = map view c.items.items.items in
    let end = length c.args.code.now.tokens.now in
    let turn = items_turn p end c.items.counter done ws all c.items-test.true c.items.invariant in
    let closed = item_closed (end - (c.items.counter + 1)) p done ws (words_from c.args.code.now c.in_ok-item.end) (words_from c.args.code.now c.in-Some-want.end) (view c.in_ok-item.item) c.in_ok-item.ensures c.in-Some-want.ensures in
    let pushed : view (Array c.push.new.self) ≡ array (items_of (done ++ view c.in_ok-item.item ∷ [])) =
    view-Array c.push.new.self ∙ ap (λ xs. array (items_of (map view xs))) c.in_ok-push.ensures.items ∙ ap (λ xs. array (items_of xs)) (map-append view c.items.items.items (c.in_ok-item.item ∷ [])) in
    rest_is p all c.in_default.ensures ∙ sym turn ∙ closed ∙ ap (λ v. gives v (words_from c.args.code.now c.in-Some-want.end)) (sym pushed)

pub array-returns-in_err-next : goal.array-returns-in_err-next
array-returns-in_err-next t c =
    let p = value c.args.below in
    let all = words_from c.args.code.now c.args.at in
    let ws = words_from c.args.code.now c.items.next in
    let done = map view c.items.items.items in
    let end = length c.args.code.now.tokens.now in
    let turn = items_turn p end c.items.counter done ws all c.items-test.true c.items.invariant in
    let opened = item_open (end - (c.items.counter + 1)) p done ws (words_from c.args.code.now c.in_ok-item.end) (view c.in_ok-item.item) c.in_ok-item.ensures c.in_default-want.ensures in
    subst (λ o. Gives (seen c.args.code.now) c.from_residual-in_err-next.result o) (sym opened ∙ turn ∙ sym (rest_is p all c.in_default.ensures)) (search rules)

pub array-items-preserved : goal.array-items-preserved
array-items-preserved t c =
    let p = value c.args.below in
    let all = words_from c.args.code.now c.args.at in
    let ws = words_from c.args.code.now c.items.next in
    let done = map view c.items.items.items in
    let end = length c.args.code.now.tokens.now in
    let n = end - (c.items.counter + 1) in
    let next = words_from c.args.code.now c.in_ok-next.next in
    let turn = items_turn p end c.items.counter done ws all c.items-test.true c.items.invariant in
    let comma = item_comma n p done ws (words_from c.args.code.now c.in_ok-item.end) next (view c.in_ok-item.item) c.in_ok-item.ensures c.in_default-want.ensures c.in_ok-next.ensures in
    let pushed : map view c.push.new.self.items ≡ done ++ view c.in_ok-item.item ∷ [] = ap (map view) c.in_ok-push.ensures.items ∙ map-append view c.items.items.items (c.in_ok-item.item ∷ []) in
    ap (λ xs. items_by n p xs next) pushed ∙ sym comma ∙ turn

pub value-returns : goal.value-returns
value-returns t c =
    subst (λ o. Gives (seen c.args.code.now) c.begun.result o) (sym (value_at c.args.levels (c.args.levels - 1) (words_from c.args.code.now c.args.at) (omega arith))) c.begun.ensures

pub attributes-attributes-preserved : goal.attributes-attributes-preserved
attributes-attributes-preserved t c =
    let p = value c.args.below in
    let ws = words_from c.args.code.now c.attributes.next in
    let found = members_view c.attributes.members.entries in
    let end = length c.args.code.now.tokens.now in
    let n = end - (c.attributes.counter + 1) in
    sym (attribute_next n p found (members_view c.attribute.new.members.entries) ws (words_from c.args.code.now c.in_ok-next.next) c.in_default.ensures c.in_ok-next.ensures)
    ∙ ap (λ k. attributes_by k p found ws) (sym (turn_off end c.attributes.counter c.attributes-test.true))
    ∙ c.attributes.invariant

pub object-props-preserved : goal.object-props-preserved
object-props-preserved t c =
    let p = value c.args.below in
    let ws = words_from c.args.code.now c.props.next in
    let found = members_view c.props.members.entries in
    let end = length c.args.code.now.tokens.now in
    let n = end - (c.props.counter + 1) in
    sym (prop_comma n p found (members_view c.property.new.members.entries) ws (words_from c.args.code.now c.in_ok-end.end) (words_from c.args.code.now c.in_ok-next.next) c.in_ok-end.ensures c.in_default-want.ensures c.in_ok-next.ensures)
    ∙ ap (λ k. members_by k p found ws) (sym (turn_off end c.props.counter c.props-test.true))
    ∙ c.props.invariant
