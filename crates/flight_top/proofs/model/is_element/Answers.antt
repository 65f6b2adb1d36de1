use Rattle.std.proofs.Common.{◌≡◌, ◌<◌, ◌≤◌, length, false, sym, ◌∙◌, arith}
use Rattle.std.proofs.lemmas.Bool.{false≢true}
use Rattle.serde_json.specs.View.{items_view}
use Rattle.flight_top.specs.Model.{has_element_form}
use Rattle.flight_top.specs.Fine.{behind}
use Rattle.flight_top.proofs.Models.{form_key, short_form, long_form}
use Rattle.flight_top.proofs.model.is_element.Goals as goal

pub returns-in-len4 : goal.returns-in-len4
returns-in-len4 c = rw (form_key c.args.items.now c.key-item.result c.in-len4.len_at_least c.in-len4.len_below c.key-item.is) c.may_be_key.ensures

pub returns-in_default : goal.returns-in_default
returns-in_default c =
    let few : length c.args.items.now < 4 = let known = c.in_default in grind arith in
    let form : has_element_form (behind (items_view c.args.items.now)) ≡ false = short_form c.args.items.now few in
    (λ t. absurd (false≢true t), λ e. absurd (false≢true (sym form ∙ e)))

pub returns-in_default-2 : goal.returns-in_default-2
returns-in_default-2 c =
    let many : 5 ≤ length c.args.items.now = let known = c.in_default in grind arith in
    let form : has_element_form (behind (items_view c.args.items.now)) ≡ false = long_form c.args.items.now many in
    (λ t. absurd (false≢true t), λ e. absurd (false≢true (sym form ∙ e)))
