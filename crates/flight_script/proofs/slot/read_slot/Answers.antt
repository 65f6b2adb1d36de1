use Rattle.std.proofs.Common.{◌≡◌, ◌∙◌, sym, ap, subst}
use Rattle.serde_json.specs.Data.{string}
use Rattle.serde_json.specs.View.{view}
use Rattle.flight_script.specs.Slots.{IsSlot}
use Rattle.flight_script.specs.Answer.{Answers}
use Rattle.flight_script.proofs.Marks.{view-String}
use Rattle.flight_script.proofs.slot.read_slot.Goals as goal

pub returns-in-String : goal.returns-in-String
returns-in-String c =
    let is : view c.args.value.now ≡ string c.as_str.result.now = ap view c.in-String.is ∙ (view-String c.in-String.text ∙ ap string (sym c.as_str.ensures.value)) in
    subst (λ d. Answers (IsSlot c.args.count d) c.read_text.result) (sym is) c.read_text.ensures
