use Rattle.std.proofs.Common.{◌∙◌, sym}
use Rattle.serde_json.specs.View.{view}
use Rattle.flight_place.proofs.Trees.{import_is}
use Rattle.flight_place.proofs.tree.import_place.Goals as goal

pub returns-clause-ok : goal.returns-clause-ok
returns-clause-ok c =
    import_is c.args.payload.now c.in_ok-text.text (view c.in_ok-value.value) c.in_ok-value.ensures.ok (sym c.if-not-has_whole_numbers.ensures) (λ h. c.in_ok-text.ensures ∙ c.in_ok-json.ensures.text h)
