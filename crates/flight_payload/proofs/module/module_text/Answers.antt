use Rattle.std.proofs.Common.{◌≡◌, ◌∙◌, true, Some, None, sym, ap, subst}
use Rattle.std.specs.Prelude.{MatchOption}
use Rattle.serde_json.specs.View.{view}
use Rattle.serde_json.specs.Read.{read}
use Rattle.serde_json.proofs.Nesting.{depth-read}
use Rattle.flight_text.specs.Whole.{has_whole_numbers}
use Rattle.flight_place.proofs.Trees.{whole-no_float}
use Rattle.flight_payload.proofs.module.module_text.Goals as goal

pub returns : goal.returns
returns c =
    let meant = view c.in-Some.value in
    let json : read c.args.json.now ≡ Some meant = subst (λ o. MatchOption o (read c.args.json.now ≡ None) (λ value. read c.args.json.now ≡ Some (view value))) c.in-Some.is c.in_ok-value.ensures in
    let whole : has_whole_numbers meant ≡ true = sym c.if-not-has_whole_numbers.ensures in
    let back : read c.in_ok-text.text ≡ Some meant = ap read c.in_ok-text.ensures ∙ c.in_ok-to_string.ensures.reads_back (depth-read c.args.json.now meant json) in
    record {
      is_module = record {
        meant = meant;
        is_read = back;
        are_whole = whole;
        is_compact = c.in_ok-text.ensures ∙ c.in_ok-to_string.ensures.text (whole-no_float meant whole);
      };
      same = back ∙ sym json;
    }
