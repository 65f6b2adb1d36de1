use Rattle.std.proofs.Common.{◌≡◌, ◌++◌, ◌∷◌, [], OnOk, List, ℕ, sym, subst}
use Rattle.std.specs.Prelude.{All, false}
use Rattle.std.proofs.lemmas.List.Elements.{recursion_from_All}
use Rattle.flight_graph.specs.Writing.{is_escaped}
use Rattle.flight_graph.proofs.Escapes.{all_plain}
use Rattle.flight_graph.proofs.escape.write_string.Goals as goal

pub returns : goal.returns
returns c =
    let text = c.args.text.now in
    let plain = subst (λ (bytes : List ℕ). All (λ b. is_escaped b ≡ false) bytes) c.as_bytes.ensures.value (c.any_escaped.ensures c.if-any_escaped.false) in
    let same = all_plain text (recursion_from_All (λ b. is_escaped b ≡ false) text plain) in
    subst (λ (piece : List ℕ). OnOk c.push_quoted.result (c.push_quoted.new.self ≡ c.args.out.now ++ 34 ∷ (piece ++ 34 ∷ []))) (sym same) c.push_quoted.ensures
