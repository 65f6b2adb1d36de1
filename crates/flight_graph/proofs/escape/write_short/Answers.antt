use Rattle.std.proofs.Common.{◌≡◌, ◌++◌, ◌∷◌, [], OnOk, List, ℕ, length, take, sym, subst, ◌∙◌}
use Rattle.std.specs.Prelude.{All, false}
use Rattle.std.proofs.lemmas.List.Elements.{recursion_from_All, All-take}
use Rattle.flight_graph.specs.Writing.{is_escaped}
use Rattle.flight_graph.proofs.Escapes.{all_plain}
use Rattle.flight_graph.proofs.escape.write_short.Goals as goal

pub returns : goal.returns
returns c =
    let text = c.args.text.now in
    let window = c.fill_front.new.window in
    let held : take (length text) window ≡ text = subst (λ (bytes : List ℕ). take (length bytes) window ≡ bytes) c.as_bytes.ensures.value c.fill_front.ensures in
    let none = subst (λ (bytes : List ℕ). All (λ b. is_escaped b ≡ false) bytes) c.as_slice.ensures (c.any_escaped.ensures c.if-any_escaped.false) in
    let plain = subst (All (λ b. is_escaped b ≡ false)) held (All-take (λ b. is_escaped b ≡ false) (length text) window none) in
    let same = all_plain text (recursion_from_All (λ b. is_escaped b ≡ false) text plain) in
    subst (λ (piece : List ℕ). OnOk c.push_window_quoted.result (c.push_window_quoted.new.self ≡ c.args.out.now ++ 34 ∷ (piece ++ 34 ∷ []))) (held ∙ sym same) c.push_window_quoted.ensures
