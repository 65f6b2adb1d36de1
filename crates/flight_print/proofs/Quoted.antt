-- Quoted texts as they are written.
use Rattle.std.proofs.Common.{arith, ◌≡◌, ℕ, List, [], ◌∷◌, ◌++◌, refl, ap, ap₂, ◌∙◌, append_assoc}
use Rattle.std.specs.Prelude.{flat_map}
use Rattle.std.proofs.lemmas.Bool.Decides.{nat_tests}
use Rattle.json.specs.Print.{escape_byte, escape, quoted}
use Rattle.flight_graph.specs.Text.{escaped, string_text}
use Rattle.flight_print.specs.Text.{literal}

escaped_byte : (b : ℕ) → escaped b ≡ escape_byte b
unfolding escape_byte
escaped_byte b = grind (arith, nat_tests)

escaped_bytes : (bytes : List ℕ) → flat_map escaped bytes ≡ escape bytes
escaped_bytes [] = refl
escaped_bytes (b ∷ bytes) = ap₂ (λ x y. x ++ y) (escaped_byte b) (escaped_bytes bytes)

pub quoted_word : (bytes : List ℕ) → string_text bytes ≡ quoted bytes
quoted_word bytes = ap (λ z. 34 ∷ (z ++ 34 ∷ [])) (escaped_bytes bytes)

pub literal_written : (old s text quote new : List ℕ) → s ≡ text → quote ≡ old ++ string_text s → new ≡ quote ++ 32 ∷ [] → new ≡ old ++ literal text
literal_written old s text quote new e f g = g ∙ (ap (λ z. z ++ 32 ∷ []) (f ∙ ap (λ z. old ++ z) (quoted_word s ∙ ap quoted e)) ∙ append_assoc old (quoted text) (32 ∷ []))
