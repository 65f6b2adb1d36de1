-- Pieces that were appended one after another.
use Rattle.std.proofs.Common.{ℕ, ◌≡◌, ◌∙◌, ap, List, ◌++◌}
use Rattle.std.proofs.lemmas.List.{append_assoc}

two : (o a b x y : List ℕ) → x ≡ o ++ a → y ≡ x ++ b → y ≡ o ++ (a ++ b)
two o a b x y p q = q ∙ ap (λ l. l ++ b) p ∙ append_assoc o a b

pub three : (o a b c x y z : List ℕ) → x ≡ o ++ a → y ≡ x ++ b → z ≡ y ++ c → z ≡ o ++ (a ++ (b ++ c))
three o a b c x y z p q r = two o a (b ++ c) x z p (two x b c y z q r)
