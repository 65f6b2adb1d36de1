-- Names joined part by part.
use Rattle.std.proofs.Common.{◌≡◌, ℕ, List, [], ◌∷◌, ◌++◌, append_assoc}
use Rattle.flight_syntax.specs.Lexicon.{Placed}
use Rattle.flight_syntax.specs.Tree.{joined_bytes}

pub joined_more : (bytes part : List ℕ) (parts : List Placed) → joined_bytes ((bytes ++ 45 ∷ []) ++ part) parts ≡ bytes ++ 45 ∷ joined_bytes part parts
joined_more bytes part [] = simp append_assoc
joined_more bytes part (next ∷ parts) = simp append_assoc
