-- Nodes that stand in the order of a first visit.
use Rattle.std.specs.Prelude.{ℕ, zero, suc, List, [], ◌∷◌, ◌++◌}

-- 0, 1 and so on, n of them
abbrev pub in_order : ℕ → List ℕ
in_order zero = []
in_order (suc n) = in_order n ++ n ∷ []
