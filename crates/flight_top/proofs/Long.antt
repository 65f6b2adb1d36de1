-- There are longer lists.
use Rattle.std.proofs.Common.{ℕ, ◌+◌, ◌<◌, List, length, replicate, arith}
use Rattle.std.proofs.lemmas.List.{length-replicate}

pub long_list : (n : ℕ) → (input : List ℕ) × (n < length input)
long_list n = (replicate (n + 1) 0, rw length-replicate (omega arith))
