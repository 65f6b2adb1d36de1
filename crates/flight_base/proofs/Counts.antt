-- Counts that only rise.
use Rattle.std.proofs.Common.{ℕ, ◌≤◌, arith}
use Rattle.flight_base.specs.Outside.{Rose}

-- what rose from a later count rose from an earlier one
pub Rose-from_earlier : (a b c : ℕ) → a ≤ b → Rose b c → Rose a c
Rose-from_earlier a b c h k = omega (arith, h, k)

-- what rose by then has risen from then on
pub Rose-to_later : (a b c : ℕ) → Rose a b → b ≤ c → Rose a c
Rose-to_later a b c h k = omega (arith, h, k)
