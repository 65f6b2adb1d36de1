use Rattle.std.proofs.Common.{◌≡◌, ◌++◌, string_bytes}
use Rattle.flight_gen.specs.Generated.{each_below, source}
use Rattle.flight_gen.proofs.script.push_all_sources.Given as goal

abbrev pub invariant-loop-number : goal.invariant-loop-number
invariant-loop-number l = string_bytes l.out ≡ string_bytes l.fn.out ++ each_below source l.number
