use Rattle.std.proofs.Common.{map, drop}
use Rattle.std.specs.List.{flat_map}
use Rattle.flight_script.specs.Program.{names_of, named_tests}
use Rattle.flight_script.proofs.Passing.{Passed}
use Rattle.flight_script.proofs.named.check_program.Given as goal

abbrev pub invariant-loop-one : goal.invariant-loop-one
invariant-loop-one l = Passed (named_tests (map (λ n. n.now) l.sources) (map (λ n. n.now) l.streams) (flat_map names_of l.declared)) (named_tests (map (λ n. n.now) l.sources) (map (λ n. n.now) l.streams) (flat_map names_of (drop l.one-index l.declared)))
