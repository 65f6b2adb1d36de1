use Rattle.std.proofs.Common.{◌≡◌, ◌++◌, map}
use Rattle.flight_script.specs.Entries.{entries}
use Rattle.flight_script.specs.Script.{names}
use Rattle.flight_script.proofs.names.names.Given as goal

abbrev pub invariant-loop-name : goal.invariant-loop-name
invariant-loop-name l = map (λ n. n.now) l.out.items ++ names (entries l.name-iterator) ≡ names (entries l.members.entries)
