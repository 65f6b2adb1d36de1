use Rattle.std.proofs.Common.{◌≡◌, ◌≤◌, ◌+◌, ◌*◌, ◌++◌, ◌∷◌, [], ℕ, List, length, map, max, take, drop, false, Some}
use Rattle.flight_syntax.specs.Faults as faults
use Rattle.flight_parse.specs.Code.{placed}
use Rattle.flight_resolve.specs.Names.{inside_out}
use Rattle.flight_resolve.specs.Seen.{HasSeen, going}
use Rattle.flight_resolve.proofs.repeated.repeated.Given as goal

abbrev pub invariant-loop-name : goal.invariant-loop-name
invariant-loop-name l = record {
  seen : HasSeen l.seen (inside_out [] (map (λ n. placed n.now) (take l.name-index l.names)));
  left : going l.first (faults.repeated (inside_out [] (map (λ n. placed n.now) (take l.name-index l.names))) (map (λ n. placed n.now) (drop l.name-index l.names))) ≡ faults.first_fault (faults.repeated [] (map (λ n. placed n.now) l.names));
}
