use Rattle.std.proofs.Common.{◌≡◌, ◌≤◌, ◌+◌, ◌*◌, ◌++◌, ◌∷◌, [], ℕ, List, length, map, max, take, drop, false, Some}
use Rattle.flight_syntax.specs.Faults as faults
use Rattle.flight_parse.specs.Code.{placed}
use Rattle.flight_resolve.specs.Seen.{going}
use Rattle.flight_resolve.proofs.attribute_fault.children_attribute.Given as goal

abbrev pub invariant-loop-name : goal.invariant-loop-name
invariant-loop-name l = going l.first (faults.children_attributes (map (λ n. placed n.now) (drop l.name-index l.names))) ≡ faults.first_fault (faults.children_attributes (map (λ n. placed n.now) l.names))
