use Rattle.std.proofs.Common.{◌≡◌, ◌≤◌, ◌+◌, ◌*◌, ◌++◌, ◌∷◌, [], ℕ, List, length, map, max, take, drop, false, Some}
use Rattle.flight_syntax.specs.Tree.{props_of}
use Rattle.flight_syntax.specs.Faults as faults
use Rattle.flight_parse.specs.Code.{placed, property_of}
use Rattle.flight_resolve.proofs.property_names.property_names.Given as goal

abbrev pub invariant-loop-property : goal.invariant-loop-property
invariant-loop-property l = map (λ n. placed n.now) l.names.items ++ faults.property_names (props_of (map property_of (drop l.property-index l.properties))) ≡ faults.property_names (props_of (map property_of l.properties))
