use Rattle.std.proofs.Common.{◌≡◌, ◌≤◌, ◌+◌, ◌*◌, ◌++◌, ◌∷◌, [], ℕ, List, length, map, max, take, drop, false, Some}
use Rattle.std.specs.Str.{bytes_eq}
use Rattle.std.specs.HashMap.{get}
use Rattle.flight_parse.specs.Declarations.{declaration_of}
use Rattle.flight_resolve.specs.Names.{is_kind}
use Rattle.flight_resolve.proofs.Lookups.{number_from}
use Rattle.flight_resolve.proofs.tables.numbers.Given as goal

abbrev pub invariant-loop-at : goal.invariant-loop-at
invariant-loop-at l = record {
  within : l.at ≤ length l.declared;
  known : (q : List ℕ) → get bytes_eq l.numbers q ≡ number_from l.at (is_kind l.kind q) (map declaration_of (drop l.at l.declared));
}

abbrev pub decreases-loop-at : goal.decreases-loop-at
decreases-loop-at l = l.at
