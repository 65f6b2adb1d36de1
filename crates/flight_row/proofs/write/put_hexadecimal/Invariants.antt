use Rattle.std.proofs.Common.{◌≡◌, ◌+◌, ◌^◌, ◌<◌, ◌≤◌, false, length, drop}
use Rattle.std.specs.Fmt.{digits_onto}
use Rattle.flight_row.specs.Written.{hexadecimal}
use Rattle.flight_row.proofs.write.put_hexadecimal.Given as goal

abbrev pub invariant-places : goal.invariant-places
invariant-places l = record {
  some : 0 < l.at;
  within : l.at ≤ 8;
  whole : length l.digits ≡ 8;
  left : l.rest < 16 ^ l.at;
  value : digits_onto (l.at + 56) 16 false l.rest (drop l.at l.digits) ≡ hexadecimal l.number;
}

abbrev pub decreases-places : goal.decreases-places
decreases-places l = l.at
