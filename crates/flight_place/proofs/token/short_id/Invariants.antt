use Rattle.std.proofs.Common.{◌≡◌, ◌<◌, ◌≤◌, true, length, take}
use Rattle.std.specs.List.{list_all}
use Rattle.std.specs.Str.Parse.{digits_value}
use Rattle.flight_text.specs.Hex.{is_hex_digit}
use Rattle.flight_place.proofs.token.short_id.Given as goal

abbrev pub invariant-loop-digit : goal.invariant-loop-digit
invariant-loop-digit l = record {
  some : 0 < length l.digits;
  short : length l.digits ≤ 7;
  lower : list_all is_hex_digit (take l.digit-index l.digits) ≡ true;
  value : digits_value 16 (take l.digit-index l.digits) ≡ l.id;
}
