use Rattle.std.proofs.Common.{◌-◌, drop, arith, ◌∙◌, drop_of_length-le}
use Rattle.std.proofs.lemmas.List.{length-set}
use Rattle.flight_row.specs.Written.{hexadecimal}
use Rattle.flight_row.proofs.Hexadecimal.{digits_onto-start, put_more, places_left}
use Rattle.flight_row.proofs.write.put_hexadecimal.Goals as goal

pub places-init : goal.places-init
places-init c =
    record {
      some = omega arith;
      within = omega arith;
      whole = c.told-digits;
      left = omega (arith, c.ranges.number);
      value = digits_onto-start c.args.number (drop 8 c.args.digits.now) (drop_of_length-le c.args.digits.now {i = 8} (omega (arith, c.told-digits)));
    }

pub places-preserved : goal.places-preserved
places-preserved c =
    let l = c.places in
    let left = places_left l.at l.rest l.invariant.left c.if-rest-eq0.false in
    record {
      some = left.0;
      within = omega (arith, l.invariant.within);
      whole = length-set l.digits (l.at - 1) c.hexadecimal_digit.result ∙ l.invariant.whole;
      left = left.1;
      value = put_more l.at l.rest l.digits (hexadecimal c.args.number) c.hexadecimal_digit.result l.invariant.some (omega (arith, l.invariant.within, l.invariant.whole)) c.if-rest-eq0.false l.invariant.value c.hexadecimal_digit.ensures;
    }
