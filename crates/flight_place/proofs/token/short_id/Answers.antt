use Rattle.std.proofs.Common.{◌≡◌, ◌<◌, ◌∙◌, arith}
use Rattle.flight_place.proofs.References.{digit_room, lower_more, value_more, is_short_id}
use Rattle.flight_place.proofs.token.short_id.Goals as goal

pub overflow_mul-id : goal.overflow_mul-id
overflow_mul-id c =
    let l = c.loop-digit in
    let room : l.id < 16777216 = digit_room c.args.digits.now l.digit-index l.id c.loop-digit-test.true l.invariant.short l.invariant.lower l.invariant.value in
    omega (arith, room)

pub overflow_add-id : goal.overflow_add-id
overflow_add-id c =
    let l = c.loop-digit in
    let room : l.id < 16777216 = digit_room c.args.digits.now l.digit-index l.id c.loop-digit-test.true l.invariant.short l.invariant.lower l.invariant.value in
    let small : c.in_ok-digit_value.field-0 < 16 = c.in_ok-digit_value.ensures.2 in
    let same : c.from.result ≡ c.in_ok-digit_value.field-0 = c.from.ensures in
    omega (arith, room, small, same)

pub loop-digit-preserved : goal.loop-digit-preserved
loop-digit-preserved c =
    let l = c.loop-digit in
    let digits = c.args.digits.now in
    record {
      some = l.invariant.some;
      short = l.invariant.short;
      lower = lower_more digits l.digit-index c.loop-digit-test.true l.invariant.lower c.in_ok-digit_value.ensures.0;
      value = value_more digits l.digit-index l.id c.from.result c.loop-digit-test.true l.invariant.value (c.from.ensures ∙ c.in_ok-digit_value.ensures.1);
    }

pub returns : goal.returns
returns c =
    let l = c.loop-digit in
    is_short_id c.args.digits.now l.digit-index l.id c.loop-digit-test.false l.invariant.some l.invariant.short l.invariant.lower l.invariant.value
