use Rattle.std.proofs.Common.{◌<◌, length, arith}
use Rattle.flight_feed.proofs.Digits.{value_room}
use Rattle.flight_feed.proofs.head.after_length.Goals as goal

pub overflow_mul-result : goal.overflow_mul-result
overflow_mul-result c =
    let short : length c.requires.digits < 8 = omega (arith, c.requires.counted) in
    omega (arith, value_room c.requires.digits c.args.value c.requires.are_digits short)

pub overflow_add-result-2 : goal.overflow_add-result-2
overflow_add-result-2 c =
    let short : length c.requires.digits < 8 = omega (arith, c.requires.counted) in
    omega (arith, value_room c.requires.digits c.args.value c.requires.are_digits short)
