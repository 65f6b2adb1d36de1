use Rattle.std.proofs.Common.{ap, Err}
use Rattle.flight_top.proofs.StaticRows.{means_plain}
use Rattle.flight_top.proofs.static_row.decode.Goals as goal

pub unreachable-requires-in-Err-NotPlain : goal.unreachable-requires-in-Err-NotPlain
unreachable-requires-in-Err-NotPlain c = means_plain c.args.input.now c.in-Some.payload.now c.in-Some.ensures.row c.requires (c.in-Err-NotPlain.ensures.refused (ap Err c.in-Err-NotPlain.field-0-is))
