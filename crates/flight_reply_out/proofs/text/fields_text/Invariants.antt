use Rattle.std.proofs.Common.{◌≡◌, [], take, map}
use Rattle.form_urlencoded.specs.Form.{extend_pairs}
use Rattle.flight_reply_out.specs.Text.{pair_of}
use Rattle.flight_reply_out.proofs.text.fields_text.Given as goal

abbrev pub invariant-loop-field : goal.invariant-loop-field
invariant-loop-field l = l.form ≡ record { prefix = []; form = extend_pairs [] (map pair_of (take l.field-index l.fields)) }
