use Rattle.std.proofs.Common.{string_bytes}
use Rattle.flight_print.proofs.Quoted.{literal_written}
use Rattle.flight_print.proofs.words.write_literal.Goals as goal

pub returns : goal.returns
returns c =
    literal_written (string_bytes c.args.out.now) c.as_str.result.now c.args.text.now (string_bytes c.write_quoted.new.out) (string_bytes c.push_str.new.self) c.as_str.ensures c.in_ok-write_quoted.ensures c.in_ok-push_str.ensures.bytes
