use Rattle.std.proofs.lemmas.Result.{on_ok_weaker}
use Rattle.flight_emit.specs.Log.{stage}
use Rattle.flight_emit.proofs.Leaves.{text_in_place, text_by_row}
use Rattle.flight_emit.proofs.leaf.write_text.Goals as goal

pub returns-then-as_str-lt-LONG_TEXT : goal.returns-then-as_str-lt-LONG_TEXT
returns-then-as_str-lt-LONG_TEXT c =
    on_ok_weaker c.put_text.result (λ put g seen homes. text_in_place g seen c.args.text.now c.as_str-then-as_str-lt-LONG_TEXT.result.now c.as_str-then-as_str-lt-LONG_TEXT.ensures (stage homes c.args.work.now) (stage homes c.put_text.new.self) (put homes)) c.put_text.ensures

pub returns : goal.returns
returns c =
    let is_id = c.in_ok-id.ensures.id in
    on_ok_weaker c.put_whole.result (λ put g seen homes. text_by_row g seen c.args.text.now c.as_str-2.result.now c.in_ok-id.id c.as_str-2.ensures (stage homes c.args.work.now) (stage homes c.add_text.new.self) (stage homes c.put_whole.new.self) is_id.0 is_id.1 (c.in_ok-id.ensures.took homes) (put homes)) c.put_whole.ensures
