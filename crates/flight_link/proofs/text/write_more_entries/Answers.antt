use Rattle.std.proofs.Common.{◌≤◌, length}
use Rattle.flight_link.proofs.Lines.{even_less, behind_two}
use Rattle.flight_link.proofs.Parts.{entry_more}
use Rattle.flight_link.proofs.text.write_more_entries.Goals as goal

pub loop-rest-preserved : goal.loop-rest-preserved
loop-rest-preserved c =
    let rest = c.loop-rest.rest.now in
    let two : 2 ≤ length rest = c.in-len2-up.len_at_least in
    let left = behind_two rest in
    record {
      text = entry_more c.args.targets.now rest _ c.key-item.result c.value-item.result c.args.out.now c.loop-rest.out c.push.new.self c.write_pair.new.out left two c.key-item.is c.value-item.is c.loop-rest.invariant.text c.in_ok-push.ensures c.in_ok-write_pair.ensures;
      count = even_less rest _ left two c.loop-rest.invariant.count;
    }
