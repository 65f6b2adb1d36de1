use Rattle.flight_link.proofs.Lines.{even_less, behind_two}
use Rattle.flight_link.proofs.text.write_entries.Goals as goal

pub write_more_entries-requires : goal.write_more_entries-requires
write_more_entries-requires c = even_less c.args.targets.now _ (behind_two c.args.targets.now) c.in-len2-up.len_at_least c.requires
