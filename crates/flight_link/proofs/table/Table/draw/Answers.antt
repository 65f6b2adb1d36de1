use Rattle.std.proofs.Common.{rules}
use Rattle.flight_meaning.specs.Meaning.{value_of}
use Rattle.flight_link.proofs.Drawing.{draws_grow, apart}
use Rattle.flight_link.proofs.table.Table.draw.Goals as goal

pub returns : goal.returns
returns c = record {
  root = draws_grow c.args.self.now.rows.items c.slot_to.new.numbers.keys.items c.nodes.new.numbers.keys.items c.in_ok-root.root (value_of 0) c.in_ok-nodes.ensures.grows (c.in_ok-root.ensures.slot (value_of 0) c.target_of.ensures);
  drawn = c.in_ok-nodes.ensures.drawn;
  apart = apart c.args.self.now.rows.items c.nodes.new.numbers c.requires.linked.table.plain c.in_ok-nodes.ensures.numbered;
  few = search rules;
}
