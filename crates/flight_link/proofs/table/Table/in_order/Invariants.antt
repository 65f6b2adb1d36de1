use Rattle.flight_link.specs.Drafted.{IsDrafted}
use Rattle.flight_link.specs.Numbering.{AreNumbered}
use Rattle.flight_link.specs.Ordering.{IsOnWay, turns_left}
use Rattle.flight_link.proofs.table.Table.in_order.Given as goal

abbrev pub invariant-keys : goal.invariant-keys
invariant-keys l = record {
  numbered : AreNumbered l.self.rows.items l.numbers;
  on_way : IsOnWay l.self.rows.items l.numbers.keys.items l.waiting.items;
  drafted : IsDrafted l.self.rows.items l.numbers.keys.items l.draft;
}

abbrev pub decreases-keys : goal.decreases-keys
decreases-keys l = turns_left l.numbers.keys.items l.waiting.items
