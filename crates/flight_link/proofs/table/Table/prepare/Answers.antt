use Rattle.std.proofs.Common.{◌≡◌, false, length, is_some, rules}
use Rattle.std.specs.List.{list_any}
use Rattle.flight_meaning.specs.declared.place.Place.{Place}
use Rattle.flight_link.specs.Nodes.{followed}
use Rattle.flight_link.proofs.Unfollowed.{fresh_empty}
use Rattle.flight_link.proofs.table.Table.prepare.Goals as goal

pub returns-then-not-have_followed-clause-fresh : goal.returns-then-not-have_followed-clause-fresh
returns-then-not-have_followed-clause-fresh c =
    let none : list_any (λ (p : Place). is_some (followed p)) c.args.places.now ≡ false = search rules in
    fresh_empty c.args.self.now.starts.items (length c.args.self.now.rows.items) c.args.places.now c.none.result none c.none.ensures.0 c.none.ensures.1 c.none.ensures.2
