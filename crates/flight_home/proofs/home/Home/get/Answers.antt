use Rattle.std.proofs.Common.{sym}
use Rattle.flight_value.specs.contracts.key.KeyPartialEq.TheImpl.{eq-value}
use Rattle.flight_value.proofs.KeysEqual.{equal, other}
use Rattle.flight_home.proofs.Found.{lookup_in, lookup_new, lent_some, lent_none}
use Rattle.flight_home.proofs.home.Home.get.Goals as goal

pub returns-clause-found : goal.returns-clause-found
returns-clause-found c =
    let key = c.args.key.now in
    lent_some _ c.get.result (rw (c.get.ensures.value, sym c.self.view_is) (lookup_in (eq-value.it key) key (equal key) c.self.inside.refs.entries))

pub returns-clause-absent : goal.returns-clause-absent
returns-clause-absent c =
    let key = c.args.key.now in
    lent_none _ c.get.result (rw (c.get.ensures.value, sym c.self.view_is) (lookup_new (eq-value.it key) key (other key) c.self.inside.refs.entries))
