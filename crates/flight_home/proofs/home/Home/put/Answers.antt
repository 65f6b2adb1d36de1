use Rattle.std.proofs.Common.{subst, ◌∙◌, ap, sym, ◌++◌, ◌∷◌, []}
use Rattle.indexmap.proofs.CallerLemmas.{insert_entry-new}
use Rattle.flight_value.specs.contracts.key.KeyPartialEq.TheImpl.{eq-value}
use Rattle.flight_home.specs.Homes.{IsNew}
use Rattle.flight_value.proofs.KeysEqual.{equal}
use Rattle.flight_home.proofs.Found.{new_lookup}
use Rattle.flight_home.proofs.home.Home.put.Goals as goal

pub returns-clause-added : goal.returns-clause-added
returns-clause-added c =
    c.in_ok-insert.ensures.entries
    ∙ insert_entry-new eq-value.it c.self.inside.refs c.args.key c.args.home (new_lookup (eq-value.it c.args.key) c.args.key (equal c.args.key) c.self.inside.refs.entries (subst (IsNew c.args.key) (sym c.self.view_is) c.requires.absent))
    ∙ ap (λ z. z ++ (c.args.key, c.args.home) ∷ []) c.self.view_is
