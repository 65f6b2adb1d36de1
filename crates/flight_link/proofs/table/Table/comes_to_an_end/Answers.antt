use Rattle.std.proofs.lemmas.Bool.{false≢true}
use Rattle.flight_link.proofs.Defined.{other_never}
use Rattle.flight_link.proofs.table.Table.comes_to_an_end.Goals as goal

pub returns-in_default : goal.returns-in_default
returns-in_default c =
    (λ e. absurd (false≢true e), λ comes. absurd (other_never c.args.self.now c.args.states.now c.args.id c.args.names.now c.resolve.result c.requires c.resolve.ensures c.in_default.not-Ended comes))
