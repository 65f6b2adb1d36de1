use Rattle.flight_bundle.proofs.Lawful.{read_is_valid}
use Rattle.flight_bundle.proofs.law.read_is_valid.Goals as goal

pub returns : goal.returns
returns c = read_is_valid
