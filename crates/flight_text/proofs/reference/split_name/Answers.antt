use Rattle.flight_text.proofs.Paths.{split_at_colon}
use Rattle.flight_text.proofs.reference.split_name.Goals as goal

pub returns : goal.returns
returns c = split_at_colon c.args.text.now c.split_once.result c.split_once.ensures.cases
