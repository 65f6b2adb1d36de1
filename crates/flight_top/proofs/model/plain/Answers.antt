use lib.Utf8.{encode}
use Rattle.flight_top.proofs.Models.{not_dollar}
use Rattle.flight_top.proofs.model.plain.Goals as goal

pub returns-in-None : goal.returns-in-None
unfolding encode
returns-in-None c = not_dollar c.args.text.now c.in-None.ensures.cases
