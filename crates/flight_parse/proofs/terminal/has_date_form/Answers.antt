use Rattle.flight_parse.proofs.Dates.{same_date}
use Rattle.flight_parse.proofs.terminal.has_date_form.Goals as goal

pub returns : goal.returns
returns c = same_date c.is_date.result c.args.text.now c.is_date.ensures
