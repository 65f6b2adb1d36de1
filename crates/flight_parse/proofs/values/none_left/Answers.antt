use Rattle.flight_parse.proofs.Chains.{json_none}
use Rattle.flight_parse.proofs.values.none_left.Goals as goal

pub returns : goal.returns
returns c = json_none c.too_deep.result c.args.lexemes.now c.too_deep.ensures
