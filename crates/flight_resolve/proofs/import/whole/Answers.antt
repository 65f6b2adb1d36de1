use Rattle.std.proofs.Common.{◌≡◌, rules}
use Rattle.serde_json.specs.Data as json_data
use Rattle.serde_json.specs.Find.{of_integer}
use Rattle.serde_json.specs.View.{view}
use Rattle.flight_resolve.proofs.Importing.{whole_value}
use Rattle.flight_resolve.proofs.import.whole.Goals as goal

pub returns : goal.returns
returns c =
    let seen : view c.from.result ≡ json_data.number (of_integer c.args.number) = search (rules, c.from.ensures) in whole_value c.from.result c.args.number (search rules) seen
