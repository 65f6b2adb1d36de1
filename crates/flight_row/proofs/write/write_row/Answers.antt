use Rattle.flight_row.proofs.Spelled.{spelling_of-Spells}
use Rattle.flight_row.proofs.write.write_row.Goals as goal

pub returns-then-is_err-clause-spells : goal.returns-then-is_err-clause-spells
returns-then-is_err-clause-spells c = spelling_of-Spells c.args.row.now c.requires

pub returns-else-is_err-clause-spells : goal.returns-else-is_err-clause-spells
returns-else-is_err-clause-spells c = spelling_of-Spells c.args.row.now c.requires
