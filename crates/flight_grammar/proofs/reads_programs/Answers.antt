use Rattle.flight_grammar.proofs.Programs.{verdict}
use Rattle.flight_grammar.proofs.reads_programs.Goals as goal

pub returns : goal.returns
returns c = verdict
