use Rattle.flight_emit.proofs.Emitted.{alone_emits}
use Rattle.flight_emit.proofs.Streamed.{stream_emits}
use Rattle.flight_emit.proofs.law.sheets_emit.Goals as goal

pub returns-clause-alone : goal.returns-clause-alone
returns-clause-alone c = alone_emits

pub returns-clause-stream : goal.returns-clause-stream
returns-clause-stream c = stream_emits
