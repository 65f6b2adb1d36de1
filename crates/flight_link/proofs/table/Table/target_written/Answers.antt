use Rattle.std.proofs.Common.{sym}
use Rattle.flight_link.proofs.Targets.{stop_target}
use Rattle.flight_link.proofs.table.Table.target_written.Goals as goal

pub returns-in-None : goal.returns-in-None
returns-in-None c =
    stop_target c.args.self.now c.args.spot c.target_in.result c.requires.linked.table (c.args.place.now, c.requires.place, sym c.in-None.ensures) c.target_in.ensures
