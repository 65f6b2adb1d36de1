use Rattle.flight_script.proofs.Finding.{found_at, not_found}
use Rattle.flight_script.proofs.names.find.Goals as goal

pub returns-in-Ok : goal.returns-in-Ok
returns-in-Ok c = record { is = found_at c.args.names.now c.in-Ok.position c.args.name.now c.in-Ok.ensures.bound c.in-Ok.ensures.ok }

pub returns-in-Err : goal.returns-in-Err
returns-in-Err c = record { is = not_found c.args.names.now c.args.name.now c.in-Err.field-0 c.requires c.in-Err.ensures.position }
