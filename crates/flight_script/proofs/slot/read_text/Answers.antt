use Rattle.flight_script.proofs.Marks.{no_slot}
use Rattle.flight_script.proofs.slot.read_text.Goals as goal

pub returns-in-None : goal.returns-in-None
returns-in-None c = no_slot c.args.count c.args.text.now c.in-Ok.mark c.in-Ok.ensures.spelled c.in-None.ensures
