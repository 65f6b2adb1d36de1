use Rattle.flight_bundle.specs.Parts.{scripted, replied}
use Rattle.flight_bundle.proofs.part.scripted.Goals as goal

pub returns-in-Some : goal.returns-in-Some
returns-in-Some c text first = replied c.args.program.now c.args.rest.now c.in-Some.around.before.now c.in-Some.around.behind.now c.reply_of.result.now first c.in-Some.ensures c.reply_of.ensures

pub returns-in-None : goal.returns-in-None
returns-in-None c text first = scripted c.args.program.now c.args.rest.now first c.in-None.ensures
