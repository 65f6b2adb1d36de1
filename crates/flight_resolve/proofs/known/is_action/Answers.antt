use Rattle.std.proofs.Common.{ap, ◌∙◌}
use Rattle.std.specs.Prelude.{is_some}
use Rattle.flight_resolve.specs.Names.{all_of}
use Rattle.flight_resolve.proofs.Lookups.{action_known}
use Rattle.flight_resolve.proofs.known.is_action.Goals as goal

pub returns : goal.returns
returns c =
    c.is_some.ensures ∙ (ap is_some (c.find.ensures ∙ c.requires.tables.actions c.args.name.now.bytes) ∙ action_known (all_of c.args.body.now) c.args.name.now.bytes)
