use Rattle.std.proofs.Common.{ap, sym, ◌∙◌}
use Rattle.std.specs.Prelude.{◌||◌}
use Rattle.flight_syntax.specs.Faults.{is_named, servers}
use Rattle.flight_resolve.specs.Names.{all_of}
use Rattle.flight_resolve.proofs.Lookups.{component_known}
use Rattle.flight_resolve.proofs.known.is_component.Goals as goal

pub returns : goal.returns
returns c =
    c.either.ensures
    ∙ (ap (λ x. x || c.is_client.result) c.is_server.ensures
    ∙ (ap (λ x. is_named c.args.tag.now.bytes (servers (all_of c.args.body.now)) || x) c.is_client.ensures
    ∙ sym (component_known (all_of c.args.body.now) c.args.tag.now.bytes)))
