use Rattle.std.proofs.Common.{ap}
use Rattle.flight_client.proofs.Pieces.{nothing_taken}
use Rattle.flight_client.proofs.client.Client.new.Goals as goal

pub returns-clause-taken : goal.returns-clause-taken
returns-clause-taken c =
    let e = c.new.ensures in
    nothing_taken c.new.result c.new-2.result (ap (λ f. f.bytes) e) (ap (λ f. f.number) e) c.new-2.ensures
