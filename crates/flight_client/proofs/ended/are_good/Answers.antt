use Rattle.std.proofs.Common.{◌≡◌, true, false}
use Rattle.flight_meaning.specs.Linked.{rows_of}
use Rattle.flight_client.proofs.Finishes.{none_unless}
use Rattle.flight_client.proofs.ended.are_good.Goals as goal

pub returns-then-not-has_root-clause-fault : goal.returns-then-not-has_root-clause-fault
returns-then-not-has_root-clause-fault c =
    none_unless (rows_of 0 c.args.links.now) (λ h. let no_root = c.if-not-has_root.ensures in let e : false ≡ true = no_root.1 h in cc)
