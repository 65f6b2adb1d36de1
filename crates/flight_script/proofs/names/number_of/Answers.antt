use Rattle.std.proofs.Common.{map, ◌≡◌, true}
use Rattle.flight_script.specs.Json.{is_among}
use Rattle.flight_script.proofs.Finding.{get_among}
use Rattle.flight_script.proofs.Passing.{on_ok}
use Rattle.flight_script.proofs.names.number_of.Goals as goal

pub returns-in-Some-clause-among : goal.returns-in-Some-clause-among
returns-in-Some-clause-among c =
    let names = map (λ n. n.now) c.args.names.now in
    on_ok c.number.result (is_among names c.args.name.now ≡ true) (get_among names c.in-Some.position c.args.name.now c.in-Some.ensures.is)
