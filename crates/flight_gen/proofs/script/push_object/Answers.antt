use Rattle.std.proofs.Common.{[], string_bytes}
use Rattle.std.specs.Prelude.{codes}
use Rattle.flight_gen.specs.Generated.{between, object}
use Rattle.flight_gen.proofs.Joined.{three}
use Rattle.flight_gen.proofs.script.push_object.Goals as goal

pub returns : goal.returns
unfolding object
returns c =
    three (string_bytes c.args.out.now)
    (between (codes ",{\"object\":{\"name\":\"s") c.args.number (codes "."))
    (between [] c.args.own (codes "\",\"next\":\"$"))
    (between [] c.args.next (codes "\"}}"))
    _ _ _ c.in_ok-push_between.ensures c.in_ok-push_between-2.ensures c.in_ok-push_between-3.ensures
