use Rattle.std.proofs.Common.{◌∙◌}
use Rattle.std.proofs.lemmas.Result.{on_ok_weaker}
use Rattle.flight_place.proofs.References.{reference-adds}
use Rattle.flight_place.proofs.walk.push_special.Goals as goal

pub returns-in-Some-clause-adds : goal.returns-in-Some-clause-adds
returns-in-Some-clause-adds c =
    let some = c.in-Some in
    on_ok_weaker c.push.result (λ added. reference-adds c.args.manner c.args.out.now.items c.push.new.out.items c.args.text.now some.id c.new-path.result some.ensures.spells (some.ensures.allowed c.args.manner) (c.new-path.ensures ∙ c.new.ensures.items) added) c.push.ensures.ok
