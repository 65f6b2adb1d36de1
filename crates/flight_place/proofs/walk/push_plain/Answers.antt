use Rattle.std.proofs.Common.{ap}
use Rattle.std.proofs.lemmas.Result.{on_ok_weaker}
use Rattle.flight_value.specs.declared.graph.Atom.TheVariants as atom
use Rattle.flight_meaning.specs.declared.place.Place.TheVariants as place
use Rattle.flight_place.proofs.Plain.{plain-adds}
use Rattle.flight_place.proofs.walk.push_plain.Goals as goal

pub returns-clause-adds : goal.returns-clause-adds
returns-clause-adds c =
    let text = c.args.text.now in
    on_ok_weaker c.push.result (λ added. plain-adds c.args.manner c.args.out.now.items c.push.new.out.items text (place.Atom (atom.Text c.in_ok-text.text)) c.requires added (ap (λ t. place.Atom (atom.Text t)) c.in_ok-text.ensures)) c.push.ensures.ok
