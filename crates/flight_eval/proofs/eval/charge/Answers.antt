use Rattle.std.proofs.Common.{◌≤◌, ◌∙◌, ap, map, subst, sym}
use Rattle.std.proofs.lemmas.List.{length-map}
use Rattle.flight_syntax.specs.Term.{term, post, posted}
use Rattle.flight_syntax.proofs.Terms.{term-Postfixed}
use Rattle.flight_eval.specs.Productions.{least_charge}
use Rattle.flight_eval.proofs.Stopped.{posts_charge}
use Rattle.flight_eval.proofs.eval.charge.Goals as goal

pub returns-in-Postfixed-clause-least : goal.returns-in-Postfixed-clause-least
returns-in-Postfixed-clause-least c =
    let of = c.in-Postfixed.of in
    let posts = c.in-Postfixed.postfixes in
    let is = ap term c.in-Postfixed.is ∙ term-Postfixed of posts in
    let within = subst (λ n. n ≤ least_charge (posted (term of) (map post posts))) (length-map posts post ∙ sym c.len.ensures) (posts_charge (term of) (map post posts)) in
    subst (λ z. c.len.result ≤ least_charge z) (sym is) within
