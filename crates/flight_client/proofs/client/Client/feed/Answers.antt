use Rattle.std.proofs.Common.{◌≡◌, ◌++◌, sym, ◌∙◌, subst, ap, Some}
use Rattle.flight_client.specs.Held.{Stands}
use Rattle.flight_client.proofs.Pieces.{fault_more}
use Rattle.flight_client.proofs.client.Client.feed.Goals as goal

pub returns-in-Some-clause-taken : goal.returns-in-Some-clause-taken
returns-in-Some-clause-taken c =
    λ text taken.
    let old = c.args.self.now in
    let e : old.fault ≡ Some c.in-Some.fault = sym (ap (λ h. h.fault) c.self.view_is) ∙ c.in-Some.is in
    let stays = fault_more text c.args.piece.now old.feed old.rows c.in-Some.fault (subst (λ o. Stands text o old.feed old.rows) e taken) in
    subst (λ o. Stands (text ++ c.args.piece.now) o old.feed old.rows) (sym e) stays
