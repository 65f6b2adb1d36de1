use Rattle.std.proofs.Common.{◌≡◌, Some, sym, ◌∙◌, ap, subst}
use Rattle.std.specs.Prelude.{IfOk, OnOk}
use Rattle.std.proofs.lemmas.Result.{IfErr-at_err}
use Rattle.flight_value.specs.Store.{DrawOneGraph, of_graph}
use Rattle.flight_meaning.specs.Meaning.{meaning}
use Rattle.flight_meaning.specs.Good.{IsGood}
use Rattle.flight_client.specs.Rows.{IsWhole}
use Rattle.flight_client.specs.Held.{HasTaken, Stands, IsOn}
use Rattle.flight_client.specs.Adding.{IsEndFault}
use Rattle.flight_client.proofs.Finishes.{good_on, on_ends, kept_ends}
use Rattle.flight_client.proofs.client.Client.finish.Goals as goal

pub returns-in-None-clause-good : goal.returns-in-None-clause-good
returns-in-None-clause-good c =
    λ text taken.
    let fields = c.self.inside in
    let on : IsOn text fields.feed fields.links = subst (λ o. Stands text o fields.feed fields.links) c.in-None.is (subst (λ h. HasTaken text h) (sym c.self.view_is) taken) in
    subst (λ rows. OnOk c.end_stream.result (IsWhole text rows × IsGood rows)) (ap (λ h. h.rows) c.self.view_is)
    (good_on c.end_stream.result text fields.feed fields.links on c.end_stream.ensures.good)

pub returns-in-None-clause-graph : goal.returns-in-None-clause-graph
returns-in-None-clause-graph c =
    subst (λ rows. IfOk c.end_stream.result (λ g. DrawOneGraph (of_graph g) (meaning rows))) (ap (λ h. h.rows) c.self.view_is) c.end_stream.ensures.graph

pub returns-in-None-clause-fault : goal.returns-in-None-clause-fault
returns-in-None-clause-fault c =
    λ text f taken e n.
    let fields = c.self.inside in
    let on : IsOn text fields.feed fields.links = subst (λ o. Stands text o fields.feed fields.links) c.in-None.is (subst (λ h. HasTaken text h) (sym c.self.view_is) taken) in
    on_ends text fields.feed fields.links f n on (IfErr-at_err (IsEndFault fields.feed fields.links) e c.end_stream.ensures.fault)

pub returns-in-Some-clause-fault : goal.returns-in-Some-clause-fault
returns-in-Some-clause-fault c =
    λ text f taken e n.
    let fields = c.self.inside in
    let same : c.in-Some.fault ≡ f = cc in
    let is : fields.fault ≡ Some f = c.in-Some.is ∙ ap Some same in
    kept_ends text fields.feed fields.links f n (subst (λ o. Stands text o fields.feed fields.links) is (subst (λ h. HasTaken text h) (sym c.self.view_is) taken))
