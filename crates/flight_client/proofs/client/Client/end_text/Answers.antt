use Rattle.std.proofs.Common.{◌≡◌, sym, ap, subst}
use Rattle.std.specs.Prelude.{IfOk}
use Rattle.std.proofs.lemmas.Result.{IfErr-at_err}
use Rattle.flight_value.specs.Graph.{IsValid}
use Rattle.flight_value.specs.Store.{DrawOneGraph, of_graph}
use Rattle.flight_value.specs.declared.graph.Graph.{Graph}
use Rattle.flight_graph.specs.Text.{text_of}
use Rattle.flight_meaning.specs.Meaning.{meaning}
use Rattle.flight_client.specs.Held.{HasTaken, Stands, IsOn}
use Rattle.flight_client.specs.Adding.{IsEndFault}
use Rattle.flight_client.proofs.Finishes.{on_ends}
use Rattle.flight_client.proofs.client.Client.end_text.Goals as goal

pub returns-in-Err-clause-fault : goal.returns-in-Err-clause-fault
returns-in-Err-clause-fault c =
    λ text f taken e n.
    let fields = c.self.inside in
    let on : IsOn text fields.feed fields.links = subst (λ o. Stands text o fields.feed fields.links) c.in_default.is (subst (λ h. HasTaken text h) (sym c.self.view_is) taken) in
    on_ends text fields.feed fields.links f n on (IfErr-at_err (IsEndFault fields.feed fields.links) e c.end_stream_in_text-ended.ensures.fault)

pub returns-in_default-ended-clause-text : goal.returns-in_default-ended-clause-text
returns-in_default-ended-clause-text c =
    subst (λ rows. IfOk c.end_stream_in_text-ended.result (λ t. (g : Graph) × IsValid g × DrawOneGraph (of_graph g) (meaning rows) × (t ≡ text_of g))) (ap (λ h. h.rows) c.self.view_is) c.end_stream_in_text-ended.ensures.text
