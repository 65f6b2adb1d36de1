use Rattle.std.proofs.Common.{◌≡◌, ◌++◌, ◌∙◌, sym, ap, subst, List, ℕ, IfOk}
use Rattle.serde_json.specs.View.{view}
use Rattle.flight_base.specs.Calls.{SinkState}
use Rattle.flight_value.specs.declared.graph.Graph.{Graph}
use Rattle.flight_row.specs.Written.{spelling_of}
use Rattle.flight_top.specs.Model.{graph_of}
use Rattle.flight_top.specs.OneRow.{IsOneRow}
use Rattle.flight_top.specs.StaticRow.{row_of}
use Rattle.flight_top.proofs.StaticRows.{row_spelling, row_writable, row_means, row_graph_of}
use Rattle.flight_top.proofs.static_row.served_graph.Goals as goal

pub serve-requires : goal.serve-requires
serve-requires c = row_writable (view c.args.value.now) c.in_ok-row.row c.requires c.in_ok-row.ensures

pub decode-requires : goal.decode-requires
decode-requires c =
    let d = view c.args.value.now in
    let bytes : c.held.result.now ≡ row_of d = c.held.ensures ∙ c.in_ok-serve.ensures ∙ ap (λ (s : SinkState). s.held ++ spelling_of c.in_ok-row.row) c.new-sink.ensures ∙ row_spelling d c.in_ok-row.row c.in_ok-row.ensures in
    let P : List ℕ → Type 0 = λ bytes. (graph : Graph) × IsOneRow bytes graph in
    subst P (sym bytes) (graph_of d, row_means d c.in_ok-row.row c.requires c.in_ok-row.ensures)

pub returns-clause-decodes : goal.returns-clause-decodes
returns-clause-decodes c =
    let d = view c.args.value.now in
    let bytes : c.held.result.now ≡ row_of d = c.held.ensures ∙ c.in_ok-serve.ensures ∙ ap (λ (s : SinkState). s.held ++ spelling_of c.in_ok-row.row) c.new-sink.ensures ∙ row_spelling d c.in_ok-row.row c.in_ok-row.ensures in
    let P : List ℕ → Type 0 = λ bytes. IfOk c.decode.result (IsOneRow bytes) in
    subst P bytes c.decode.ensures.graph

pub returns-clause-graph : goal.returns-clause-graph
returns-clause-graph c =
    let d = view c.args.value.now in
    let bytes : c.held.result.now ≡ row_of d = c.held.ensures ∙ c.in_ok-serve.ensures ∙ ap (λ (s : SinkState). s.held ++ spelling_of c.in_ok-row.row) c.new-sink.ensures ∙ row_spelling d c.in_ok-row.row c.in_ok-row.ensures in
    row_graph_of d c.in_ok-row.row c.held.result.now c.decode.result c.requires c.in_ok-row.ensures bytes c.decode.ensures.graph
