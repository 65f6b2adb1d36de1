use Rattle.std.proofs.Common.{◌≡◌, ◌<◌, ◌^◌, length, ◌∙◌, All}
use Rattle.serde_json.specs.View.{view}
use Rattle.flight_top.specs.Model.{slot_at, nodes_at}
use Rattle.flight_top.specs.Fine.{IsFine}
use Rattle.flight_top.proofs.Valid.{graph_valid}
use Rattle.flight_top.proofs.model.model_graph.Goals as goal

pub returns-clause-valid : goal.returns-clause-valid
returns-clause-valid c =
    let json = view c.in_ok-value.value in
    let all : c.walk.new.out.items ≡ nodes_at 0 json = rw c.new-nodes.ensures.items at c.in_ok-root.ensures.nodes in
    let root : c.in_ok-root.root ≡ slot_at 0 json = rw c.new-nodes.ensures.items at c.in_ok-root.ensures.slot in
    let nodes : c.in_ok-nodes.nodes ≡ nodes_at 0 json = c.in_ok-nodes.ensures.ok.0 ∙ all in
    let few : length (nodes_at 0 json) < 2 ^ 32 = rw all at c.in_ok-nodes.ensures.ok.1 in
    let fine : All IsFine (nodes_at 0 json) = rw all at c.in_ok-root.ensures.fine in
    rw (root, nodes) (graph_valid json c.in_ok-root.ensures.plain few fine)
