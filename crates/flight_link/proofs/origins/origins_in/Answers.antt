use Rattle.std.proofs.Common.{◌≡◌, ◌∙◌, ap, map, subst, IfOk}
use Rattle.flight_graph.specs.Canon.{visited_of}
use Rattle.flight_link.specs.Drawing.{graph_in, origin_in}
use Rattle.flight_link.proofs.origins.origins_in.Goals as goal

pub returns : goal.returns
returns c =
    let order : c.as_slice-2.result.now ≡ visited_of (graph_in c.args.drawing) = c.as_slice-2.ensures ∙ (c.in_ok-order.ensures ∙ ap visited_of c.graph_of-graph.ensures) in
    subst (λ n. IfOk c.rows_of.result (λ ids. ids ≡ map (origin_in c.args.rows.now c.args.drawing.keys.items) n)) order
    (subst (λ k. IfOk c.rows_of.result (λ ids. ids ≡ map (origin_in c.args.rows.now k) c.as_slice-2.result.now)) c.as_slice.ensures.value c.rows_of.ensures)
