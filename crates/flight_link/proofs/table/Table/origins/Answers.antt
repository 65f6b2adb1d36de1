use Rattle.std.proofs.Common.{◌≡◌, map, subst, sym}
use Rattle.std.proofs.lemmas.Result.{IfOk-weaker}
use Rattle.flight_graph.specs.Canon.{visited_of}
use Rattle.flight_link.specs.Drawing.{graph_in, origin_in}
use Rattle.flight_link.specs.Origins.{AreOrigins}
use Rattle.flight_link.proofs.RowsOfNodes.{origins_right}
use Rattle.flight_link.proofs.Valid.{graph_valid}
use Rattle.flight_link.proofs.table.Table.origins.Goals as goal

pub origins_in-requires : goal.origins_in-requires
origins_in-requires c =
    let d = c.in_ok-drawing.drawing in
    let h = c.in_ok-drawing.ensures in
    graph_valid c.args.self.now.rows.items d.keys.items d.root d.nodes.items c.requires.linked.table.fine h.few h.root h.drawn

pub returns : goal.returns
returns c =
    let rows = c.args.self.now.rows.items in
    let d = c.in_ok-drawing.drawing in
    let h = c.in_ok-drawing.ensures in
    let valid = graph_valid rows d.keys.items d.root d.nodes.items c.requires.linked.table.fine h.few h.root h.drawn in
    let right = origins_right rows d.keys.items d.root d.nodes.items valid h.root h.drawn h.apart in
    let same = subst (λ rs. AreOrigins rows (map (origin_in rs d.keys.items) (visited_of (graph_in d)))) (sym c.as_slice.ensures.value) right in
    IfOk-weaker c.origins_in.result (λ ids. ids ≡ map (origin_in c.as_slice.result.now d.keys.items) (visited_of (graph_in d))) (AreOrigins rows) (λ ids e. subst (AreOrigins rows) (sym e) same) c.origins_in.ensures
