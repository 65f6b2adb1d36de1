use Rattle.std.proofs.Common.{◌∙◌, None, get_or, ap}
use Rattle.flight_reply_out.specs.Homes.{place_for}
use Rattle.flight_reply_out.proofs.Planning.{node_is, homes_more, parts_more}
use Rattle.flight_reply_out.proofs.plan.homes.Goals as goal

pub loop-n-preserved : goal.loop-n-preserved
loop-n-preserved c =
    let nodes = c.args.nodes.now in
    let n = c.loop-n.n in
    let o = get_or c.args.origins.now n None in
    let is = node_is nodes n c.index-nodes-n.result c.loop-n-test.true c.index-nodes-n.is in
    let met = c.requires.each n c.loop-n-test.true in
    let stands = c.in_ok-at.ensures ∙ ap (λ hs. place_for nodes hs o) c.as_slice.ensures.value in
    let inv = c.loop-n.invariant in
    record {
      same = c.is_apart.ensures.same ∙ inv.same;
      homes =
          homes_more nodes n c.loop-n.parts c.index-nodes-n.result o c.in_ok-at.at c.in_ok-apart.apart c.has_entries-entries.result c.loop-n.homes.items inv.homes inv.parts is met stands c.in_ok-apart.ensures.apart c.has_entries-entries.ensures c.home_with.result c.push.new.self.items c.home_with.ensures c.in_ok-push.ensures.items;
      parts =
          parts_more nodes n c.loop-n.parts c.index-nodes-n.result o c.in_ok-at.at c.in_ok-apart.apart c.has_entries-entries.result c.loop-n.homes.items inv.homes inv.parts is met stands c.in_ok-apart.ensures.apart c.has_entries-entries.ensures c.in_ok-next.next c.in_ok-next.ensures.0;
      few = c.in_ok-next.ensures.1;
    }
