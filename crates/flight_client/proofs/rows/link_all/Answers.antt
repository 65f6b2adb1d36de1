use Rattle.std.proofs.Common.{◌≡◌, ◌∷◌, [], ◌++◌, sym, ◌∙◌, ap, subst, append_assoc, All}
use Rattle.std.specs.Vec.Iter.{into_iter_items}
use Rattle.flight_client.specs.Adding.{IsReadable}
use Rattle.flight_client.proofs.Adding.{adds_none, adds_more, readable_rest}
use Rattle.flight_client.proofs.rows.link_all.Goals as goal

pub loop-row-init : goal.loop-row-init
loop-row-init c =
    let e = c.into_iter-row-iterator.ensures.into_iter_gives.0 in
    record {
      readable = subst (All IsReadable) (sym e) c.requires;
      adds = ([], sym e, adds_none c.args.links.now);
    }

pub loop-row-preserved : goal.loop-row-preserved
loop-row-preserved c =
    let s = c.in-Some.ensures.steps in
    let e : into_iter_items c.loop-row.row-iterator ≡ c.in-Some.row ∷ into_iter_items c.next.new.self = s.0 in
    let i = c.loop-row.invariant in
    record {
      readable = readable_rest c.in-Some.row (into_iter_items c.next.new.self) (subst (All IsReadable) e i.readable);
      adds = (
        i.adds.0 ++ c.in-Some.row ∷ [],
        i.adds.1 ∙ (ap (λ xs. i.adds.0 ++ xs) e ∙ sym (append_assoc i.adds.0 (c.in-Some.row ∷ []) (into_iter_items c.next.new.self))),
        adds_more i.adds.0 (c.in-Some.row ∷ []) c.args.links.now c.loop-row.links c.link_row.new.links i.adds.2 c.in_ok-link_row.ensures.ok,
      );
    }
