use Rattle.std.proofs.Common.{◌++◌, sym, ◌∙◌, ap, subst, append_assoc}
use Rattle.flight_client.specs.Held.{HasTaken}
use Rattle.flight_top.proofs.view.take_pieces.Goals as goal

pub loop-left-preserved : goal.loop-left-preserved
loop-left-preserved c =
    let i = c.loop-left.invariant.taken in
    let piece = c.split_at.result.0.now in
    let rest = c.split_at.result.1.now in
    record {
      taken = (
        i.0 ++ piece,
        i.1 ∙ (ap (λ xs. i.0 ++ xs) c.split_at.ensures.by_index.0 ∙ sym (append_assoc i.0 piece rest)),
        λ text h. subst (λ t. HasTaken t c.feed-kept.new.self) (append_assoc text i.0 piece) (c.feed-kept.ensures.taken (text ++ i.0) (i.2 text h)),
      );
    }
