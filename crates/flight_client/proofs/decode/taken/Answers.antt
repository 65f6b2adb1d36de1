use Rattle.std.proofs.Common.{◌≡◌, ◌++◌, Some, sym, ◌∙◌, ap, subst, append_assoc}
use Rattle.flight_client.specs.Held.{Stands}
use Rattle.flight_client.specs.Faults.{EndsWithFault}
use Rattle.flight_client.proofs.Pieces.{fault_more}
use Rattle.flight_client.proofs.Finishes.{kept_ends}
use Rattle.flight_client.proofs.decode.taken.Goals as goal

pub loop-left-preserved : goal.loop-left-preserved
loop-left-preserved c =
    let i = c.loop-left.invariant.taken in
    let piece = c.split_at.result.0.now in
    let rest = c.split_at.result.1.now in
    record {
      taken = (i.0 ++ piece, i.1 ∙ (ap (λ xs. i.0 ++ xs) c.split_at.ensures.by_index.0 ∙ sym (append_assoc i.0 piece rest)), c.feed.ensures.taken i.0 i.2);
    }

pub returns-in-Err-clause-fault : goal.returns-in-Err-clause-fault
returns-in-Err-clause-fault c =
    λ f e n.
    let i = c.loop-left.invariant.taken in
    let piece = c.split_at.result.0.now in
    let rest = c.split_at.result.1.now in
    let held = c.feed.new.self in
    let same : c.in-Err.fault ≡ f = cc in
    let is : held.fault ≡ Some f = c.in-Err.ensures.kept ∙ ap Some same in
    let stands : Stands (i.0 ++ piece) (Some f) held.feed held.rows = subst (λ o. Stands (i.0 ++ piece) o held.feed held.rows) is (c.feed.ensures.taken i.0 i.2) in
    let whole : c.args.stream.now ≡ (i.0 ++ piece) ++ rest = i.1 ∙ (ap (λ xs. i.0 ++ xs) c.split_at.ensures.by_index.0 ∙ sym (append_assoc i.0 piece rest)) in
    subst (λ t. EndsWithFault t f) (sym whole)
    (kept_ends ((i.0 ++ piece) ++ rest) held.feed held.rows f n (fault_more (i.0 ++ piece) rest held.feed held.rows f stands))
