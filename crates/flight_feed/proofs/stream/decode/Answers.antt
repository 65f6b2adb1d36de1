use Rattle.std.proofs.Common.{◌≡◌, ◌≢◌, [], ◌+◌, ◌++◌, List, ℕ, take, drop, ap, sym, ◌∙◌, arith, refl}
use Rattle.std.proofs.lemmas.Result.{err_from_is_err_and}
use Rattle.std.proofs.lemmas.List.{take_all}
use Rattle.std.specs.Prelude.{Ok, Err}
use Rattle.flight_feed.specs.declared.fault.FeedFault.TheVariants as Fault
use Rattle.flight_feed.specs.declared.fault.FeedKind.TheVariants.{Cut}
use Rattle.flight_feed.specs.Stream.{text_of}
use Rattle.flight_feed.proofs.Parts.{no_part}
use Rattle.flight_feed.proofs.Runs.{advances_more}
use Rattle.flight_feed.proofs.Pieces.{nothing_came, text_more, text_rest, refused_all, cut_all, whole_all, only_whole, has_rows}
use Rattle.flight_feed.proofs.stream.decode.Goals as goal

pub loop-piece-init : goal.loop-piece-init
loop-piece-init c =
    record {
      fine = rw c.new-feed.ensures refl;
      part = rw c.new-feed.ensures no_part;
      rows = rw (c.new-feed.ensures, c.new-rows.ensures.items) nothing_came;
    }

pub returns-in_err-feed-clause-fault : goal.returns-in_err-feed-clause-fault
returns-in_err-feed-clause-fault c =
    λ number kind e.
    let l = c.loop-piece in
    let pieces = c.args.pieces.now in
    let p = err_from_is_err_and c.from_residual.result c.from_residual.ensures.1 in
    let fault : c.in_err-feed.field-0.0 ≡ Fault.Row number kind = let q = p.1 in let r = p.2 in cc in
    let same : c.feed.result ≡ Err (Fault.Row number kind) = c.in_err-feed.was ∙ ap Err fault in
    let refused = rw c.as_slice.ensures.value at c.feed.ensures.refused number kind l.invariant.fine same in
    let text : List ℕ = text_of (take l.piece-index pieces) in
    let all = refused_all text c.piece-item.result.items (text_of (drop (l.piece-index + 1) pieces)) l.feed.number number l.rows.items c.feed.new.out.items l.feed.bytes kind l.invariant.rows refused in
    let whole : text_of pieces ≡ (text ++ c.piece-item.result.items) ++ text_of (drop (l.piece-index + 1) pieces) =
    text_rest pieces (l.piece-index + 1) ∙ ap (λ xs. xs ++ text_of (drop (l.piece-index + 1) pieces)) (text_more pieces l.piece-index c.piece-item.result (omega arith) c.piece-item.is) in
    rw whole all

pub loop-piece-preserved : goal.loop-piece-preserved
loop-piece-preserved c =
    let l = c.loop-piece in
    let pieces = c.args.pieces.now in
    record {
      fine = c.in_ok-feed.ensures.ok.1;
      part = c.in_ok-feed.ensures.part;
      rows =
          let more = rw c.as_slice.ensures.value at c.in_ok-feed.ensures.ok.2 in
          rw (text_more pieces l.piece-index c.piece-item.result (omega arith) c.piece-item.is)
          (advances_more (text_of (take l.piece-index pieces)) c.piece-item.result.items 1 l.feed.number c.feed.new.self.number [] l.rows.items c.feed.new.out.items l.feed.bytes c.feed.new.self.bytes l.invariant.rows more);
    }

pub returns-in_err-end-clause-fault : goal.returns-in_err-end-clause-fault
returns-in_err-end-clause-fault c =
    λ number kind e.
    let l = c.loop-piece in
    let pieces = c.args.pieces.now in
    let p = err_from_is_err_and c.from_residual-in_err-end.result c.from_residual-in_err-end.ensures.1 in
    let fault : c.in_err-end.field-0.0 ≡ Fault.Row number kind = let q = p.1 in let r = p.2 in cc in
    let was : c.end.result ≡ Err (Fault.Row number kind) = c.in_err-end.was ∙ ap Err fault in
    let some : l.feed.bytes ≢ [] = λ none. let yes = c.end.ensures.whole.1 (l.invariant.fine, none) in let both : Ok tt ≡ Err (Fault.Row number kind) = sym yes ∙ was in cc in
    let cut = c.end.ensures.cut l.invariant.fine some in
    let same : Err (Fault.Row l.feed.number Cut) ≡ Err (Fault.Row number kind) = sym cut ∙ was in
    let is_number : l.feed.number ≡ number = cc in
    let is_kind : Cut ≡ kind = cc in
    let whole : text_of (take l.piece-index pieces) ≡ text_of pieces = ap text_of (take_all l.piece-index pieces (omega arith)) in
    let all = cut_all (text_of (take l.piece-index pieces)) l.feed.number l.rows.items l.feed.bytes l.invariant.rows l.invariant.part some in
    rw (← is_number, ← is_kind, ← whole) all

pub returns-clause-only : goal.returns-clause-only
returns-clause-only c =
    let l = c.loop-piece in
    let pieces = c.args.pieces.now in
    let whole : text_of (take l.piece-index pieces) ≡ text_of pieces = ap text_of (take_all l.piece-index pieces (omega arith)) in
    let none : l.feed.bytes ≡ [] = (c.end.ensures.whole.0 c.in_ok-end.was).1 in
    only_whole (text_of pieces) l.rows.items (rw whole at (whole_all (text_of (take l.piece-index pieces)) l.feed.number l.rows.items l.feed.bytes l.invariant.rows none))

pub returns-clause-stream : goal.returns-clause-stream
returns-clause-stream c =
    let l = c.loop-piece in
    let pieces = c.args.pieces.now in
    let whole : text_of (take l.piece-index pieces) ≡ text_of pieces = ap text_of (take_all l.piece-index pieces (omega arith)) in
    let none : l.feed.bytes ≡ [] = (c.end.ensures.whole.0 c.in_ok-end.was).1 in
    has_rows (text_of pieces) l.rows.items (rw whole at (whole_all (text_of (take l.piece-index pieces)) l.feed.number l.rows.items l.feed.bytes l.invariant.rows none))
