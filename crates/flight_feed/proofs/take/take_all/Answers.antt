use Rattle.std.proofs.Common.{◌++◌, take, drop, arith, append_assoc, length-drop}
use Rattle.std.proofs.lemmas.List.{take_rest}
use Rattle.std.proofs.Math.Seq.{take-add}
use Rattle.std.proofs.lemmas.Result.{err_from_is_err_and}
use Rattle.flight_feed.specs.Begun.{bytes_of}
use Rattle.flight_feed.proofs.Runs.{advance, stop}
use Rattle.flight_feed.proofs.take.take_all.Goals as goal

pub returns-in_err-at-clause-stops : goal.returns-in_err-at-clause-stops
returns-in_err-at-clause-stops c =
    let p = err_from_is_err_and c.from_residual.result c.from_residual.ensures.1 in
    let rest = take_rest c.args.piece.now c.loop-at.at in
    rw (p.1, p.2) (stop (bytes_of c.args.begun.now) c.args.piece.now c.loop-at.at c.args.begun.now.number c.take_some.new.begun.number c.args.out.now.items c.loop-at.out.items c.take_some.new.out.items c.loop-at.begun c.in_err-at.field-0.0 c.loop-at.invariant.rows c.in_err-at.ensures.kept c.in_err-at.ensures.number (rw rest at c.in_err-at.ensures.refused))

pub loop-at-preserved : goal.loop-at-preserved
loop-at-preserved c =
    let rest = take_rest c.args.piece.now c.loop-at.at in
    record {
      within = let h = rw (rest, length-drop) at c.in_ok-at.ensures.count.1 in omega arith;
      begun = c.in_ok-at.ensures.begun;
      rows =
          let goes = rw rest at c.in_ok-at.ensures.ok in
          rw (take-add, ← append_assoc) (advance (bytes_of c.args.begun.now ++ take c.loop-at.at c.args.piece.now) (take c.in_ok-at.field-0 (drop c.loop-at.at c.args.piece.now)) c.args.begun.now.number c.args.out.now.items c.loop-at.out.items c.take_some.new.out.items c.loop-at.begun c.take_some.new.begun c.loop-at.invariant.rows goes);
    }
