use Rattle.std.proofs.Common.{drop, map, ◌+◌, ap}
use Rattle.std.specs.List.{flat_map}
use Rattle.std.proofs.lemmas.Result.{err_from_is_err_and}
use Rattle.flight_script.specs.Program.{names_of, named_tests}
use Rattle.flight_script.proofs.Built.{drop_is}
use Rattle.flight_script.proofs.Naming.{named_on, named_refuses}
use Rattle.flight_script.proofs.named.check_program.Goals as goal

pub loop-one-preserved : goal.loop-one-preserved
loop-one-preserved c =
    let ss = map (λ n. n.now) c.args.sources.now in
    let ts = map (λ n. n.now) c.args.streams.now in
    let l = c.loop-one in
    let xs = c.args.declared.now in
    let v = c.one-item.result in
    let rest = flat_map names_of (drop (l.one-index + 1) xs) in
    let more = ap (flat_map names_of) (drop_is xs l.one-index v c.loop-one-test.true c.one-item.is) in
    named_on ss ts (named_tests ss ts (flat_map names_of xs)) (flat_map names_of (drop l.one-index xs)) (names_of v) rest l.invariant more c.in_ok-check_declared.ensures.pass

pub returns-in_err-check_declared-clause-err : goal.returns-in_err-check_declared-clause-err
returns-in_err-check_declared-clause-err c =
    let p = err_from_is_err_and c.from_residual.result c.from_residual.ensures.1 in
    let ss = map (λ n. n.now) c.args.sources.now in
    let ts = map (λ n. n.now) c.args.streams.now in
    let l = c.loop-one in
    let xs = c.args.declared.now in
    let v = c.one-item.result in
    let rest = flat_map names_of (drop (l.one-index + 1) xs) in
    let more = ap (flat_map names_of) (drop_is xs l.one-index v c.loop-one-test.true c.one-item.is) in
    rw (p.1, p.2) (named_refuses ss ts (named_tests ss ts (flat_map names_of xs)) (flat_map names_of (drop l.one-index xs)) (names_of v) rest c.in_err-check_declared.field-0.0 l.invariant more c.in_err-check_declared.ensures.err)
