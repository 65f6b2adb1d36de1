use Rattle.std.proofs.Common.{map, drop, ◌+◌, ◌++◌, [], subst, sym, ◌≡◌}
use Rattle.std.specs.List.{AllZip, flat_map}
use Rattle.std.proofs.lemmas.Result.{err_from_is_err_and}
use Rattle.serde_json.specs.View.{view}
use Rattle.flight_script.specs.Json.{list_of, text}
use Rattle.flight_script.specs.Settlers.{marks, settled_tests, AreSettled}
use Rattle.flight_script.specs.Streams.{IsNumberOf}
use Rattle.flight_script.specs.Tests.{AllPass, Refuses}
use Rattle.flight_script.proofs.Built.{built_next, map_drop}
use Rattle.flight_script.proofs.Settling.{Settling, settlers_on, settlers_refuse}
use Rattle.flight_script.proofs.settler.settle_all.Goals as goal

pub loop-settler-preserved : goal.loop-settler-preserved
loop-settler-preserved c =
    let l = c.loop-settler in
    let sources = map (λ n. n.now) c.args.sources.now in
    let vs = c.args.settlers.now in
    let i = l.settler-index in
    let v = c.settler-item.result in
    let own = list_of (view v) in
    let all = flat_map list_of (map view vs) in
    let rest = flat_map list_of (map view (drop (i + 1) vs)) in
    let old = l.settled.items in
    let new = c.settle.new.settled.items in
    let is = c.list_of.ensures in
    let done = c.in_ok-numbers.ensures in
    let are : AreSettled sources (view v) c.new.result =
    subst (λ ns. AllZip (IsNumberOf sources) own ns) (sym c.new.ensures) (subst (λ ds. AllZip (IsNumberOf sources) ds c.in_ok-numbers.numbers.items) is done.are) in
    record {
      each = done.each;
      settling = settlers_on sources [] all own rest old new
          (subst (λ ds. Settling sources [] all (flat_map list_of ds) old) (map_drop view vs i v c.loop-settler-test.true c.settler-item.is) l.invariant.settling)
          (λ now marked. subst (λ ds. AllPass (settled_tests sources now ds)) is (done.pass now marked))
          (λ now marked. subst (λ ds. new ≡ marks sources (now ++ map text ds)) is (done.marks now marked));
      built = built_next (AreSettled sources) view (map view vs) vs i v l.out.items c.push.new.self.items c.new.result l.invariant.built c.loop-settler-test.true c.settler-item.is are c.in_ok-push.ensures.items;
    }

pub returns-in_err-numbers-clause-err : goal.returns-in_err-numbers-clause-err
returns-in_err-numbers-clause-err c =
    let p = err_from_is_err_and c.from_residual-in_err-numbers.result c.from_residual-in_err-numbers.ensures.1 in
    let l = c.loop-settler in
    let sources = map (λ n. n.now) c.args.sources.now in
    let vs = c.args.settlers.now in
    let i = l.settler-index in
    let v = c.settler-item.result in
    let all = flat_map list_of (map view vs) in
    let rest = flat_map list_of (map view (drop (i + 1) vs)) in
    let old = l.settled.items in
    let e = c.in_err-numbers.field-0.0 in
    rw (p.1, p.2)
    (settlers_refuse sources [] all (list_of (view v)) rest old e
    (subst (λ ds. Settling sources [] all (flat_map list_of ds) old) (map_drop view vs i v c.loop-settler-test.true c.settler-item.is) l.invariant.settling)
    (λ now marked. subst (λ ds. Refuses (settled_tests sources now ds) e) c.list_of.ensures (c.in_err-numbers.ensures.err now marked)))
