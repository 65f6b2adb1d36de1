use Rattle.std.proofs.Common.{map, drop, ◌+◌, ◌++◌, ◌∷◌, [], subst, ◌∙◌, ap, ◌≡◌, Some}
use Rattle.std.proofs.lemmas.Result.{err_from_is_err_and}
use Rattle.serde_json.specs.View.{view}
use Rattle.flight_script.specs.Settlers.{marks, settle_tests}
use Rattle.flight_script.specs.Streams.{IsNumberOf}
use Rattle.flight_script.specs.Tests.{AllPass, Refuses}
use Rattle.flight_script.proofs.Built.{built_next, map_drop}
use Rattle.flight_script.proofs.Settling.{Settling, settling_on, settling_refuses}
use Rattle.flight_script.proofs.settler.settle.Goals as goal

pub loop-item-preserved : goal.loop-item-preserved
loop-item-preserved c =
    let l = c.loop-item in
    let sources = map (λ n. n.now) c.args.sources.now in
    let vs = c.args.items.now in
    let i = l.item-index in
    let v = c.item-item.result in
    let rest = map view (drop (i + 1) vs) in
    let old = l.settled.items in
    let new = c.settle_one.new.settled.items in
    let is = c.text.ensures in
    let done = c.in_ok-settle_one.ensures in
    record {
      each = done.each;
      settling = λ earlier h.
          settling_on sources earlier (map view vs) rest (view v) old new
          (subst (λ ds. Settling sources earlier (map view vs) ds old) (map_drop view vs i v c.loop-item-test.true c.item-item.is) (l.invariant.settling earlier h))
          (λ now marked. subst (λ n. AllPass (settle_tests sources now n)) is (done.pass now marked))
          (λ now marked. subst (λ n. new ≡ marks sources (now ++ n ∷ [])) is (done.marks now marked));
      built = built_next (IsNumberOf sources) view (map view vs) vs i v l.numbers.items c.push.new.self.items c.in_ok-settle_one.field-0 l.invariant.built c.loop-item-test.true c.item-item.is (done.is ∙ ap Some is) c.in_ok-push.ensures.items;
    }

pub returns-in_err-settle_one-clause-err : goal.returns-in_err-settle_one-clause-err
returns-in_err-settle_one-clause-err c earlier h =
    let p = err_from_is_err_and c.from_residual-in_err-settle_one.result c.from_residual-in_err-settle_one.ensures.1 in
    let l = c.loop-item in
    let sources = map (λ n. n.now) c.args.sources.now in
    let vs = c.args.items.now in
    let i = l.item-index in
    let v = c.item-item.result in
    let rest = map view (drop (i + 1) vs) in
    let old = l.settled.items in
    let e = c.in_err-settle_one.field-0.0 in
    rw (p.1, p.2)
    (settling_refuses sources earlier (map view vs) rest (view v) old e
    (subst (λ ds. Settling sources earlier (map view vs) ds old) (map_drop view vs i v c.loop-item-test.true c.item-item.is) (l.invariant.settling earlier h))
    (λ now marked. subst (λ n. Refuses (settle_tests sources now n) e) c.text.ensures (c.in_err-settle_one.ensures.err now marked)))
