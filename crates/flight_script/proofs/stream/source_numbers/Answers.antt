use Rattle.std.proofs.Common.{map, drop, ◌+◌, ◌∷◌, [], subst, ◌∙◌, ap, ◌≡◌, true, Some}
use Rattle.std.proofs.lemmas.Result.{err_from_is_err_and}
use Rattle.serde_json.specs.View.{view}
use Rattle.flight_script.specs.declared.fault.ScriptFault.TheVariants.{UnknownSource}
use Rattle.flight_script.specs.Json.{is_among, text}
use Rattle.flight_script.specs.Streams.{name_test, IsNumberOf}
use Rattle.flight_script.specs.Tests.{holds, Refuses}
use Rattle.flight_script.proofs.Built.{built_next, map_drop}
use Rattle.flight_script.proofs.Passing.{Passed, passed_on, passed_refuses}
use Rattle.flight_script.proofs.stream.source_numbers.Goals as goal

pub loop-item-preserved : goal.loop-item-preserved
loop-item-preserved c =
    let l = c.loop-item in
    let sources = map (λ n. n.now) c.args.sources.now in
    let vs = c.args.items.now in
    let i = l.item-index in
    let v = c.item-item.result in
    let all = map (name_test sources) (map view vs) in
    let here = subst (λ ds. Passed all (map (name_test sources) ds)) (map_drop view vs i v c.loop-item-test.true c.item-item.is) l.invariant.passed in
    let is : IsNumberOf sources (view v) c.in_ok-number_of.field-0 = c.in_ok-number_of.ensures.is ∙ ap Some c.text.ensures in
    let among : is_among sources (text (view v)) ≡ true = subst (λ n. is_among sources n ≡ true) c.text.ensures c.in_ok-number_of.ensures.among in
    record {
      built = built_next (IsNumberOf sources) view (map view vs) vs i v l.numbers.items c.push.new.self.items c.in_ok-number_of.field-0 l.invariant.built c.loop-item-test.true c.item-item.is is c.in_ok-push.ensures.items;
      passed = passed_on all (name_test sources (view v) ∷ []) (map (name_test sources) (map view (drop (i + 1) vs))) here (among, tt);
    }

pub returns-in_err-number_of-clause-err : goal.returns-in_err-number_of-clause-err
returns-in_err-number_of-clause-err c =
    let p = err_from_is_err_and c.from_residual-in_err-number_of.result c.from_residual-in_err-number_of.ensures.1 in
    let l = c.loop-item in
    let sources = map (λ n. n.now) c.args.sources.now in
    let vs = c.args.items.now in
    let i = l.item-index in
    let v = c.item-item.result in
    let all = map (name_test sources) (map view vs) in
    let here = subst (λ ds. Passed all (map (name_test sources) ds)) (map_drop view vs i v c.loop-item-test.true c.item-item.is) l.invariant.passed in
    let refused = subst (λ n. Refuses (holds (is_among sources n) (UnknownSource n) ∷ []) c.in_err-number_of.field-0.0) c.text.ensures c.in_err-number_of.ensures.err in
    rw (p.1, p.2) (passed_refuses all (name_test sources (view v) ∷ []) (map (name_test sources) (map view (drop (i + 1) vs))) c.in_err-number_of.field-0.0 here refused)
