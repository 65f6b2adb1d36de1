use Rattle.std.proofs.Common.{map, drop, ◌+◌, ◌∷◌, [], subst, Some}
use Rattle.std.proofs.lemmas.Result.{err_from_is_err_and}
use Rattle.serde_json.specs.View.{view}
use Rattle.flight_text.specs.Whole.{has_whole_numbers}
use Rattle.flight_script.specs.declared.fault.ScriptFault.TheVariants.{Number, BadNode}
use Rattle.flight_script.specs.Slots.{IsNode}
use Rattle.flight_script.specs.Sources.{node_tests}
use Rattle.flight_script.specs.Tests.{holds, a_node}
use Rattle.flight_script.proofs.Built.{built_next, map_drop}
use Rattle.flight_script.proofs.Passing.{Passed, passed_on, passed_refuses}
use Rattle.flight_script.proofs.source.source_nodes.Goals as goal

pub loop-number-preserved : goal.loop-number-preserved
loop-number-preserved c =
    let l = c.loop-number in
    let name = c.args.name.now in
    let count = c.args.count in
    let vs = c.args.values.now in
    let i = l.number in
    let v = c.index-values-number.result in
    let all = node_tests name count 0 (map view vs) in
    let here = subst (λ ds. Passed all (node_tests name count i ds)) (map_drop view vs i v c.loop-number-test.true c.index-values-number.is) l.invariant.passed in
    record {
      built = built_next (IsNode count) view (map view vs) vs i v l.nodes.items c.push.new.self.items c.in_ok-source_node.field-0 l.invariant.built c.loop-number-test.true c.index-values-number.is c.in_ok-source_node.ensures.is c.in_ok-push.ensures.items;
      passed = passed_on all (holds (has_whole_numbers (view v)) (Number name) ∷ a_node count (view v) (BadNode name (Some i)) ∷ []) (node_tests name count (i + 1) (map view (drop (i + 1) vs))) here c.in_ok-source_node.ensures.pass;
    }

pub returns-in_err-source_node-clause-err : goal.returns-in_err-source_node-clause-err
returns-in_err-source_node-clause-err c =
    let p = err_from_is_err_and c.from_residual-in_err-source_node.result c.from_residual-in_err-source_node.ensures.1 in
    let l = c.loop-number in
    let name = c.args.name.now in
    let count = c.args.count in
    let vs = c.args.values.now in
    let i = l.number in
    let v = c.index-values-number.result in
    let all = node_tests name count 0 (map view vs) in
    let here = subst (λ ds. Passed all (node_tests name count i ds)) (map_drop view vs i v c.loop-number-test.true c.index-values-number.is) l.invariant.passed in
    rw (p.1, p.2) (passed_refuses all (holds (has_whole_numbers (view v)) (Number name) ∷ a_node count (view v) (BadNode name (Some i)) ∷ []) (node_tests name count (i + 1) (map view (drop (i + 1) vs))) c.in_err-source_node.field-0.0 here c.in_err-source_node.ensures.err)
