use Rattle.std.proofs.Common.{subst, String, Global}
use Rattle.std.specs.List.{flat_map}
use Rattle.std.proofs.lemmas.Result.{err_from_is_err_and}
use Rattle.serde_json.specs.declared.value.Value.{Value}
use Rattle.flight_script.specs.Entries.{entry, entries}
use Rattle.flight_script.specs.Sources.{source_tests, IsSource}
use Rattle.flight_script.specs.Tests.{AllPass, Refuses}
use Rattle.flight_script.proofs.Built.{built_step}
use Rattle.flight_script.proofs.Passing.{Passed, passed_on, passed_refuses}
use Rattle.flight_script.proofs.source.read_sources.Goals as goal

pub loop-name-preserved : goal.loop-name-preserved
loop-name-preserved c =
    let l = c.loop-name in
    let es = c.args.members.now.entries in
    let rest = c.next.new.self in
    let e : String Global × Value = (c.in-Some.name.now, c.in-Some.member.now) in
    let all = flat_map source_tests (entries es) in
    let here = subst (λ xs. Passed all (flat_map source_tests (entries xs))) c.in-Some.ensures.steps l.invariant.passed in
    let name = c.as_str.ensures.value in
    record {
      built = built_step IsSource entry (entries es) l.name-iterator rest e l.sources.items c.push.new.self.items c.in_ok-read_source.field-0 l.invariant.built c.in-Some.ensures.steps
          (subst (λ n. IsSource (n, (entry e).1) c.in_ok-read_source.field-0) name c.in_ok-read_source.ensures.is) c.in_ok-push.ensures.items;
      passed = passed_on all (source_tests (entry e)) (flat_map source_tests (entries rest)) here (subst (λ n. AllPass (source_tests (n, (entry e).1))) name c.in_ok-read_source.ensures.pass);
    }

pub returns-in_err-read_source-clause-err : goal.returns-in_err-read_source-clause-err
returns-in_err-read_source-clause-err c =
    let p = err_from_is_err_and c.from_residual-in_err-read_source.result c.from_residual-in_err-read_source.ensures.1 in
    let l = c.loop-name in
    let es = c.args.members.now.entries in
    let rest = c.next.new.self in
    let e : String Global × Value = (c.in-Some.name.now, c.in-Some.member.now) in
    let all = flat_map source_tests (entries es) in
    let here = subst (λ xs. Passed all (flat_map source_tests (entries xs))) c.in-Some.ensures.steps l.invariant.passed in
    let refused = subst (λ n. Refuses (source_tests (n, (entry e).1)) c.in_err-read_source.field-0.0) c.as_str.ensures.value c.in_err-read_source.ensures.err in
    rw (p.1, p.2) (passed_refuses all (source_tests (entry e)) (flat_map source_tests (entries rest)) c.in_err-read_source.field-0.0 here refused)
