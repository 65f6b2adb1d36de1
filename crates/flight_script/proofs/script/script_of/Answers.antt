use Rattle.std.proofs.Common.{◌≡◌, ◌∙◌, ap, sym, subst, map, true, codes}
use Rattle.std.specs.List.{AllZip, flat_map}
use Rattle.std.proofs.lemmas.Result.{err_from_is_err_and}
use Rattle.serde_json.specs.View.{view}
use Rattle.flight_value.specs.Graph.{Ascend}
use Rattle.flight_script.specs.Entries.{entries}
use Rattle.flight_script.specs.Json.{list_at}
use Rattle.flight_script.specs.Sources.{source_tests, IsSource}
use Rattle.flight_script.specs.Streams.{stream_tests, IsStream}
use Rattle.flight_script.specs.Settlers.{settler_tests, AreSettled}
use Rattle.flight_script.specs.Program.{program_tests}
use Rattle.flight_script.specs.Script.{is_script, sources_in, streams_in, names}
use Rattle.flight_script.specs.Tests.{AllPass, Refuses}
use Rattle.flight_script.proofs.Assembling.{sources_refuse, streams_refuse, settlers_refuse, program_refuses, script_passes}
use Rattle.flight_script.proofs.script.script_of.Goals as goal

pub returns-in_err-sources-clause-err : goal.returns-in_err-sources-clause-err
returns-in_err-sources-clause-err c =
    let p = err_from_is_err_and c.from_residual-in_err-sources.result c.from_residual-in_err-sources.ensures.1 in
    let e = c.in_err-sources.field-0.0 in
    let d = view c.args.script.now in
    let ds = c.args.declared.now in
    let h : is_script d ≡ true = sym c.if-not-is_script.ensures in
    let sm = c.members_at-source_members.ensures in
    let tm = c.members_at-stream_members.ensures in
    let sn : map (λ n. n.now) c.in_ok-source_names.source_names.items ≡ names (sources_in d) = c.in_ok-source_names.ensures.are ∙ ap names sm in
    rw (p.1, p.2) (sources_refuse d ds e h (subst (λ ms. Refuses (flat_map source_tests ms) e) sm c.in_err-sources.ensures.err))

pub returns-in_err-streams-clause-err : goal.returns-in_err-streams-clause-err
returns-in_err-streams-clause-err c =
    let p = err_from_is_err_and c.from_residual-in_err-streams.result c.from_residual-in_err-streams.ensures.1 in
    let e = c.in_err-streams.field-0.0 in
    let d = view c.args.script.now in
    let ds = c.args.declared.now in
    let h : is_script d ≡ true = sym c.if-not-is_script.ensures in
    let sm = c.members_at-source_members.ensures in
    let tm = c.members_at-stream_members.ensures in
    let sn : map (λ n. n.now) c.in_ok-source_names.source_names.items ≡ names (sources_in d) = c.in_ok-source_names.ensures.are ∙ ap names sm in
    let a = subst (λ ms. AllPass (flat_map source_tests ms)) sm c.in_ok-sources.ensures.pass in
    let s1 : map (λ n. n.now) c.as_slice.result.now ≡ names (sources_in d) = ap (λ xs. map (λ n. n.now) xs) c.as_slice.ensures.value ∙ sn in
    let r = subst (λ ms. Refuses (flat_map (stream_tests (names (sources_in d))) ms) e) tm (subst (λ ns. Refuses (flat_map (stream_tests ns) (entries c.members_at-stream_members.result.now.entries)) e) s1 c.in_err-streams.ensures.err) in
    rw (p.1, p.2) (streams_refuse d ds e h a r)

pub returns-in_err-settlers-clause-err : goal.returns-in_err-settlers-clause-err
returns-in_err-settlers-clause-err c =
    let p = err_from_is_err_and c.from_residual-in_err-settlers.result c.from_residual-in_err-settlers.ensures.1 in
    let e = c.in_err-settlers.field-0.0 in
    let d = view c.args.script.now in
    let ds = c.args.declared.now in
    let h : is_script d ≡ true = sym c.if-not-is_script.ensures in
    let sm = c.members_at-source_members.ensures in
    let tm = c.members_at-stream_members.ensures in
    let sn : map (λ n. n.now) c.in_ok-source_names.source_names.items ≡ names (sources_in d) = c.in_ok-source_names.ensures.are ∙ ap names sm in
    let a = subst (λ ms. AllPass (flat_map source_tests ms)) sm c.in_ok-sources.ensures.pass in
    let s1 : map (λ n. n.now) c.as_slice.result.now ≡ names (sources_in d) = ap (λ xs. map (λ n. n.now) xs) c.as_slice.ensures.value ∙ sn in
    let b = subst (λ ms. AllPass (flat_map (stream_tests (names (sources_in d))) ms)) tm (subst (λ ns. AllPass (flat_map (stream_tests ns) (entries c.members_at-stream_members.result.now.entries))) s1 c.in_ok-streams.ensures.pass) in
    let s2 : map (λ n. n.now) c.as_slice-2.result.now ≡ names (sources_in d) = ap (λ xs. map (λ n. n.now) xs) c.as_slice-2.ensures.value ∙ sn in
    rw (p.1, p.2) (settlers_refuse d ds e h a b (subst (λ ns. Refuses (settler_tests ns d) e) s2 c.in_err-settlers.ensures.err))

pub returns-in_err-check_program-clause-err : goal.returns-in_err-check_program-clause-err
returns-in_err-check_program-clause-err c =
    let p = err_from_is_err_and c.from_residual-in_err-check_program.result c.from_residual-in_err-check_program.ensures.1 in
    let e = c.in_err-check_program.field-0.0 in
    let d = view c.args.script.now in
    let ds = c.args.declared.now in
    let h : is_script d ≡ true = sym c.if-not-is_script.ensures in
    let sm = c.members_at-source_members.ensures in
    let tm = c.members_at-stream_members.ensures in
    let sn : map (λ n. n.now) c.in_ok-source_names.source_names.items ≡ names (sources_in d) = c.in_ok-source_names.ensures.are ∙ ap names sm in
    let tn : map (λ n. n.now) c.in_ok-stream_names.stream_names.items ≡ names (streams_in d) = c.in_ok-stream_names.ensures.are ∙ ap names tm in
    let a = subst (λ ms. AllPass (flat_map source_tests ms)) sm c.in_ok-sources.ensures.pass in
    let s1 : map (λ n. n.now) c.as_slice.result.now ≡ names (sources_in d) = ap (λ xs. map (λ n. n.now) xs) c.as_slice.ensures.value ∙ sn in
    let b = subst (λ ms. AllPass (flat_map (stream_tests (names (sources_in d))) ms)) tm (subst (λ ns. AllPass (flat_map (stream_tests ns) (entries c.members_at-stream_members.result.now.entries))) s1 c.in_ok-streams.ensures.pass) in
    let s2 : map (λ n. n.now) c.as_slice-2.result.now ≡ names (sources_in d) = ap (λ xs. map (λ n. n.now) xs) c.as_slice-2.ensures.value ∙ sn in
    let s = subst (λ ns. AllPass (settler_tests ns d)) s2 c.in_ok-settlers.ensures.pass in
    let s3 : map (λ n. n.now) c.as_slice-3.result.now ≡ names (sources_in d) = ap (λ xs. map (λ n. n.now) xs) c.as_slice-3.ensures.value ∙ sn in
    let t4 : map (λ n. n.now) c.as_slice-4.result.now ≡ names (streams_in d) = ap (λ xs. map (λ n. n.now) xs) c.as_slice-4.ensures.value ∙ tn in
    let r = subst (λ ts. Refuses (program_tests (names (sources_in d)) ts ds) e) t4 (subst (λ ns. Refuses (program_tests ns (map (λ n. n.now) c.as_slice-4.result.now) ds) e) s3 c.in_err-check_program.ensures.err) in
    rw (p.1, p.2) (program_refuses d ds e h a b s r)

pub returns-clause-pass : goal.returns-clause-pass
returns-clause-pass c =
    let d = view c.args.script.now in
    let ds = c.args.declared.now in
    let h : is_script d ≡ true = sym c.if-not-is_script.ensures in
    let sm = c.members_at-source_members.ensures in
    let tm = c.members_at-stream_members.ensures in
    let sn : map (λ n. n.now) c.in_ok-source_names.source_names.items ≡ names (sources_in d) = c.in_ok-source_names.ensures.are ∙ ap names sm in
    let tn : map (λ n. n.now) c.in_ok-stream_names.stream_names.items ≡ names (streams_in d) = c.in_ok-stream_names.ensures.are ∙ ap names tm in
    let a = subst (λ ms. AllPass (flat_map source_tests ms)) sm c.in_ok-sources.ensures.pass in
    let s1 : map (λ n. n.now) c.as_slice.result.now ≡ names (sources_in d) = ap (λ xs. map (λ n. n.now) xs) c.as_slice.ensures.value ∙ sn in
    let b = subst (λ ms. AllPass (flat_map (stream_tests (names (sources_in d))) ms)) tm (subst (λ ns. AllPass (flat_map (stream_tests ns) (entries c.members_at-stream_members.result.now.entries))) s1 c.in_ok-streams.ensures.pass) in
    let s2 : map (λ n. n.now) c.as_slice-2.result.now ≡ names (sources_in d) = ap (λ xs. map (λ n. n.now) xs) c.as_slice-2.ensures.value ∙ sn in
    let s = subst (λ ns. AllPass (settler_tests ns d)) s2 c.in_ok-settlers.ensures.pass in
    let s3 : map (λ n. n.now) c.as_slice-3.result.now ≡ names (sources_in d) = ap (λ xs. map (λ n. n.now) xs) c.as_slice-3.ensures.value ∙ sn in
    let t4 : map (λ n. n.now) c.as_slice-4.result.now ≡ names (streams_in d) = ap (λ xs. map (λ n. n.now) xs) c.as_slice-4.ensures.value ∙ tn in
    let r = subst (λ ts. AllPass (program_tests (names (sources_in d)) ts ds)) t4 (subst (λ ns. AllPass (program_tests ns (map (λ n. n.now) c.as_slice-4.result.now) ds)) s3 c.in_ok-check_program.ensures.pass) in
    script_passes d ds h a b s r

pub returns-clause-is : goal.returns-clause-is
returns-clause-is c =
    let d = view c.args.script.now in
    let ds = c.args.declared.now in
    let h : is_script d ≡ true = sym c.if-not-is_script.ensures in
    let sm = c.members_at-source_members.ensures in
    let tm = c.members_at-stream_members.ensures in
    let sn : map (λ n. n.now) c.in_ok-source_names.source_names.items ≡ names (sources_in d) = c.in_ok-source_names.ensures.are ∙ ap names sm in
    let s1 : map (λ n. n.now) c.as_slice.result.now ≡ names (sources_in d) = ap (λ xs. map (λ n. n.now) xs) c.as_slice.ensures.value ∙ sn in
    let s2 : map (λ n. n.now) c.as_slice-2.result.now ≡ names (sources_in d) = ap (λ xs. map (λ n. n.now) xs) c.as_slice-2.ensures.value ∙ sn in
    let sources = subst (λ ms. AllZip IsSource ms c.in_ok-sources.sources.items) sm c.in_ok-sources.ensures.are in
    let streams =
    subst (λ ms. AllZip (IsStream (names (sources_in d))) ms c.in_ok-streams.streams.items) tm (subst (λ ns. AllZip (IsStream ns) (entries c.members_at-stream_members.result.now.entries) c.in_ok-streams.streams.items) s1 c.in_ok-streams.ensures.are) in
    let settlers = subst (λ ns. AllZip (AreSettled ns) (list_at (codes "settlers") d) c.in_ok-settlers.settlers.items) s2 c.in_ok-settlers.ensures.are in
    record {
      sources_ascend = subst (λ ms. Ascend (names ms)) sm c.in_ok-source_names.ensures.ascend;
      streams_ascend = subst (λ ms. Ascend (names ms)) tm c.in_ok-stream_names.ensures.ascend;
      sources = subst (λ xs. AllZip IsSource (sources_in d) xs) (sym c.new-2.ensures) sources;
      streams = subst (λ xs. AllZip (IsStream (names (sources_in d))) (streams_in d) xs) (sym c.new-3.ensures) streams;
      settlers = subst (λ xs. AllZip (AreSettled (names (sources_in d))) (list_at (codes "settlers") d) xs) (sym c.new-4.ensures) settlers;
    }
