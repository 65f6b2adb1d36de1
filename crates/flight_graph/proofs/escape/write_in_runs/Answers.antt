use Rattle.std.proofs.Common.{◌≡◌, ◌++◌, List, ℕ, get_or, ◌∙◌, ap, subst}
use Rattle.std.specs.List.{flat_map}
use Rattle.std.specs.Prelude.{All, false}
use Rattle.flight_graph.specs.Text.{escaped}
use Rattle.flight_graph.specs.Writing.{is_escaped}
use Rattle.flight_graph.proofs.Escapes.{IsFound, all_written, front_range, past_found, run_written, string_written}
use Rattle.flight_graph.proofs.escape.write_in_runs.Goals as goal

pub range_from-rest-requires : goal.range_from-rest-requires
range_from-rest-requires c =
    let found : IsFound c.loop-at.rest.now c.in-Some.at = subst (λ (bytes : List ℕ). IsFound bytes c.in-Some.at) c.as_bytes.ensures.value c.in-Some.ensures in
    λ _. past_found c.loop-at.rest.now c.in-Some.at c.loop-at.invariant.utf8 found

pub loop-at-preserved : goal.loop-at-preserved
loop-at-preserved c =
    let rest = c.loop-at.rest.now in
    let at = c.in-Some.at in
    let found : IsFound rest at = subst (λ (bytes : List ℕ). IsFound bytes at) c.as_bytes.ensures.value c.in-Some.ensures in
    let run = c.in_ok-push_str.ensures ∙ ap (λ x. c.loop-at.out ++ x) (c.range.ensures.value ∙ front_range rest at) in
    let escape = c.in_ok-write_escaped.ensures ∙ ap (λ (bytes : List ℕ). c.push_str.new.self ++ escaped (get_or bytes at 0)) c.as_bytes-in-Some.ensures.value in
    let all = run_written c.loop-at.out c.push_str.new.self c.write_escaped.new.out c.put.new.out c.args.text.now rest at found.0 found.2 c.loop-at.invariant.so_far run escape in
    record {
      utf8 = c.range_from-rest.utf8;
      so_far = ap (λ x. c.write_escaped.new.out ++ flat_map escaped x) c.range_from-rest.ensures.value ∙ all;
    }

pub returns : goal.returns
returns c =
    let plain = subst (λ (bytes : List ℕ). All (λ b. is_escaped b ≡ false) bytes) c.as_bytes.ensures.value c.in_default.ensures in
    let run = all_written c.loop-at.out c.push_str-2.new.self c.put.new.out c.args.text.now c.loop-at.rest.now plain c.loop-at.invariant.so_far c.in_ok-push_str-2.ensures in
    string_written c.args.out.now c.put.new.out c.push_str-2.new.self c.put-2.new.out c.args.text.now c.in_ok-put.ensures run c.in_ok-put-2.ensures
