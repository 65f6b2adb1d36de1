use Rattle.std.proofs.Common.{map, ◌∷◌, [], subst, codes}
use Rattle.std.specs.Option.{option_to_list}
use Rattle.std.proofs.lemmas.Result.{err_from_is_err_and}
use Rattle.serde_json.specs.Find.{get}
use Rattle.serde_json.specs.View.{view}
use Rattle.flight_script.specs.Json.{list_at}
use Rattle.flight_script.specs.Streams.{name_test, stream_front}
use Rattle.flight_script.specs.Tests.{AllPass, Refuses}
use Rattle.flight_script.proofs.Passing.{refuses_front, refuses_behind}
use Rattle.flight_script.proofs.stream.read_stream.Goals as goal

pub returns-in_err-items-clause-err : goal.returns-in_err-items-clause-err
returns-in_err-items-clause-err c =
    let p = err_from_is_err_and c.from_residual-in_err-items.result c.from_residual-in_err-items.ensures.1 in
    let sources = map (λ n. n.now) c.args.sources.now in
    let d = view c.args.value.now in
    let e = c.in_err-items.field-0.0 in
    let refused = subst (λ ds. Refuses (map (name_test sources) ds) e) c.list_at.ensures c.in_err-items.ensures.err in
    rw (p.1, p.2) (refuses_behind (stream_front (c.args.name.now, d) ∷ []) _ e (c.in-Some.ensures.0, tt) (refuses_front (map (name_test sources) (list_at (codes "items") d)) (map (name_test sources) (option_to_list (get (codes "final") d))) e refused))

pub returns-in_err-last-clause-err : goal.returns-in_err-last-clause-err
returns-in_err-last-clause-err c =
    let p = err_from_is_err_and c.from_residual-in_err-last.result c.from_residual-in_err-last.ensures.1 in
    let sources = map (λ n. n.now) c.args.sources.now in
    let d = view c.args.value.now in
    let e = c.in_err-last.field-0.0 in
    let pass = subst (λ ds. AllPass (map (name_test sources) ds)) c.list_at.ensures c.in_ok-items.ensures.pass in
    rw (p.1, p.2) (refuses_behind (stream_front (c.args.name.now, d) ∷ map (name_test sources) (list_at (codes "items") d)) (map (name_test sources) (option_to_list (get (codes "final") d))) e (c.in-Some.ensures.0, pass) c.in_err-last.ensures.err)
