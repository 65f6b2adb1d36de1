use Rattle.std.proofs.Common.{sym, ap, subst, ◌∙◌}
use Rattle.flight_render.specs.Run.{and_then, ends}
use Rattle.flight_render.specs.Values.{source_named, source_end}
use Rattle.flight_render.specs.Operators.{type_digest}
use Rattle.flight_render.specs.Eval.{give_or_fail}
use Rattle.flight_eval.specs.Gives.{work_of, Gives}
use Rattle.flight_eval.proofs.parts.source.Goals as goal

pub returns-in-Some : goal.returns-in-Some
returns-in-Some c =
    let over = c.args.place.now.over.now in
    let settled = c.args.place.now.seen.now.settled in
    let m = work_of c.args.work.now in
    let found = ap (source_named over) (sym c.as_str.ensures) ∙ sym c.in_ok-source.ensures ∙ c.in-Some.is in
    subst (λ z. Gives (λ t. t) c.args.place.now.fuel (and_then (give_or_fail type_digest z m) (λ s n. ends (source_end over settled s) n)) c.source_end.result m) (sym found) c.source_end.ensures
