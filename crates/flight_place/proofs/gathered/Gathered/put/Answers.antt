use Rattle.std.proofs.Common.{ap, sym, subst, refl, ◌∙◌, ◌++◌, ◌∷◌, []}
use Rattle.serde_json.specs.Data.{put}
use Rattle.flight_place.specs.Parsed.{data_of, members_data, gathered_data, AreBelow}
use Rattle.flight_place.proofs.Gathering.{put-last}
use Rattle.flight_place.proofs.gathered.Gathered.put.Goals as goal

pub returns-then-is_behind : goal.returns-then-is_behind
returns-then-is_behind c =
    let k = c.args.name in
    let xs = c.in-Listed.list.items in
    let above = subst (λ ys. AreBelow k.now (members_data ys)) c.as_slice.ensures.value (c.if-is_behind.ensures refl) in
    ap members_data (c.push_reserved.ensures.items ∙ ap (λ ys. ys ++ (k, c.args.value) ∷ []) c.reserve.ensures.items) ∙ (put-last k c.args.value xs above ∙ ap (put k.now (data_of c.args.value)) (sym (ap gathered_data c.in-Listed.is)))
