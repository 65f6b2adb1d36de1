use Rattle.std.proofs.Common.{◌≡◌, ap, subst, ◌∙◌}
use Rattle.std.specs.List.{insert}
use Rattle.serde_json.specs.Data.{put}
use Rattle.flight_place.specs.Parsed.{data_of, members_data, with_value}
use Rattle.flight_place.proofs.Gathering.{put-inserted, put-replaced}
use Rattle.flight_place.proofs.gathered.insert.Goals as goal

pub returns-in-Ok : goal.returns-in-Ok
returns-in-Ok c =
    let k = c.args.name.now in
    let d = data_of c.args.value in
    let at = c.in-Ok.at in
    let stands = c.in-Ok.ensures.stands in
    c.replace.ensures ∙ subst (λ xs. with_value at d (members_data xs) ≡ put k d (members_data xs)) c.as_slice.ensures.value (put-replaced k d c.as_slice.result.now at stands.0 stands.1 stands.2)

pub returns-in_ok-insert-in-Err : goal.returns-in_ok-insert-in-Err
returns-in_ok-insert-in-Err c =
    let k = c.args.name in
    let p = c.args.value in
    let at = c.in-Err.at in
    let belongs = c.in-Err.ensures.belongs in
    ap members_data c.in_ok-insert-in-Err.ensures.items
    ∙ subst (λ xs. members_data (insert xs at (k, p)) ≡ put k.now (data_of p) (members_data xs)) c.as_slice.ensures.value (put-inserted k p c.as_slice.result.now at belongs.0 belongs.1 belongs.2)
