use Rattle.std.proofs.Common.{◌≡◌, ◌∙◌, ◌<◌, ◌+◌, ◌-◌, length, take, take_all, ap, sym, subst, arith, Greater, nat_cmp}
use Rattle.std.specs.Cmp.Lexicographic.{slice_cmp}
use Rattle.flight_place.specs.Parsed.{members_data, AreBelow}
use Rattle.flight_place.proofs.Gathering.{Entry, above-one_more}
use Rattle.flight_place.proofs.gathered.is_behind.Goals as goal

pub returns-in-Greater : goal.returns-in-Greater
returns-in-Greater c is_true =
    let k = c.args.name.now in
    let xs = c.args.list.now in
    let at = length xs - 1 in
    let x = c.index-list-end.result in
    let some = c.if-end-eq0.false in
    let within : at < length xs = omega (arith, some) in
    let greater : slice_cmp nat_cmp k x.0.now ≡ Greater = ap (λ (e : Entry). slice_cmp nat_cmp k e.0.now) c.index-list-end.is ∙ (sym c.order.ensures ∙ c.in-Greater.is) in
    subst (λ ys. AreBelow k (members_data ys)) (take_all (at + 1) xs (omega (arith, some))) (above-one_more k xs at x within c.index-list-end.is c.requires greater)
