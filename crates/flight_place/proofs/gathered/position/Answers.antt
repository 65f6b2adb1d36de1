use Rattle.std.proofs.Common.{◌≡◌, ◌∙◌, ◌<◌, ◌+◌, ◌-◌, length, take, ap, sym, subst, arith, Equal, Greater, nat_cmp}
use Rattle.std.specs.Cmp.Lexicographic.{slice_cmp}
use Rattle.flight_place.specs.Parsed.{members_data, AreBelow}
use Rattle.flight_place.proofs.Gathering.{Entry, above-one_more, above-before, is-first}
use Rattle.flight_place.proofs.gathered.position.Goals as goal

pub returns-in-Equal-clause-stands : goal.returns-in-Equal-clause-stands
returns-in-Equal-clause-stands c =
    let k = c.args.name.now in
    let xs = c.args.list.now in
    let at = c.members.end - 1 in
    let x = c.index-list-end.result in
    let within : at < length xs = omega (arith, c.members.invariant.within, c.members-test.true) in
    let equal : slice_cmp nat_cmp k x.0.now ≡ Equal = ap (λ (e : Entry). slice_cmp nat_cmp k e.0.now) c.index-list-end.is ∙ (sym c.order.ensures ∙ c.in-Equal.is) in
    (within, above-before k xs at x within c.index-list-end.is c.requires equal, is-first k xs at x within c.index-list-end.is equal)

pub returns-in-Greater-clause-belongs : goal.returns-in-Greater-clause-belongs
returns-in-Greater-clause-belongs c =
    let k = c.args.name.now in
    let xs = c.args.list.now in
    let at = c.members.end - 1 in
    let x = c.index-list-end.result in
    let within : at < length xs = omega (arith, c.members.invariant.within, c.members-test.true) in
    let greater : slice_cmp nat_cmp k x.0.now ≡ Greater = ap (λ (e : Entry). slice_cmp nat_cmp k e.0.now) c.index-list-end.is ∙ (sym c.order.ensures ∙ c.in-Greater.is) in
    let end : at + 1 ≡ c.members.end = omega (arith, c.members-test.true) in
    (c.members.invariant.within, subst (λ n. AreBelow k (members_data (take n xs))) end (above-one_more k xs at x within c.index-list-end.is c.requires greater), c.members.invariant.below)
