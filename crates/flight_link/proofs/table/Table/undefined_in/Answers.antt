use Rattle.std.proofs.Common.{◌≡◌, ◌≤◌, ◌<◌, ◌+◌, ◌∙◌, sym, ap, subst, List, ◌++◌, ◌∷◌, [], length, take, arith}
use Rattle.std.proofs.lemmas.List.{take_all, take_more}
use Rattle.flight_meaning.specs.declared.place.Place.{Place}
use Rattle.flight_link.specs.Least.{IsLeastIn, IsIn}
use Rattle.flight_link.proofs.Defined.{least_place}
use Rattle.flight_link.proofs.table.Table.undefined_in.Goals as goal

pub returns : goal.returns
returns c =
    let most : length c.args.places.now ≤ c.places.place-index = omega (arith, c.places-test.false) in
    subst (λ (xs : List Place). IsLeastIn c.args.self.now.rows.items (IsIn xs) c.places.least) (take_all c.places.place-index c.args.places.now most) c.places.invariant

pub places-preserved : goal.places-preserved
places-preserved c =
    let less : c.places.place-index < length c.args.places.now = c.places-test.true in
    let more : take (c.places.place-index + 1) c.args.places.now ≡ take c.places.place-index c.args.places.now ++ c.place-item.result ∷ [] =
    take_more c.args.places.now c.places.place-index c.place-item.result less
    ∙ ap (λ y. take c.places.place-index c.args.places.now ++ y ∷ []) (sym c.place-item.is) in
    subst (λ (xs : List Place). IsLeastIn c.args.self.now.rows.items (IsIn xs) c.lesser-least.result) (sym more)
    (subst (IsLeastIn c.args.self.now.rows.items (IsIn (take c.places.place-index c.args.places.now ++ c.place-item.result ∷ []))) (sym c.lesser-least.ensures)
    (least_place c.args.self.now.rows.items (take c.places.place-index c.args.places.now) c.place-item.result c.places.least c.undefined_at.result c.places.invariant c.undefined_at.ensures))
