use Rattle.std.proofs.Common.{◌+◌, ◌<◌, sym, subst, length, take}
use Rattle.flight_link.specs.Nodes.{spot_of}
use Rattle.flight_link.specs.Drawing.{ArePairs}
use Rattle.flight_link.proofs.Drawing.{grows_on, pairs_more}
use Rattle.flight_link.proofs.table.Table.pairs.Goals as goal

pub loop-place-preserved : goal.loop-place-preserved
loop-place-preserved c =
    let less : c.loop-place.place-index < length c.args.places.now = c.loop-place-test.true in
    let old = c.loop-place.numbers.keys.items in
    let new = c.pair.new.numbers.keys.items in
    record {
      numbered = c.in_ok-pair.ensures.numbered;
      grows = grows_on c.args.numbers.now.keys.items old new c.loop-place.invariant.grows c.in_ok-pair.ensures.grows;
      pairs = subst (λ xs. ArePairs c.args.self.now.rows.items new (spot_of c.args.self.now.rows.items c.args.spot) xs (take (c.loop-place.place-index + 1) c.args.places.now)) (sym c.in_ok-push.ensures.items)
          (pairs_more c.args.self.now.rows.items old new (spot_of c.args.self.now.rows.items c.args.spot) c.loop-place.pairs.items c.args.places.now c.loop-place.place-index c.in_ok-pair.field-0 less c.in_ok-pair.ensures.grows c.loop-place.invariant.pairs c.in_ok-pair.ensures.pair);
    }
