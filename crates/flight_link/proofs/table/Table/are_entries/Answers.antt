use Rattle.std.proofs.Common.{◌≡◌, ◌<◌, ◌+◌, ◌∙◌, sym, ap, true, false, length, drop, get_or, rules}
use Rattle.std.proofs.lemmas.List.{drop_more}
use Rattle.std.specs.Prelude.{is_some}
use Rattle.flight_meaning.specs.Meaning.{entries}
use Rattle.flight_link.specs.Nodes.{spot_of}
use Rattle.flight_link.proofs.Defined.{entries_go, entries_stop}
use Rattle.flight_link.proofs.table.Table.are_entries.Goals as goal

pub returns-then-not-is_entry : goal.returns-then-not-is_entry
returns-then-not-is_entry c =
    let less : c.loop-number.number-index < length c.args.numbers.now = c.loop-number-test.true in
    let bad : c.is_entry.result ≡ false = search rules in
    sym (c.loop-number.invariant
    ∙ (ap (λ xs. is_some (entries c.args.self.now.rows.items (spot_of c.args.self.now.rows.items c.args.spot) xs)) (drop_more c.args.numbers.now c.loop-number.number-index 0 less)
    ∙ entries_stop c.args.self.now.rows.items c.args.spot c.requires.there.0 (get_or c.args.numbers.now c.loop-number.number-index 0) (drop (c.loop-number.number-index + 1) c.args.numbers.now) c.is_entry.result c.requires.table.plain c.requires.there.1 c.is_entry.ensures bad))

pub loop-number-preserved : goal.loop-number-preserved
loop-number-preserved c =
    let less : c.loop-number.number-index < length c.args.numbers.now = c.loop-number-test.true in
    let good : c.is_entry.result ≡ true = search rules in
    c.loop-number.invariant
    ∙ (ap (λ xs. is_some (entries c.args.self.now.rows.items (spot_of c.args.self.now.rows.items c.args.spot) xs)) (drop_more c.args.numbers.now c.loop-number.number-index 0 less)
    ∙ entries_go c.args.self.now.rows.items c.args.spot c.requires.there.0 (get_or c.args.numbers.now c.loop-number.number-index 0) (drop (c.loop-number.number-index + 1) c.args.numbers.now) c.is_entry.result c.requires.table.plain c.requires.there.1 c.is_entry.ensures good)
