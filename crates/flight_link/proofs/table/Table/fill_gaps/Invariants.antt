use Rattle.std.proofs.Common.{◌≡◌, ◌++◌, drop}
use Rattle.flight_graph.specs.Text.{number_text}
use Rattle.flight_link.specs.Drafted.{AllKeys, Fits, fill, parts}
use Rattle.flight_link.specs.Laid.{IsNumbered, number_in}
use Rattle.flight_link.specs.Numbering.{IsKey}
use Rattle.flight_link.proofs.table.Table.fill_gaps.Given as goal

abbrev pub invariant-loop-gap : goal.invariant-loop-gap
invariant-loop-gap l = record {
  text : l.out ++ fill (λ key. number_text (number_in l.self.rows.items l.numbers key)) (parts l.rest (drop l.gap-index l.gaps)) ≡ l.initial.out ++ fill (λ key. number_text (number_in l.self.rows.items l.numbers key)) (parts l.text l.gaps);
  numbered : AllKeys (IsNumbered l.self.rows.items l.numbers) (parts l.rest (drop l.gap-index l.gaps)) → AllKeys (IsNumbered l.self.rows.items l.numbers) (parts l.text l.gaps);
  fits : Fits l.rest (drop l.gap-index l.gaps);
  keys : AllKeys (IsKey l.self.rows.items) (parts l.rest (drop l.gap-index l.gaps));
}
