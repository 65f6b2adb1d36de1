use Rattle.std.proofs.Common.{◌≡◌, ◌≤◌, ◌+◌, ◌-◌, vec_len}
use Rattle.flight_base.specs.Outside.{raised, Takes}
use Rattle.flight_base.proofs.reading.read_all.Given as goal

abbrev pub invariant-turns : goal.invariant-turns
invariant-turns g l = record {
  told : Takes (g.S.Source.left l.fn.source) (g.S.Source.left l.source) l.bytes.items;
  counted : g.S.Source.met l.source ≡ raised (g.S.Source.met l.fn.source) (vec_len l.bytes);
  later : g.S.Source.faults l.fn.source ≤ g.S.Source.faults l.source;
  count : g.S.Source.reads l.source ≤ g.S.Source.reads l.fn.source + vec_len l.bytes;
  most : g.S.Source.reads l.source ≤ g.S.Source.reads l.fn.source + l.limit + 1;
}

abbrev pub decreases-turns : goal.decreases-turns
decreases-turns g l = l.limit + 1 - vec_len l.bytes
