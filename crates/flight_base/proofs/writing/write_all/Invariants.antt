use Rattle.std.proofs.Common.{◌≡◌, ◌≤◌, ◌<◌, ◌-◌, length, take, false}
use Rattle.flight_base.specs.Outside.{appended}
use Rattle.flight_base.proofs.writing.write_all.Given as goal

abbrev pub invariant-turns : goal.invariant-turns
invariant-turns g l = record {
  within : l.at ≤ length l.bytes;
  held : g.K.Sink.held l.sink ≡ appended (g.K.Sink.held l.fn.sink) (take l.at l.bytes);
  same : g.K.Sink.takes_memory l.sink ≡ g.K.Sink.takes_memory l.fn.sink;
  unfinished : 0 < l.at → g.K.Sink.finished l.sink ≡ false;
  untouched : l.at ≡ 0 → l.sink ≡ l.fn.sink;
  later : g.K.Sink.faults l.fn.sink ≤ g.K.Sink.faults l.sink;
}

abbrev pub decreases-turns : goal.decreases-turns
decreases-turns g l = length l.bytes - l.at
