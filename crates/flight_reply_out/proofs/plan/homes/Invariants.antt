use Rattle.std.proofs.Common.{◌≡◌, ◌<◌, ◌^◌}
use Rattle.flight_reply_out.specs.Homes.{planned}
use Rattle.flight_reply_out.proofs.plan.homes.Given as goal

abbrev pub invariant-loop-n : goal.invariant-loop-n
invariant-loop-n l = record {
  same : l.out ≡ l.fn.out;
  homes : l.homes.items ≡ (planned l.nodes l.n).homes;
  parts : l.parts ≡ (planned l.nodes l.n).parts;
  few : l.parts < 2 ^ 31;
}
