use Rattle.std.proofs.Common.{◌≡◌, map, take}
use Rattle.flight_parse.specs.Code.{placed}
use Rattle.flight_resolve.proofs.body.with_local.Given as goal

abbrev pub invariant-loop-local : goal.invariant-loop-local
invariant-loop-local l = record {
  bytes : map (λ n. n.now.bytes) l.more.items ≡ map (λ n. n.now.bytes) (take l.local-index l.locals);
  placed_ones : map (λ n. placed n.now) l.more.items ≡ map (λ n. placed n.now) (take l.local-index l.locals);
}
