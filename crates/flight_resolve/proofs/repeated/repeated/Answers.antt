use Rattle.std.proofs.Common.{◌≡◌, ◌++◌, ◌∷◌, [], map, take, drop, codes, bytes_eq, refl, sym, ap, subst, ◌∙◌, arith, rules, if◌then◌else◌}
use Rattle.flight_syntax.specs.Faults as faults
use Rattle.flight_parse.specs.Code.{placed, tree_of, property_of, entry_of}
use Rattle.flight_resolve.specs.Seen.{HasSeen}
use Rattle.flight_resolve.proofs.Firsts.{before, seen_steps, repeated_steps}
use Rattle.flight_resolve.proofs.repeated.repeated.Goals as goal

pub loop-name-preserved : goal.loop-name-preserved
loop-name-preserved c = record {
  seen = seen_steps (λ n. placed n.now) c.args.names.now c.loop-name.name-index c.name-item.result (omega arith) c.name-item.is (HasSeen c.met.new.seen)
      (c.in_ok-fault.ensures.seen (before (λ n. placed n.now) c.args.names.now c.loop-name.name-index) c.loop-name.invariant.seen);
  left = repeated_steps (λ n. placed n.now) c.args.names.now c.loop-name.name-index c.name-item.result (omega arith) c.name-item.is c.loop-name.first c.first_of-first.result c.in_ok-fault.fault
      (faults.first_fault (faults.repeated [] (map (λ n. placed n.now) c.args.names.now))) c.loop-name.invariant.left
      (c.in_ok-fault.ensures.fault (before (λ n. placed n.now) c.args.names.now c.loop-name.name-index) c.loop-name.invariant.seen) c.first_of-first.ensures.is;
}
