use Rattle.std.proofs.Common.{subst}
use Rattle.flight_value.specs.Listed.{In}
use Rattle.flight_value.specs.declared.key.Key.TheVariants as key
use Rattle.flight_emit.proofs.take.take_symbol.Goals as goal

pub put-requires : goal.put-requires
put-requires c = record { absent = λ home i. c.requires.absent home (subst (λ z. In (key.Symbol z, home) c.args.home.now) c.in_ok-again.ensures i) }
