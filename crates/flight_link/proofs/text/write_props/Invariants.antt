use Rattle.std.proofs.Common.{◌≡◌, ◌++◌, take}
use Rattle.flight_link.specs.Drafted.{commas_parts, prop_parts, with_names}
use Rattle.flight_link.proofs.text.write_props.Given as goal

abbrev pub invariant-loop-at : goal.invariant-loop-at
invariant-loop-at l = l.out ≡ l.initial.out ++ commas_parts prop_parts (with_names (take l.at l.named) (take l.at l.targets))
