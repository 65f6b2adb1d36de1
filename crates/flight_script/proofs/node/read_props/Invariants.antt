use Rattle.flight_script.specs.Entries.{entries}
use Rattle.flight_script.specs.Slots.{IsProp}
use Rattle.flight_script.proofs.Built.{Built}
use Rattle.flight_script.proofs.node.read_props.Given as goal

abbrev pub invariant-loop-name : goal.invariant-loop-name
invariant-loop-name l = Built (IsProp l.count) (entries l.members.entries) (entries l.name-iterator) l.props.items
