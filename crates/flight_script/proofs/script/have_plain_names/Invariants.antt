use Rattle.std.proofs.Common.{◌≡◌}
use Rattle.std.specs.List.{list_all}
use Rattle.flight_syntax.specs.Names.{is_plain_name}
use Rattle.flight_script.specs.Entries.{entries}
use Rattle.flight_script.proofs.script.have_plain_names.Given as goal

abbrev pub invariant-loop-name : goal.invariant-loop-name
invariant-loop-name l = list_all (λ m. is_plain_name m.0) (entries l.name-iterator) ≡ list_all (λ m. is_plain_name m.0) (entries l.members.entries)
