use Rattle.std.proofs.Common.{◌≡◌, map}
use Rattle.std.specs.List.{list_all}
use Rattle.flight_script.specs.Json.{is_among}
use Rattle.flight_script.specs.Entries.{entries}
use Rattle.flight_script.proofs.look.has_names_among.Given as goal

abbrev pub invariant-loop-name : goal.invariant-loop-name
invariant-loop-name l = list_all (λ m. is_among (map (λ n. n.now) l.names) m.0) (entries l.name-iterator) ≡ list_all (λ m. is_among (map (λ n. n.now) l.names) m.0) (entries l.members.entries)
