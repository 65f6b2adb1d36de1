use Rattle.std.proofs.Common.{◌≡◌, ◌++◌, take, string_bytes}
use Rattle.flight_text.specs.Hex.{hex_of}
use Rattle.flight_text.specs.Reference.{path_text}
use Rattle.flight_text.proofs.spell.with_place.Given as goal

abbrev pub invariant-loop-name : goal.invariant-loop-name
invariant-loop-name l = string_bytes l.out ≡ l.sign ++ (hex_of l.place.id ++ path_text (take l.name-index l.place.path))
