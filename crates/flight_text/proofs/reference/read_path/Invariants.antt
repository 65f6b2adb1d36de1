use Rattle.std.proofs.Common.{◌≡◌, ◌∷◌, ◌++◌, All, length}
use denote.Text.{Utf8}
use denote.Shadow.{shadow}
use Rattle.flight_text.specs.Reference.{IsName, path_text}
use Rattle.flight_text.proofs.reference.read_path.Given as goal

abbrev pub invariant-loop-name : goal.invariant-loop-name
invariant-loop-name l = shadow (Utf8 l.path) × (path_text l.names.items ++ 58 ∷ l.path ≡ 58 ∷ l.fn.path) × All IsName l.names.items

abbrev pub decreases-loop-name : goal.decreases-loop-name
decreases-loop-name l = length l.path
