-- Where the body of a job is evaluated.
use Rattle.std.specs.Prelude.{ℕ, ◌≡◌, List, []}
use Rattle.flight_render.specs.Bodies.{inner}
use Rattle.flight_render.specs.declared.job.What.{What}
use Rattle.flight_render.specs.declared.job.What.TheVariants as what

-- the root at the empty address, and a server element at its own
abbrev pub IsAddressOf : What → List ℕ → Type 0
IsAddressOf what.Root address = address ≡ []
IsAddressOf (what.Element element tables) address = address ≡ inner element
IsAddressOf w address = Unit {0}
