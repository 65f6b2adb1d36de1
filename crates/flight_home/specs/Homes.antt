-- Where keys are at home.
use Rattle.std.specs.Prelude.{List}
use Rattle.flight_value.specs.declared.key.Key.{Key}
use Rattle.flight_text.specs.declared.mark.Ref.{Ref}
use Rattle.flight_value.specs.Listed.{In}

-- each key with its home, in the order in which they came
abbrev pub Homes : Type 0
Homes = List (Key × Ref)

-- a key has no home so far
abbrev pub IsNew : Key → Homes → Type 0
IsNew key homes = (home : Ref) → In (key, home) homes → ⊥
