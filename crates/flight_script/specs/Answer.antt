-- What a reader's answer says.
use Rattle.std.specs.Prelude.{Result, Ok, Err}
use Rattle.flight_script.specs.declared.unfit.Unfit.{Unfit}
use Rattle.flight_script.specs.declared.unfit.Unfit.TheVariants.{Form, Memory}

-- a value that fits, or that none does; want of memory says nothing
abbrev pub Answers : {A : Type 0} → (A → Type 0) → Result A Unfit → Type 0
Answers Fits (Ok value) = Fits value
Answers {A} Fits (Err Form) = (value : A) → ¬ Fits value
Answers Fits (Err Memory) = Unit {0}
