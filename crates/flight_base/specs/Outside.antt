-- What sources and sinks promise: counts that only rise, bytes that come in, bytes that go out.
use Rattle.std.specs.Prelude.{ℕ, ◌+◌, ◌-◌, ◌^◌, ◌<◌, ◌≤◌, ◌≡◌, min, List, ◌++◌, length, take, Option, Some, None, option_map, Result, Err, OnErr}
use Rattle.flight_base.specs.declared.outside.Unwritten.{Unwritten}

-- a count after so many more; it goes no further than 2^64 - 1
abbrev pub raised : ℕ → ℕ → ℕ
raised count more = count + min more (2 ^ 64 - 1 - count)

-- a count is greater than before, or stands at its end
abbrev pub Rose : ℕ → ℕ → Type 0
Rose before now = raised before 1 ≤ now

-- a count of faults does not fall, and a failure comes only where it rose
pub record HasCause {T E : Type 0} (before now : ℕ) (result : Result T E) : Type 0 where
  pub later : before ≤ now
  pub failed : OnErr result (Rose before now)

-- a write fails only where the count of faults rose, or for want of memory
abbrev pub FailsOnlyIfRose : ℕ → ℕ → Result ℕ Unwritten → Type 0
FailsOnlyIfRose before now (Err Unwritten.Failed) = Rose before now
FailsOnlyIfRose before now r = Unit {0}

-- the bytes that came are the first of those that were left;
-- a source tells its bytes before and after, or never
abbrev pub Takes : Option (List ℕ) → Option (List ℕ) → List ℕ → Type 0
Takes None None came = Unit {0}
Takes None (Some rest) came = ⊥
Takes (Some left) None came = ⊥
Takes (Some left) (Some rest) came = left ≡ came ++ rest

-- where a source tells what is left, it is these bytes
abbrev pub IsAll : Option (List ℕ) → List ℕ → Type 0
IsAll None bytes = Unit {0}
IsAll (Some left) bytes = bytes ≡ left

-- where a source tells what is left, it is more than that many bytes
abbrev pub IsMore : ℕ → Option (List ℕ) → Type 0
IsMore limit None = Unit {0}
IsMore limit (Some left) = limit < length left

-- some bytes came: the first of those that were left, each counted
pub record TookFront (left rest : Option (List ℕ)) (met now : ℕ) : Type 0 where
  pub came : List ℕ
  pub front : Takes left rest came
  pub counted : now ≡ raised met (length came)

-- what a sink holds after these bytes, where it tells
abbrev pub appended : Option (List ℕ) → List ℕ → Option (List ℕ)
appended held bytes = option_map (λ h. h ++ bytes) held

-- a front of the bytes went out, and not all of them
pub record WentOut (old new : Option (List ℕ)) (bytes : List ℕ) : Type 0 where
  pub count : ℕ
  pub within : count < length bytes
  pub held : new ≡ appended old (take count bytes)
