-- The statuses.
use Rattle.std.specs.Prelude.{ℕ, Bool, true, false}
use Rattle.flight_top.specs.declared.told.Status.{Status}
use Rattle.flight_top.specs.declared.told.Status.TheVariants as status

-- the exit code
abbrev pub code_of : Status → ℕ
code_of status.Done = 0
code_of status.Usage = 1
code_of status.Bundle = 2
code_of status.Stream = 3
code_of status.Fuel = 4
code_of status.Stalled = 5
code_of status.Read = 6
code_of status.Write = 7
code_of status.Memory = 8

-- a status with which all that was due is printed
abbrev pub is_whole : Status → Bool
is_whole status.Read = false
is_whole status.Write = false
is_whole status.Memory = false
is_whole s = true
