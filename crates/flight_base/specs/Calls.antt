-- Calls that fail at given numbers, and what a source and a sink over memory are.
use Rattle.std.specs.Prelude.{ℕ, List, ◌++◌, drop, Contains, Bool, true, false}
use Rattle.flight_base.specs.Outside.{raised}

-- the numbers of the calls that fail, from 0, how many calls were made, and how many of them failed
pub record Calls : Type 0 where
  pub fails : List ℕ
  pub made : ℕ
  pub failed : ℕ

-- no call was made
abbrev pub unmade : List ℕ → Calls
unmade fails = record { fails = fails; made = 0; failed = 0 }

-- the next call is one that fails
abbrev pub FailsNext : Calls → Type 0
FailsNext calls = Contains calls.fails calls.made

-- after a call that did not fail
abbrev pub passed : Calls → Calls
passed calls = record calls { made = raised calls.made 1 }

-- after a call that failed
abbrev pub failed : Calls → Calls
failed calls = record calls { made = raised calls.made 1; failed = raised calls.failed 1 }

-- a source over memory: the bytes left, how many it gave, and at most how many it gives a call
pub record SourceState : Type 0 where
  pub left : List ℕ
  pub given : ℕ
  pub most : ℕ
  pub calls : Calls

-- after a read that gave so many bytes
abbrev pub after_read : SourceState → ℕ → SourceState
after_read source count =
    record source { left = drop count source.left; given = raised source.given count; calls = passed source.calls }

-- after a read that failed
abbrev pub after_failed_read : SourceState → SourceState
after_failed_read source = record source { calls = failed source.calls }

-- a sink over memory: the bytes held, at most how many it takes a call, and whether it is finished
pub record SinkState : Type 0 where
  pub held : List ℕ
  pub most : ℕ
  pub calls : Calls
  pub finished : Bool

-- after a write that took these bytes
abbrev pub after_write : SinkState → List ℕ → SinkState
after_write sink bytes = record sink { held = sink.held ++ bytes; calls = passed sink.calls; finished = false }

-- after a write that failed
abbrev pub after_failed_write : SinkState → SinkState
after_failed_write sink = record sink { calls = failed sink.calls }

-- after a write that found no memory
abbrev pub after_unheld_write : SinkState → SinkState
after_unheld_write sink = record sink { calls = passed sink.calls }

-- after it was finished
abbrev pub after_finish : SinkState → SinkState
after_finish sink = record sink { calls = passed sink.calls; finished = true }

-- after finishing it failed
abbrev pub after_failed_finish : SinkState → SinkState
after_failed_finish sink = record sink { calls = failed sink.calls; finished = false }
