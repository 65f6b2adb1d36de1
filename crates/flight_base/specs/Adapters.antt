-- A source over a reader and a sink over a writer.
use Rattle.std.specs.Prelude.{ℕ, Bool}

-- a reader, how many bytes it gave, and how often it failed
pub record ReaderState (R : Type 0) : Type 0 where
  pub reader : R
  pub given : ℕ
  pub failed : ℕ

-- a writer, how often it failed, and whether it was flushed since the last write
pub record WriterState (W : Type 0) : Type 0 where
  pub writer : W
  pub failed : ℕ
  pub finished : Bool
