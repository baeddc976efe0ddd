-- A sink over a writer.
use Rattle.std.specs.Prelude.{ℕ}

-- the writer, and how many of its writes failed
pub record WriterState (O : Type 0) : Type 0 where
  pub writer : O
  pub faults : ℕ
