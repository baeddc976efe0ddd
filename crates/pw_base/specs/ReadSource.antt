-- A source over a reader.
use Rattle.std.specs.Prelude.{ℕ}

-- the reader, and how many of its reads failed
pub record ReaderState (I : Type 0) : Type 0 where
  pub reader : I
  pub faults : ℕ
