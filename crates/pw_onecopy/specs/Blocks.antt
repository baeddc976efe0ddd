-- The blocks of a serial order.
use Rattle.std.specs.Prelude.{ℕ}
use Rattle.pw_event.specs.declared.event.Ending.{Ending}

-- how an attempt of a unit is over
pub data AttemptEnding : Type 0 where
  -- its unit has ended, and its changes stay
  Committed : AttemptEnding
  -- its program dropped it: its unit has ended without effect
  Aborted : AttemptEnding
  -- its unit begins anew
  Restarted : AttemptEnding
  -- its unit has ended without effect, and its terminal ends
  Left : AttemptEnding

-- Out: one answer outside units. Attempted: an attempt of unit n of t with j answers. Done: an
-- ending.
pub data SerialBlock : Type 0 where
  Out : (t : ℕ) → SerialBlock
  Attempted : (t n : ℕ) (how : AttemptEnding) (j : ℕ) → SerialBlock
  Done : (t : ℕ) (ending : Ending) → SerialBlock
