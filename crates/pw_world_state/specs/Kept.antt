-- What a monitor keeps of a running system: contexts, image bytes and tables.
use Rattle.std.specs.Prelude.{ℕ, Option}
use Rattle.pw_class.specs.Queue.{Queue}
use Rattle.pw_code.specs.declared.context.Context.{Context}
use Rattle.pw_event.specs.declared.event.Cause.{Cause}
use Rattle.pw_event.specs.declared.event.Ending.{Ending}
use Rattle.pw_pair.specs.Pairs.{SeenPair}
use Rattle.pw_paired.specs.State.{Awaited}
use Rattle.pw_tmf.specs.Told.{Told}

-- what is kept of a terminal
pub record KeptTerminal : Type 0 where
  -- the context of its path at the last answer, none where the path is gone
  pub context : Option Context
  -- the same at its next verb, where it has run on to that
  pub ready : Option Context
  -- the context of the start path of the attempt that runs, if one does, at its last answer
  pub start : Option Context
  -- the recorded restarts of its open unit, and the unit that this one awaits
  pub restarts : ℕ
  pub awaits : Option Awaited
  -- the cause that is pending for it, and its ending
  pub pending : Option Cause
  pub ending : Option Ending

-- what is kept of the whole system
pub record Kept : Type 0 where
  pub terminals : ℕ → KeptTerminal
  -- what the disc tells: files, locks and units
  pub disc : Told
  -- the book of each class, and the context of the server in each process, if it is busy
  pub queues : ℕ → Queue
  pub jobs : ℕ → ℕ → Option Context
  -- each pair: its mode, and what its backup holds and is sent
  pub pairs : ℕ → SeenPair
  -- how many units have begun
  pub births : ℕ
