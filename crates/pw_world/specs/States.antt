-- What contracts see of a world over a disc, and what its type keeps.
use Rattle.std.specs.Prelude.{ℕ, Bool, List}
use Rattle.pw_event.specs.declared.script.FailLine.{FailLine}
use Rattle.pw_world_store.specs.Keeps.{KeepState, kept_in}
use Rattle.pw_world.specs.Ledgers.{LedgerState, books_of}
use Rattle.pw_world_model.specs.Seen.{Seen}
use Rattle.pw_world_model.specs.Worlds.{IsWorld}
use Rattle.pw_actor_queue.specs.Places.{notes_in}
use Rattle.pw_tmf.specs.Told.{Told}

-- a world over a disc of this type
pub record WorldState (D : Type 0) : Type 0 where
  -- what is kept, and the disc as it was when the world was made
  pub keep : KeepState D
  pub first : D
  pub script : List FailLine
  pub limit : ℕ
  -- a fault of the disc was answered
  pub failed : Bool
  pub ledger : LedgerState

-- what contracts see of it, by what its disc tells
abbrev pub seen : {D : Type 0} → (D → Told) → WorldState D → Seen
seen told world = record {
  system = world.keep.system;
  script = world.script;
  log = world.ledger.log;
  limit = world.limit;
  kept = kept_in told world.keep;
  faults = (told world.first).faults;
  failed = world.failed;
  out = λ actor. (notes_in world.ledger.notes actor).out;
}

-- its log is a run, and what it keeps stands for the state after it
abbrev pub IsMonitor : {D : Type 0} → (D → Told) → WorldState D → Type 0
IsMonitor told world = IsWorld (seen told world) (books_of world.ledger)
