-- A run that has stopped at a fault of its disc.
use Rattle.std.proofs.Common.{◌≡◌, ℕ, List, None, refl, subst, sym}
use Rattle.pw_code.specs.declared.system.System.{System}
use Rattle.pw_event.specs.declared.script.FailLine.{FailLine}
use Rattle.pw_code_meaning.specs.OfSystem.{behaviour}
use Rattle.pw_deck_runs.proofs.Left.{failed, left-is}
use Rattle.pw_deck_runs.specs.ReportedRuns.{StopsAtFault}
use Rattle.pw_deck_runs.specs.WrittenRuns.{Writing}
use Rattle.pw_tmf.specs.Told.{Told}
use Rattle.pw_workers.specs.Over.{LeavesWorld}
use Rattle.pw_workers.specs.declared.over.RunEnding.TheVariants as come
use Rattle.pw_world.specs.States.{WorldState, seen}
use Rattle.pw_world_model.specs.Worlds.{Books, IsDiscOf, IsWorld}

-- a sink to which nothing is written
abbrev no-writing : Writing
no-writing = record { before = None; now = None; faults = 0; faults_then = 0 }

-- the disc of the world that it leaves has counted the fault
pub stops : {D : Type 0} (told : D → Told) (system : System) (script : List FailLine) (events : ℕ) (disc : D)
    → IsDiscOf system script (told disc) → (world : WorldState D) (books : Books) → IsWorld (seen told world) books
    → LeavesWorld told system script events disc (come.Failed world) → (left : D) → left ≡ world.keep.disc
    → StopsAtFault (behaviour script system) events (told disc) (told left)
stops {D} told system script events disc of world books is leaves left left_is =
    let has = failed system script events (told disc) (seen told world) leaves.0 no-writing leaves.1.0 leaves.1.1
    (record { text = refl; count = refl }) in
    let own : StopsAtFault (behaviour script system) events (told disc) (told world.keep.disc) = record {
      rose = has.rose;
      log = (seen told world).log;
      left_is = left-is system script events (told disc) (seen told world) leaves.0 books of is;
      unfinished = has.unfinished;
      short = has.short;
    } in
    subst (λ (d : D). StopsAtFault (behaviour script system) events (told disc) (told d)) (sym left_is) own
