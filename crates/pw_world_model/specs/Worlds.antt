-- A new world, and what the type of a world keeps.
use Rattle.std.specs.Prelude.{◌≡◌, ◌+◌, ◌-◌, ◌^◌, ℕ, zero, suc, ◌<◌, ◌≤◌, All, Bool, true, false, IsSome, List, [], length, map, min, None, if◌then◌else◌}
use Rattle.pw_base.specs.Outside.{Rose}
use Rattle.pw_code.specs.Limits.{most_log_lines}
use Rattle.pw_code.specs.Valid.{IsValid}
use Rattle.pw_code.specs.declared.system.System.{System}
use Rattle.pw_event.specs.declared.script.FailLine.{FailLine}
use Rattle.pw_code_meaning.specs.OfSystem.{behaviour}
use Rattle.pw_world_state.specs.May.{IsLineThere}
use Rattle.pw_world_state.specs.Stands.{Stands}
use Rattle.pw_world_state.specs.TerminalTests.{is_out}
use Rattle.pw_world_model.specs.Actors.{IsActor}
use Rattle.pw_world_state.specs.Members.{members_of}
use Rattle.pw_world_model.specs.Commits.{commits_in}
use Rattle.pw_world_model.specs.Dues.{DueBook, IsBookOf}
use Rattle.pw_world_model.specs.Enabled.{MayWork}
use Rattle.pw_world_model.specs.OneSends.{one_sends}
use Rattle.pw_world_model.specs.Seen.{Seen, state_of, sys_of}
use Rattle.pw_world_model.specs.Stamps.{IsStamp}
use Rattle.pw_actor_queue.specs.declared.actor.Actor.{Actor}
use Rattle.pw_onecopy.specs.IsBehaviour.{IsBehaviour}
use Rattle.pw_onecopy.specs.declared.refresh.Refresh.{Refresh}
use Rattle.pw_paired.specs.Shown.{refreshes}
use Rattle.pw_paired.specs.State.{State, starting}
use Rattle.pw_paired.specs.Step.{IsRun, is_going_on}
use Rattle.pw_tmf.specs.Tells.{Tells}
use Rattle.pw_tmf.specs.Told.{Told}

-- ---- before the first entry

-- the disc is one of the system: it has its terminals, files and rule, no unit is open there, and none has ended or committed
pub record IsDiscOf (system : System) (script : List FailLine) (disc : Told) : Type 0 where
  pub terminals : disc.terminals ≡ length system.terminals
  pub files : disc.file_count ≡ length system.files
  pub commits : disc.commits ≡ 0
  pub starts : Tells (behaviour script system) (starting (behaviour script system)) disc

-- a world of this system, script, disc and limit in which nothing has happened: no actor is out, and every context
-- stands at an answer
pub record IsNew (system : System) (script : List FailLine) (disc : Told) (limit : ℕ) (world : Seen) : Type 0 where
  pub system_is : world.system ≡ system
  pub script_is : world.script ≡ script
  pub limit_is : world.limit ≡ limit
  pub empty : world.log ≡ []
  pub disc_is : world.kept.disc ≡ disc
  pub count : world.faults ≡ disc.faults
  pub sound : world.failed ≡ false
  pub inside : (actor : Actor) → world.out actor ≡ false
  pub unread : (t : ℕ) → (world.kept.terminals t).ready ≡ None

-- ---- always

-- what a world keeps beside what contracts see
pub record Books : Type 0 where
  -- the refreshes that the log's entries made, and for each entry whether it is the BEGIN of one SEND
  pub refreshes : List Refresh
  pub one_sends : List Bool
  -- the failure lines that wait, and the counts by which they are due
  pub due : DueBook
  -- how many terminals are live
  pub live : ℕ
  -- when the state of each actor last changed, and which actors are looked at for work
  pub stamps : Actor → ℕ
  pub marked : Actor → Bool

-- how many of so many terminals have no ending
abbrev pub live_below : ℕ → State → ℕ
live_below zero state = 0
live_below (suc n) state = if is_going_on state n then live_below n state + 1 else live_below n state

-- what a world keeps beside its log is of the log
pub record AreBooksOf (world : Seen) (books : Books) : Type 0 where
  pub refreshes : books.refreshes ≡ refreshes (sys_of world) world.log
  pub one_sends : books.one_sends ≡ one_sends (sys_of world) world.log
  pub due : IsBookOf (length world.system.tcps) (length world.system.classes) (sys_of world).pair_of world.script
      world.log books.due
  pub live : books.live ≡ live_below (length world.system.terminals) (state_of world)
  pub stamps : (actor : Actor) → IsActor world.system actor
      → IsStamp (sys_of world) world.log actor (books.stamps actor)
  -- who is not marked has no work
  pub marked : (actor : Actor) → IsActor world.system actor → MayWork world actor → books.marked actor ≡ true

-- The log of a world is a run of its system's behaviour, and what it keeps stands for the state after it.
pub record IsWorld (world : Seen) (beside : Books) : Type 0 where
  pub valid : IsValid world.system
  pub deck : IsBehaviour (sys_of world)
  pub run : IsRun (sys_of world) world.log
  pub room : length world.log ≤ world.limit
  pub few : world.limit ≤ most_log_lines
  pub stands : Stands world.system world.script (state_of world) world.kept
  -- each pair has the system's terminals of it, in order
  pub members : (p : ℕ) → p < length world.system.tcps
      → map (λ seat. seat.terminal) (world.kept.pairs p).seats ≡ members_of world.system p
  pub terminals : world.kept.disc.terminals ≡ length world.system.terminals
  pub files : world.kept.disc.file_count ≡ length world.system.files
  -- the disc has counted the units that commit in the log
  pub commits : world.kept.disc.commits ≡ commits_in (sys_of world) world.log
  -- the failure lines name what is there, and their numbers fit
  pub lines : All (IsLineThere world.system) world.script
  pub few_lines : length world.script < 2 ^ 32 - 1
  -- a terminal whose request is out stands at its verb
  pub asking : (t : ℕ) → t < length world.system.terminals → is_out world.system world.kept t ≡ true
      → IsSome (world.kept.terminals t).ready
  -- a fault was answered only where the disc's count has risen since `new`, as far as its type goes
  pub count : min world.faults (2 ^ 64 - 1) ≤ world.kept.disc.faults
  pub failed : world.failed ≡ true → Rose world.faults world.kept.disc.faults
  pub books : AreBooksOf world beside
