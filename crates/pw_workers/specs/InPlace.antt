-- What a worker leaves behind a turn in place: an image is built and filed, or a task is claimed, run on and applied, and nobody
-- else may change anything meanwhile.
use Rattle.std.specs.Prelude.{◌≡◌, ◌⊎◌, ℕ, zero, suc, Bool, None, Some, length, position, slice_set}
use Rattle.pw_pair.specs.SeenTask.{SeenDone}
use Rattle.pw_tmf.specs.Told.{Told}
use Rattle.pw_world.specs.States.{seen}
use Rattle.pw_world_state.specs.Members.{members_of}
use Rattle.pw_world_model.specs.Calls.{BuildsHere, GivesBack}
use Rattle.pw_world_model.specs.Seen.{Seen}
use Rattle.pw_world_model.specs.Working.{Works}
use Rattle.pw_world_model.specs.declared.answers.Applied.{Applied}
use Rattle.pw_world_model.specs.declared.answers.Applied.TheVariants as applied
use Rattle.pw_world_model.specs.declared.answers.Worked.{Worked}
use Rattle.pw_world_model.specs.declared.answers.Worked.TheVariants as worked
use Rattle.pw_workers.specs.Claims.{EndsRun}
use Rattle.pw_workers.specs.Lanes.{waiting_in}
use Rattle.pw_workers.specs.Locked.{Locked}
use Rattle.pw_workers.specs.Places.{IsTakenFirst, waits_at}
use Rattle.pw_workers.specs.declared.lane.LinkLane.{LinkLane}

-- the first pairs, so many, were asked in order, and of each the first image that waited was built in its place
abbrev pub BuildsEach : ℕ → Seen → Seen → Type 0
BuildsEach zero world new = new ≡ world
BuildsEach (suc p) world new =
    (before : Seen) × (BuildsEach p world before × ((any : Bool) × BuildsHere before p any new))

module _ {D : Type 0} (told : D → Told) where
  -- each pair was asked; or memory ran out at one, and the run has ended
  pub record BuildsWaiting (old new : Locked D) : Type 0 where
    pub pairs : ℕ
    pub asked : Locked D
    pub builds : BuildsEach pairs (seen told old.world) (seen told asked.world)
    pub world_only : asked ≡ record old { world = asked.world }
    pub ends : ((pairs ≡ length old.world.keep.system.tcps) × (new ≡ asked)) ⊎ EndsRun asked new

  -- behind what was applied in place: images are built after an entry and where a pair waits for images alone; an outcome
  -- that makes no step changes nothing more; and any other answer ends the run
  abbrev pub GoesOnInPlace : Applied → Locked D → Locked D → Type 0
  GoesOnInPlace applied.Done old new = BuildsWaiting old new
  GoesOnInPlace applied.Unbuilt old new = BuildsWaiting old new
  GoesOnInPlace (applied.Stale carried found) old new = new ≡ old
  GoesOnInPlace applied.Unrun old new = new ≡ old
  GoesOnInPlace applied.Held old new = new ≡ old
  GoesOnInPlace applied.Limit old new = EndsRun old new
  GoesOnInPlace applied.DiscFault old new = EndsRun old new
  GoesOnInPlace applied.Memory old new = EndsRun old new

  -- behind an answer of `work`: as behind what was applied; where nobody may work nothing changes; and else the run ends
  abbrev pub GoesOnWorked : Worked → Locked D → Locked D → Type 0
  GoesOnWorked (worked.Applied answer) old new = GoesOnInPlace answer old new
  GoesOnWorked worked.Idle old new = new ≡ old
  GoesOnWorked _ old new = EndsRun old new

  -- the world has worked, as `work` of it answers and leaves it, and the run goes on behind that answer
  pub record WorksInPlace (old new : Locked D) : Type 0 where
    pub answer : Worked
    pub answered : Locked D
    pub works : Works (members_of old.world.keep.system) (seen told old.world) answer (seen told answered.world)
    pub world_only : answered ≡ record old { world = answered.world }
    pub behind : GoesOnWorked answer answered new

  -- the image of the task that waited on a lane was filed, and the lane is free and back in its place
  pub record IsFiled (tcp : ℕ) (lane : LinkLane) (old new : Locked D) : Type 0 where
    pub done : SeenDone
    pub task : waiting_in lane.waiting ≡ Some done.task
    pub filed : Bool
    pub gives : GivesBack (seen told old.world) done filed (seen told new.world)
    pub free : LinkLane
    pub is_free : free.waiting ≡ None
    pub rest : new ≡ record old { world = new.world; lanes = slice_set old.lanes tcp (Some free) }

  -- so it was, or memory has run out and the run has ended
  abbrev pub BuildsInPlace : ℕ → LinkLane → Locked D → Locked D → Type 0
  BuildsInPlace tcp lane old new = IsFiled tcp lane old new ⊎ EndsRun old new

  -- the first lane on which a task waits was taken, and its image was built
  pub record BuildsFirst (old new : Locked D) : Type 0 where
    pub tcp : ℕ
    pub lane : LinkLane
    pub taken : Locked D
    pub first : IsTakenFirst old.lanes taken.lanes tcp lane
    pub lanes_only : taken ≡ record old { lanes = taken.lanes }
    pub builds : BuildsInPlace tcp lane taken new

  -- a turn in place: the first image that waits is built, and where none does, the world works
  abbrev pub IsTurnInPlace : Locked D → Locked D → Type 0
  IsTurnInPlace old new = BuildsFirst old new ⊎ ((position waits_at old.lanes ≡ None) × WorksInPlace old new)

  -- so many turns in place, one behind the other
  abbrev pub AreTurnsInPlace : ℕ → Locked D → Locked D → Type 0
  AreTurnsInPlace zero old new = new ≡ old
  AreTurnsInPlace (suc turns) old new =
      (before : Locked D) × (AreTurnsInPlace turns old before × IsTurnInPlace before new)
