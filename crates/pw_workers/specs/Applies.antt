-- What a worker leaves behind the lock that was done with something.
use Rattle.std.specs.Prelude.{◌≡◌, None}
use Rattle.pw_tmf.specs.Told.{Told}
use Rattle.pw_world.specs.States.{seen}
use Rattle.pw_world_state.specs.Members.{members_of}
use Rattle.pw_world_model.specs.Answers.{AnswersApply, LeavesApplied}
use Rattle.pw_world_model.specs.declared.answers.Applied.{Applied}
use Rattle.pw_world_model.specs.declared.answers.Applied.TheVariants as applied
use Rattle.pw_world_model.specs.declared.task.Outcome.{Outcome}
use Rattle.pw_workers.specs.Claims.{EndsRun}
use Rattle.pw_workers.specs.Locked.{Locked}
use Rattle.pw_workers.specs.Places.{AreAsked}

module _ {D : Type 0} (told : D → Told) where
  -- each free lane was asked, or the run has ended, for memory has run out
  pub record IsLent (old new : Locked D) : Type 0 where
    pub asked : new.end ≡ None → AreAsked (seen told old.world) old.lanes new.lanes
    pub rest : new ≡ record old { lanes = new.lanes; end = new.end }

  -- behind an answer of the world: lanes are lent to after an entry and where a pair waits for images alone; an outcome
  -- that makes no step changes nothing more; and any other answer ends the run
  abbrev pub GoesOnBehind : Applied → Locked D → Locked D → Type 0
  GoesOnBehind applied.Done old new = IsLent old new
  GoesOnBehind applied.Unbuilt old new = IsLent old new
  GoesOnBehind (applied.Stale carried found) old new = new ≡ old
  GoesOnBehind applied.Unrun old new = new ≡ old
  GoesOnBehind applied.Held old new = new ≡ old
  GoesOnBehind applied.Limit old new = EndsRun old new
  GoesOnBehind applied.DiscFault old new = EndsRun old new
  GoesOnBehind applied.Memory old new = EndsRun old new

  -- the outcome was applied to the world, as `apply` of it answers and leaves it, and the run goes on behind that answer
  pub record Applies (outcome : Outcome) (old new : Locked D) : Type 0 where
    pub answer : Applied
    pub answered : Locked D
    pub comes : AnswersApply (seen told old.world) outcome answer
    pub leaves : LeavesApplied (members_of old.world.keep.system) (seen told old.world) outcome answer (seen told answered.world)
    pub world_only : answered ≡ record old { world = answered.world }
    pub behind : GoesOnBehind answer answered new
