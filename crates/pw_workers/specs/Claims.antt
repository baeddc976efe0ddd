-- What a worker is given to do, and when another one is called.
use Rattle.std.specs.Prelude.{◌≡◌, ◌⊎◌, Bool, true, false, Option, Some, None, IsSome, Ok, position}
use Rattle.pw_tmf.specs.Told.{Told}
use Rattle.pw_world.specs.States.{seen}
use Rattle.pw_world_model.specs.Answers.{Claims}
use Rattle.pw_world_model.specs.declared.answers.Claim.TheVariants as claim
use Rattle.pw_world_model.specs.declared.task.Task.{Task}
use Rattle.pw_workers.specs.Calls.{IsCallWorth, called}
use Rattle.pw_workers.specs.Locked.{Locked}
use Rattle.pw_workers.specs.Places.{IsTakenFirst, waits_at}
use Rattle.pw_workers.specs.declared.calls.WorkerCall.{WorkerCall}
use Rattle.pw_workers.specs.declared.calls.WorkerCall.TheVariants.{All, Nobody, One}
use Rattle.pw_workers.specs.declared.turn.WorkerTurn.{WorkerTurn}
use Rattle.pw_workers.specs.declared.turn.WorkerTurn.TheVariants.{Build, Run, Wait, Stop}

-- the run has ended now, and nothing else has changed
pub record EndsRun {D : Type 0} (old new : Locked D) : Type 0 where
  pub ends : IsSome new.end
  pub rest : new ≡ record old { end = new.end }

module _ {D : Type 0} (told : D → Told) where
  -- The world was asked for a task, and this is the one that it claims; or there is none, while each actor that may work is
  -- out; or the world stays and the run has ended, for its log is finished or memory has run out.
  abbrev pub IsClaimed : Locked D → WorkerTurn → Locked D → Type 0
  IsClaimed old (Run task) new =
      Claims (seen told old.world) (Ok (claim.Work task)) (seen told new.world) × (new ≡ record old { world = new.world })
  IsClaimed old Wait new =
      Claims (seen told old.world) (Ok claim.Idle) (seen told new.world) × (new ≡ record old { world = new.world })
  IsClaimed old Stop new =
      (seen told new.world ≡ seen told old.world) × EndsRun (record old { world = new.world }) new
  IsClaimed old (Build tcp lane) new = ⊥

  -- the task that stands ready, and where there is none, what the world has to be done
  abbrev pub IsReadyOrClaimed : Option Task → Locked D → WorkerTurn → Locked D → Type 0
  IsReadyOrClaimed (Some task) old turn new = (turn ≡ Run task) × (new ≡ record old { ready = None })
  IsReadyOrClaimed None old turn new = IsClaimed old turn new

  -- what is next while the run goes on: the first lane on which a task waits, and where there is none, the rest
  abbrev pub IsNextTurn : Locked D → WorkerTurn → Locked D → Type 0
  IsNextTurn old (Build tcp lane) new =
      IsTakenFirst old.lanes new.lanes tcp lane × (new ≡ record old { lanes = new.lanes })
  IsNextTurn old turn new = (position waits_at old.lanes ≡ None) × IsReadyOrClaimed old.ready old turn new

  -- ---- another worker

  -- a task was claimed, and stands ready for whoever comes next
  pub record IsReadied (old new : Locked D) : Type 0 where
    pub task : Task
    pub claimed : Locked D
    pub claims : IsClaimed old (Run task) claimed
    pub ready : new ≡ record claimed { ready = Some task }

  -- whether a task stands ready: one that did, or one that was claimed
  abbrev pub HasReady : Locked D → Bool → Locked D → Type 0
  HasReady old true new = (IsSome old.ready × (new ≡ old)) ⊎ ((old.ready ≡ None) × IsReadied old new)
  HasReady old false new = (old.ready ≡ None) × (IsClaimed old Wait new ⊎ IsClaimed old Stop new)

  -- whether there is more to do: an image to build, or a task, which stands ready then
  abbrev pub HasMore : Locked D → Bool → Locked D → Type 0
  HasMore old more new =
      (IsSome (position waits_at old.lanes) × ((more ≡ true) × (new ≡ old)))
      ⊎ ((position waits_at old.lanes ≡ None) × HasReady old more new)

  -- another is called exactly where the run goes on, a call is worth it and there is more to do
  abbrev pub CallsAnother : Locked D → Bool → Locked D → Type 0
  CallsAnother old true new =
      (old.end ≡ None) × (IsCallWorth old.calls
      × ((with_more : Locked D) × (HasMore old true with_more × (new ≡ record with_more { calls = called with_more.calls }))))
  CallsAnother old false new =
      ((IsSome old.end ⊎ (¬ IsCallWorth old.calls)) × (new ≡ old)) ⊎ ((old.end ≡ None) × HasMore old false new)

  -- behind a worker's turn all are called where the run has ended, and another one where the worker goes on and there is
  -- more to do
  abbrev pub CallsBehind : WorkerTurn → Locked D → WorkerCall → Locked D → Type 0
  CallsBehind Stop old call new = (call ≡ All) × (new ≡ old)
  CallsBehind Wait old call new = (call ≡ Nobody) × (new ≡ old)
  CallsBehind _ old All new = ⊥
  CallsBehind _ old One new = CallsAnother old true new
  CallsBehind _ old Nobody new = CallsAnother old false new
