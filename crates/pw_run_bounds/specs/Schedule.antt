-- Runs in which a schedule asks one actor after the other.
use Rattle.std.specs.Prelude.{◌≡◌, ◌⊎◌, ℕ, ◌+◌, ◌≤◌, List, [], ◌∷◌, ◌++◌}
use Rattle.pw_event.specs.declared.event.Event.{Event}
use Rattle.pw_onecopy.specs.Behaviour.{Behaviour}
use Rattle.pw_paired.specs.Step.{Legal, after}
use Rattle.pw_laws.specs.serial.Actors.{StepActor, ActorSteps, actor_of}

-- which actor is asked at each number
abbrev pub AskingSchedule : Type 0
AskingSchedule = ℕ → StepActor

-- each actor is asked again and again
abbrev pub Fair : AskingSchedule → Type 0
Fair asked = (actor : StepActor) (k : ℕ) → (later : ℕ) × (k ≤ later) × (asked later ≡ actor)

-- the log goes on by a step of the actor
pub record LogGoesOn (sys : Behaviour) (actor : StepActor) (log next : List Event) : Type 0 where
  pub entry : Event
  pub own : actor_of sys entry ≡ actor
  pub legal : Legal sys (after sys log) entry
  pub more : next ≡ log ++ entry ∷ []

-- the log stays, since the actor has no step
pub record LogStays (sys : Behaviour) (actor : StepActor) (log next : List Event) : Type 0 where
  pub none : ¬ ActorSteps sys (after sys log) actor
  pub same : next ≡ log

-- the logs of a run by a schedule: it begins with the empty log, and an actor that is asked makes a
-- step where it has one
pub record IsRunBy (sys : Behaviour) (asked : AskingSchedule) (logs : ℕ → List Event) : Type 0 where
  pub begins : logs 0 ≡ []
  pub goes : (k : ℕ)
      → LogGoesOn sys (asked k) (logs k) (logs (k + 1)) ⊎ LogStays sys (asked k) (logs k) (logs (k + 1))
