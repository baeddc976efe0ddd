-- What a step of an actor comes to, and what it leaves.
use Rattle.std.specs.Prelude.{◌≡◌, ℕ, List}
use Rattle.pw_event.specs.declared.event.Event.{Event}
use Rattle.pw_world_model.specs.Answers.{FailsOnly, HasOnlyUnbuiltSteps, Pushes, ran}
use Rattle.pw_world_model.specs.Enabled.{HasEnabledStep}
use Rattle.pw_world_model.specs.Seen.{Seen}
use Rattle.pw_world_model.specs.declared.answers.Applied.{Applied}
use Rattle.pw_world_model.specs.declared.answers.Applied.TheVariants as applied
use Rattle.pw_world_model.specs.declared.task.Outcome.{Outcome}
use Rattle.pw_actor_queue.specs.declared.actor.Actor.{Actor}
use Rattle.pw_tmf.specs.declared.answer.DiscFault.{DiscFault}
use Rattle.pw_tmf.specs.declared.answer.DiscFault.TheVariants as fault

-- a refused push: only a fault of the disc leaves something
abbrev pub IsUnpushed : DiscFault → Seen → Seen → Type 0
IsUnpushed fault.Failed world new = FailsOnly world new
IsUnpushed fault.Memory world new = new ≡ world

-- a step of an actor that has been read
abbrev pub StepsTo : (ℕ → List ℕ) → Seen → Actor → Applied → Seen → Type 0
StepsTo members world actor applied.Done new =
    (HasEnabledStep world actor × (¬ HasOnlyUnbuiltSteps world actor)) × ((entry : Event) × Pushes members world new actor entry)
StepsTo members world actor applied.Held new = (¬ HasEnabledStep world actor) × (new ≡ world)
StepsTo members world actor applied.Unbuilt new = HasOnlyUnbuiltSteps world actor × (new ≡ world)
StepsTo members world actor applied.DiscFault new =
    (HasEnabledStep world actor × (¬ HasOnlyUnbuiltSteps world actor)) × FailsOnly world new
StepsTo members world actor applied.Memory new = new ≡ world
StepsTo members world actor _ new = ⊥

-- what an outcome that passes leaves, but for who is out
abbrev pub Advances : (ℕ → List ℕ) → Seen → Outcome → Applied → Seen → Type 0
Advances members world outcome applied.Done new =
    (entry : Event) × Pushes members (ran world outcome) new outcome.actor entry
Advances members world outcome applied.Held new = new ≡ ran world outcome
Advances members world outcome applied.DiscFault new = FailsOnly world new
Advances members world outcome _ new = new ≡ world
