-- A step of an actor that is no pair is what is to be found: only a pair's message can be not built.
use Rattle.std.proofs.Common.{◌≡◌, ℕ, Option, Some, None, refl, sym, ◌∙◌}
use Rattle.pw_code.specs.declared.system.System.{System}
use Rattle.pw_event.specs.declared.event.Event.{Event}
use Rattle.pw_event.specs.declared.event.Event.TheVariants.{Applied}
use Rattle.pw_world_state.specs.Entered.{tcp_of}
use Rattle.pw_world_state.specs.Kept.{Kept}
use Rattle.pw_actor_queue.specs.declared.actor.Actor.{Actor}
use Rattle.pw_actor_queue.specs.declared.actor.Actor.TheVariants.{Terminal, Process, Pair}
use Rattle.pw_entry_tests.specs.Actors.{actor_in}
use Rattle.pw_entry_tests.specs.Steps.{IsStepFound, IsStepOf, IsUnbuilt}

-- what is no value is none
pub none-if : {A : Type 0} (o : Option A) → ((x : A) → o ≡ Some x → ⊥) → o ≡ None
none-if None fails = refl
none-if (Some x) fails = absurd (fails x refl)

module _ (system : System) (kept : Kept) where
  unbuilt-of-pair : (entry : Event) → IsUnbuilt system kept entry → (p : ℕ) × (actor_in system entry ≡ Pair p)
  unbuilt-of-pair (Applied t) h = (tcp_of system t, refl)
  unbuilt-of-pair _ h = absurd h

  found : (actor : Actor) → ((p : ℕ) → actor ≡ Pair p → ⊥) → (entry : Event) → IsStepOf system kept actor entry
      → IsStepFound system kept actor (Some entry)
  found actor apart entry h = (
    h,
    λ unbuilt other step.
        let pair = unbuilt-of-pair entry unbuilt in
        absurd (apart pair.0 (sym h.own ∙ pair.1)),
  )

  pub found-of-terminal : (t : ℕ) (entry : Event) → IsStepOf system kept (Terminal t) entry → IsStepFound system kept (Terminal t) (Some entry)
  found-of-terminal t entry h = found (Terminal t) (λ p e. cc e) entry h

  pub found-of-process : (c i : ℕ) (entry : Event) → IsStepOf system kept (Process c i) entry
      → IsStepFound system kept (Process c i) (Some entry)
  found-of-process c i entry h = found (Process c i) (λ p e. cc e) entry h
