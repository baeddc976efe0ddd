-- What the tests of entries take of what is kept.
use Rattle.std.proofs.Common.{◌≡◌, ℕ, ◌<◌, length, Some, true, ⊎_elim}
use Rattle.std.proofs.lemmas.Bool.{cases_lt}
use Rattle.pw_class.specs.Queue.{at_process}
use Rattle.pw_class.specs.declared.request.Request.{Request}
use Rattle.pw_code.specs.declared.context.Context.{Context}
use Rattle.pw_code.specs.declared.file.FileCall.{FileCall}
use Rattle.pw_code.specs.declared.verb.Verb.TheVariants as verb
use Rattle.pw_world_state.specs.Asked.{verb_in}
use Rattle.pw_world_state.specs.Changes.{unit_at}
use Rattle.pw_world_state.proofs.Agreeing.{there-is}
use Rattle.pw_world_state.proofs.NextSteps.{may-step-at}
use Rattle.pw_machine.specs.Stack.{HasRoom}
use Rattle.pw_world_model.specs.Actors.{IsActor}
use Rattle.pw_world_model.specs.Seen.{Seen}
use Rattle.pw_world_model.specs.Worlds.{Books, IsWorld}
use Rattle.pw_world_model.proofs.OfUnits as units
use Rattle.pw_world_model.proofs.Rooms as rooms
use Rattle.pw_paired.specs.State.{Awaited}
use Rattle.pw_actor_queue.specs.declared.actor.Actor.{Actor}
use Rattle.pw_actor_queue.specs.declared.actor.Actor.TheVariants.{Terminal, Process, Pair, Class}
use Rattle.pw_entry_tests.specs.Known.{IsFewCounted, IsKnown, IsNextKnown}
use Rattle.pw_tmf.specs.Operation.{IsCall}
use Rattle.pw_tmf.specs.Units.{IsRunning}
use Rattle.pw_world.proofs.Testing.{closed}
use Rattle.pw_world.specs.Bare.{IsBare}
use Rattle.pw_world.specs.OwnValues.{HasOwnValues}

module _ (world : Seen) (books : Books) (w : IsWorld world books) (bare : IsBare world.system world.kept) where
  few : (context : Context) → HasRoom context → IsFewCounted context
  few context room = record { shown = room.shown; entries = room.entries; units = room.units }

  awaits : (t : ℕ) (awaited : Awaited) → (world.kept.terminals t).awaits ≡ Some awaited → awaited.terminal < length world.system.terminals
  awaits t awaited is = ⊎_elim (λ low. units.awaits world books w t awaited low is) (λ past. let none = bare.awaits t past in absurd (cc (none, is))) (cases_lt t (length world.system.terminals))

  works : (c i : ℕ) (request : Request) → at_process (world.kept.queues c) i ≡ Some request → IsRunning world.kept.disc (unit_at world.kept request.terminal request.unit)
  works c i request is = ⊎_elim (λ low. units.works world books w c i request low is) (λ past. let none = bare.busy c i past in absurd (cc (none, is))) (cases_lt c (length world.system.classes))

  calls : (c i : ℕ) (context : Context) (call : FileCall) → world.kept.jobs c i ≡ Some context → context.at_verb ≡ true → verb_in world.system context ≡ verb.File call → IsCall world.kept.disc call
  calls c i context call is at_verb asks =
      ⊎_elim (λ low. units.calls world books w c i context call low is at_verb asks) (λ past. let none = bare.jobs c i past in absurd (cc (none, is))) (cases_lt c (length world.system.classes))

  counts : (t : ℕ) (context : Context) → (world.kept.terminals t).ready ≡ Some context → IsFewCounted context
  counts t context is = ⊎_elim
      (λ low. let found = there-is world.system.terminals t low in few context (rooms.ready world books w t found.0 context found.1 is).1)
      (λ past. let none = bare.ready t past in absurd (cc (none, is))) (cases_lt t (length world.system.terminals))

  pub is-known : IsKnown world.system world.kept
  is-known = record {
    valid = w.valid;
    sizes = w.terminals;
    rule = w.stands.disc.rule;
    started = units.started world books w;
    awaits = awaits;
    locks = units.locks world books w;
    works = works;
    calls = calls;
    counts = counts;
  }

-- what the next step of an actor takes of what is kept
pub next-known : (world : Seen) (books : Books) → IsWorld world books → (actor : Actor) → IsActor world.system actor → HasOwnValues world.kept actor
    → IsNextKnown world.system world.kept actor
next-known world books w (Terminal t) low values =
    λ context is.
    may-step-at world.system world.script w.valid w.deck world.log w.run world.kept w.stands t context is values.behind (closed world books w t low values.ready)
next-known world books w (Process c i) low values = tt
next-known world books w (Pair p) low values = tt
next-known world books w (Class c) low values = tt
