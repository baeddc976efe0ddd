-- The actors that an entry touches, one by one.
use Rattle.std.specs.Prelude.{ℕ, ◌||◌, Bool, List, [], ◌∷◌, map}
use Rattle.pw_class.specs.Queue.{at_process, has_request, works_for}
use Rattle.pw_class.specs.declared.request.RequestPlace.{RequestPlace}
use Rattle.pw_class.specs.declared.request.RequestPlace.TheVariants.{Waiting, Busy}
use Rattle.pw_code.specs.declared.system.System.{System}
use Rattle.pw_event.specs.declared.event.Event.{Event}
use Rattle.pw_world_state.specs.Kept.{Kept}
use Rattle.pw_world_model.specs.Touches.{cancels_where, is_at, is_at_class, is_at_process, tells_of_pair}
use Rattle.pw_actor_queue.specs.declared.actor.Actor.{Actor}
use Rattle.pw_actor_queue.specs.declared.actor.Actor.TheVariants.{Terminal, Process, Pair, Class}

-- the entry changes the state of the actor, but for its pair's mode
abbrev pub touches_at : System → Kept → Event → Actor → Bool
touches_at system kept entry (Terminal t) = is_at kept t entry
touches_at system kept entry (Process c i) =
    is_at_process kept c i entry
    || cancels_where system kept entry (λ t. works_for t (at_process (kept.queues c) i))
touches_at system kept entry (Pair p) = tells_of_pair system kept p entry
touches_at system kept entry (Class c) =
    is_at_class kept c entry
    || cancels_where system kept entry (λ t. has_request t (kept.queues c))

-- the actors that a change of a pair's mode touches, where these are its terminals
abbrev pub actors_of_pair : ℕ → List ℕ → List Actor
actors_of_pair p terminals = Pair p ∷ map Terminal terminals

-- the actors whose state changes where a request at this place is cancelled
abbrev pub actors_at : RequestPlace → List Actor
actors_at (Waiting c) = Class c ∷ []
actors_at (Busy c i) = Process c i ∷ Class c ∷ []
