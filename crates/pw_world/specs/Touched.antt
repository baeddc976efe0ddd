-- The actors that an entry touches before it is made: all but those of a pair for its change of mode.
use Rattle.std.specs.Prelude.{◌≡◌, ◌||◌, ℕ, All, Bool, false, List, [], ◌∷◌, Option, Some, None, if◌then◌else◌}
use Rattle.std.specs.List.{list_any}
use Rattle.pw_class.specs.Queue.{at_process, has_request, works_for}
use Rattle.pw_class.specs.declared.request.Request.{Request}
use Rattle.pw_code.specs.declared.system.System.{System}
use Rattle.pw_event.specs.declared.event.Event.{Event}
use Rattle.pw_event.specs.declared.event.Event.TheVariants.{Show, Key, CheckStart, CheckEnd, CheckCopy, Applied, Begin, Send, Take, File, Reply, Again, Commit, Back, Restart, FailTcp, FailServer, Takeover, Raise, End}
use Rattle.pw_world_state.specs.Entered.{tcp_of}
use Rattle.pw_world_state.specs.Kept.{Kept}
use Rattle.pw_world_model.specs.Actors.{IsActor}
use Rattle.pw_world_model.specs.Seen.{Seen}
use Rattle.pw_world_model.specs.Touches.{cancels_where}
use Rattle.pw_world_model.specs.Touching.{touches_at}
use Rattle.pw_paired.specs.Raising.{is_takeover}
use Rattle.pw_actor_queue.specs.Places.{is_same_actor}
use Rattle.pw_actor_queue.specs.declared.actor.Actor.{Actor}
use Rattle.pw_actor_queue.specs.declared.actor.Actor.TheVariants.{Terminal, Process, Pair, Class}

-- a list of actors of the system has grown by those for which a test passes, and by no others
pub record Grows (system : System) (test : Actor → Bool) (old new : List Actor) : Type 0 where
  pub known : All (IsActor system) old → All (IsActor system) new
  pub exact : (actor : Actor) → IsActor system actor
      → list_any (is_same_actor actor) new ≡ (list_any (is_same_actor actor) old || test actor)

-- the list has each actor that the entry touches itself, and no others
abbrev pub AreTouched : Seen → Event → List Actor → Type 0
AreTouched world entry actors = Grows world.system (touches_at world.system world.kept entry) [] actors

-- ---- named

-- a terminal, and its pair
abbrev pub member : System → ℕ → List Actor
member system t = Terminal t ∷ Pair (tcp_of system t) ∷ []

-- a process that works on a request, its class, and the terminal of the request
abbrev pub posted : ℕ → ℕ → Option Request → List Actor
posted c i None = []
posted c i (Some request) = Terminal request.terminal ∷ Process c i ∷ Class c ∷ []

-- the actors that an entry names, and those at a process that stops
abbrev pub named : System → Kept → Event → List Actor
named system kept (Show t phase attempt k) = Terminal t ∷ []
named system kept (Key t k) = Terminal t ∷ []
named system kept (CheckStart t) = member system t
named system kept (CheckEnd t) = member system t
named system kept (CheckCopy t) = member system t
named system kept (Applied t) = member system t
named system kept (Begin t n r) = Terminal t ∷ []
named system kept (Send t n c) = Terminal t ∷ Class c ∷ []
named system kept (Take c i t) = Process c i ∷ Class c ∷ []
named system kept (File c i op mode f status) = Process c i ∷ Class c ∷ []
named system kept (Reply c i t fault) = Terminal t ∷ Process c i ∷ Class c ∷ []
named system kept (Again t n) = Terminal t ∷ []
named system kept (Commit t n) = Terminal t ∷ []
named system kept (Back t n) = Terminal t ∷ []
named system kept (Restart t n cause) =
    if is_takeover (kept.terminals t).pending then member system t else Terminal t ∷ []
named system kept (FailTcp p primary k) = []
named system kept (FailServer c i k) = posted c i (at_process (kept.queues c) i)
named system kept (Takeover p) = []
named system kept (Raise p) = []
named system kept (End t ending) = member system t

-- ---- requests that are cancelled

-- a request of the terminal is at the actor: at a process, or at a class
abbrev pub asks_at : Kept → ℕ → Actor → Bool
asks_at kept t (Process c i) = works_for t (at_process (kept.queues c) i)
asks_at kept t (Class c) = has_request t (kept.queues c)
asks_at kept t _ = false

-- a request that the entry cancels is at the actor
abbrev pub cancels_at : System → Kept → Event → Actor → Bool
cancels_at system kept entry actor = cancels_where system kept entry (λ t. asks_at kept t actor)
