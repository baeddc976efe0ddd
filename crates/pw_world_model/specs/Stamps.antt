-- When the state of an actor last changed.
use Rattle.std.specs.Prelude.{◌≡◌, ◌⊎◌, ℕ, ◌-◌, ◌≤◌, ◌==◌, Bool, List, length, take, Option, Some, None, is_some, if◌then◌else◌}
use Rattle.pw_event.specs.declared.event.Event.{Event}
use Rattle.pw_actor_queue.specs.declared.actor.Actor.{Actor}
use Rattle.pw_actor_queue.specs.declared.actor.Actor.TheVariants.{Terminal, Process, Pair, Class}
use Rattle.pw_onecopy.specs.Behaviour.{Behaviour}
use Rattle.pw_paired.specs.Raising.{is_takeover}
use Rattle.pw_paired.specs.State as paired
use Rattle.pw_paired.specs.State.{BackupCopy, Job, LastEnded, Message, PairMode, OpenUnit, State, Term}
use Rattle.pw_paired.specs.Step.{after}
use Rattle.pw_paired.specs.Units.{is_out}

-- what a pair knows of one of its terminals
pub record PairTerminal : Type 0 where
  pub ended : Bool
  pub taken_over : Bool
  pub memory : Option BackupCopy
  pub flight : Option Message

-- the state of an actor
pub data ActorState : Type 0 where
  -- a terminal: its path, cause and ending, its open and its last ended unit, whether its request is out, its pair's
  -- mode, and what its backup holds and is sent
  OfTerminal : (term : Term) (unit : Option OpenUnit) (last : LastEnded) (out : Bool) (mode : PairMode)
      (memory : Option BackupCopy) (flight : Option Message) → ActorState
  -- a process: what it works on
  OfProcess : (job : Option Job) → ActorState
  -- a pair: its mode and its terminals
  OfPair : (mode : PairMode) (members : ℕ → Option PairTerminal) → ActorState
  -- a class: what waits, and what its processes work on
  OfClass : (class : paired.Class) → ActorState

-- a terminal as its pair knows it
abbrev pub member_of : State → ℕ → PairTerminal
member_of state t = record {
  ended = is_some (state.terms t).ending;
  taken_over = is_takeover (state.terms t).pending;
  memory = state.memory t;
  flight = state.flight t;
}

-- the state of an actor in a state of the paired system
abbrev pub state_in : Behaviour → State → Actor → ActorState
state_in sys state (Terminal t) =
    OfTerminal (state.terms t) (state.units t) (state.ended t) (is_out sys state t)
    (state.modes (sys.pair_of t)) (state.memory t) (state.flight t)
state_in sys state (Process c i) = OfProcess ((state.classes c).busy i)
state_in sys state (Pair p) =
    OfPair (state.modes p) (λ t. if sys.pair_of t == p then Some (member_of state t) else None)
state_in sys state (Class c) = OfClass (state.classes c)

-- the state of an actor behind the first k entries of a log
abbrev pub state_at : Behaviour → List Event → Actor → ℕ → ActorState
state_at sys log actor k = state_in sys (after sys (take k log)) actor

-- the length of the log when the actor's state last changed: since then it is the same, and before it was another one
pub record IsStamp (sys : Behaviour) (log : List Event) (actor : Actor) (n : ℕ) : Type 0 where
  pub within : n ≤ length log
  pub since : (k : ℕ) → n ≤ k → k ≤ length log
      → state_at sys log actor k ≡ state_at sys log actor (length log)
  pub changed : (n ≡ 0) ⊎ (¬ (state_at sys log actor (n - 1) ≡ state_at sys log actor n))
