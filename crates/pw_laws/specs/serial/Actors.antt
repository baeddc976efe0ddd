-- Whose step an entry is.
use Rattle.std.specs.Prelude.{◌≡◌, ℕ}
use Rattle.pw_event.specs.declared.event.Event.{Event}
use Rattle.pw_event.specs.declared.event.Event.TheVariants.{Show, Key, CheckStart, CheckEnd, CheckCopy, Applied, Begin, Send, Take, File, Reply, Again, Commit, Back, Restart, FailTcp, FailServer, Takeover, Raise, End}
use Rattle.pw_onecopy.specs.Behaviour.{Behaviour}
use Rattle.pw_paired.specs.State.{State}
use Rattle.pw_paired.specs.Step.{Legal}

-- a terminal, a process of a class, a pair or a class
pub data StepActor : Type 0 where
  Terminal : (t : ℕ) → StepActor
  Process : (class process : ℕ) → StepActor
  Pair : (p : ℕ) → StepActor
  Class : (c : ℕ) → StepActor

-- Whose step an entry is: FILE and REPLY are steps of a process, TAKE and FAIL SERVER of a class,
-- RAISE, TAKEOVER, FAIL TCP, CHECK COPY and APPLIED of a pair, and all others of a terminal.
abbrev pub actor_of : Behaviour → Event → StepActor
actor_of sys (Show t phase attempt k) = Terminal t
actor_of sys (Key t k) = Terminal t
actor_of sys (CheckStart t) = Terminal t
actor_of sys (CheckEnd t) = Terminal t
actor_of sys (CheckCopy t) = Pair (sys.pair_of t)
actor_of sys (Applied t) = Pair (sys.pair_of t)
actor_of sys (Begin t n r) = Terminal t
actor_of sys (Send t n c) = Terminal t
actor_of sys (Take c i t) = Class c
actor_of sys (File c i op mode f status) = Process c i
actor_of sys (Reply c i t fault) = Process c i
actor_of sys (Again t n) = Terminal t
actor_of sys (Commit t n) = Terminal t
actor_of sys (Back t n) = Terminal t
actor_of sys (Restart t n cause) = Terminal t
actor_of sys (FailTcp p primary k) = Pair p
actor_of sys (FailServer c i k) = Class c
actor_of sys (Takeover p) = Pair p
actor_of sys (Raise p) = Pair p
actor_of sys (End t ending) = Terminal t

-- the actor has a step in the state: an entry of it is legal
pub record ActorSteps (sys : Behaviour) (state : State) (actor : StepActor) : Type 0 where
  pub entry : Event
  pub own : actor_of sys entry ≡ actor
  pub legal : Legal sys state entry
