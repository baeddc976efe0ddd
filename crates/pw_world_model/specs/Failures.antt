-- The FAIL entry of a failure line.
use Rattle.std.specs.Prelude.{◌≡◌, ◌⊎◌, ℕ, Bool, Some}
use Rattle.pw_event.specs.declared.event.Event.{Event}
use Rattle.pw_event.specs.declared.event.Event.TheVariants.{FailServer, FailTcp}
use Rattle.pw_event.specs.declared.script.FailLine.TheVariants as line
use Rattle.pw_world_model.specs.Seen.{Seen}
use Rattle.pw_paired.specs.Failure.{fail_line}
use Rattle.pw_actor_queue.specs.declared.actor.Actor.{Actor}
use Rattle.pw_actor_queue.specs.declared.actor.Actor.TheVariants.{Class, Pair}

-- line k is one of a member of a pair, the entry its FAIL entry, and the actor the pair
pub record FailsTcp (world : Seen) (k : ℕ) (actor : Actor) (entry : Event) : Type 0 where
  pub p : ℕ
  pub primary : Bool
  pub after : ℕ
  pub names : fail_line world.script k ≡ Some (line.Tcp p primary after)
  pub entry_is : entry ≡ FailTcp p primary k
  pub actor_is : actor ≡ Pair p

-- the same of a process and its class
pub record FailsServer (world : Seen) (k : ℕ) (actor : Actor) (entry : Event) : Type 0 where
  pub class : ℕ
  pub process : ℕ
  pub after : ℕ
  pub names : fail_line world.script k ≡ Some (line.Server class process after)
  pub entry_is : entry ≡ FailServer class process k
  pub actor_is : actor ≡ Class class

-- the entry is the FAIL entry of line k, and the actor the pair or class of that line
abbrev pub FailsBy : Seen → ℕ → Actor → Event → Type 0
FailsBy world k actor entry = FailsTcp world k actor entry ⊎ FailsServer world k actor entry
