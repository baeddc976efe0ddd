-- What a world has left to make ready: programs that stand at an answer, and images of messages in flight that are not built.
use Rattle.std.specs.Prelude.{◌≡◌, ◌<◌, ℕ, zero, suc, ◌+◌, false, IsSome, Option, Some, None, length, slice_get}
use Rattle.std.specs.List.{count_by}
use Rattle.pw_code.specs.declared.context.Context.{Context}
use Rattle.pw_code_meaning.specs.OfSystem.{processes_by}
use Rattle.pw_actor_queue.specs.declared.actor.Actor.{Actor}
use Rattle.pw_actor_queue.specs.declared.actor.Actor.TheVariants.{Terminal, Process}
use Rattle.pw_pair.specs.Seats.{is_waiting}
use Rattle.pw_world_model.specs.Calls.{lent}
use Rattle.pw_world_model.specs.Seen.{Seen, work_of}

-- the sum of the first n numbers of a function, from that of 0 on
abbrev pub sum_below : ℕ → (ℕ → ℕ) → ℕ
sum_below zero f = 0
sum_below (suc n) f = sum_below n f + f n

-- 1 for work, and 0 for none
abbrev pub one_of : Option Context → ℕ
one_of None = 0
one_of (Some work) = 1

-- how many programs stand at an answer: those of terminals, and those of the processes of each class
abbrev pub unread : Seen → ℕ
unread world =
    sum_below (length world.system.terminals) (λ t. one_of (work_of world (Terminal t)))
    + sum_below (length world.system.classes) (λ c.
    sum_below (processes_by (slice_get world.system.classes c) + 1) (λ i. one_of (work_of world (Process c i))))

-- how many messages in flight are not built
abbrev pub unbuilt : Seen → ℕ
unbuilt world = sum_below (length world.system.tcps) (λ p. count_by is_waiting (world.kept.pairs p).seats)

-- how much is left to make ready
abbrev pub unready : Seen → ℕ
unready world = unread world + unbuilt world

-- no actor is out
abbrev pub IsNobodyOut : Seen → Type 0
IsNobodyOut world = (actor : Actor) → world.out actor ≡ false

-- a pair has a message in flight that is not built, and as much is left to make ready as before
pub record WaitsForImage (world new : Seen) : Type 0 where
  pub p : ℕ
  pub pair : p < length new.system.tcps
  pub waits : IsSome (lent (new.kept.pairs p))
  pub same : unready new ≡ unready world
