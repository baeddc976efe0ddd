-- A kept context that has run on is put back.
use Rattle.std.specs.Prelude.{◌≡◌, Bool, true, false, Option, Some, None, if◌then◌else◌}
use Rattle.pw_code.specs.declared.context.Context.{Context}
use Rattle.pw_world_state.specs.Changes.{kept_show, with_job}
use Rattle.pw_world_state.specs.Kept.{Kept}
use Rattle.pw_world.specs.Running.{ran_to}
use Rattle.pw_world_model.specs.Seen.{Seen, work_of}
use Rattle.pw_world_model.specs.Worlds.{Books, IsWorld}
use Rattle.pw_world_model.specs.declared.answers.Applied.{Applied}
use Rattle.pw_world_model.specs.declared.answers.Applied.TheVariants as applied
use Rattle.pw_actor_queue.specs.declared.actor.Actor.{Actor}
use Rattle.pw_actor_queue.specs.declared.actor.Actor.TheVariants.{Terminal, Process}

-- the kept context of the actor is this one, at an answer
abbrev pub put_back : Actor → Context → Kept → Kept
put_back (Terminal t) given kept = kept_show t given kept
put_back (Process c i) given kept = with_job c i (Some given) kept
put_back actor given kept = kept

-- the kept context of an actor is the one from which it ran again
abbrev pub ran_back : Actor → Context → Seen → Seen
ran_back actor given world = record world { kept = put_back actor given world.kept }

-- a world with the faults of another
abbrev pub faulted_as : Seen → Seen → Seen
faulted_as now world = record world {
  failed = now.failed;
  kept = record world.kept { disc = record world.kept.disc { faults = now.kept.disc.faults } };
}

-- The kept context of the actor has run on from this one, which was its work in the world before. Since then only the
-- disc may have failed.
pub record RanFrom (before now : Seen) (actor : Actor) (given : Context) : Type 0 where
  pub books : Books
  pub world : IsWorld before books
  pub was : work_of before actor ≡ Some given
  pub work : Context
  pub is : now ≡ faulted_as now (ran_to actor work before)

-- a copy of the context from which an actor runs on, but for a terminal, which keeps that itself
abbrev pub IsSpare : Actor → Context → Option Context → Type 0
IsSpare (Terminal t) given spare = spare ≡ None
IsSpare actor given spare = spare ≡ Some given

-- the answer leaves the kept context of its actor as it was
abbrev pub leaves_work : Applied → Bool
leaves_work applied.Unbuilt = true
leaves_work applied.DiscFault = true
leaves_work applied.Memory = true
leaves_work _ = false

-- the context that has run on, if any, is put back where the answer leaves it as it was
abbrev pub put_back_for : Applied → Actor → Option Context → Seen → Seen
put_back_for answer actor None world = world
put_back_for answer actor (Some given) world = if leaves_work answer then ran_back actor given world else world
