-- Whether a failure line is due for the entries of an actor.
use Rattle.std.specs.Prelude.{◌≡◌, None}
use Rattle.pw_event.specs.Due.{owner_of}
use Rattle.pw_event.specs.declared.event.Event.{Event}
use Rattle.pw_world_model.specs.Actors.{actor_of}
use Rattle.pw_world_model.specs.Dues.{due_in}
use Rattle.pw_world_model.specs.Seen.{Seen, sys_of}
use Rattle.pw_world_model.specs.Worlds.{Books}
use Rattle.pw_actor_queue.specs.declared.actor.Actor.{Actor}

-- none is
abbrev pub IsUndue : Seen → Books → Actor → Type 0
IsUndue world books actor =
    (entry : Event) → actor_of (sys_of world) entry ≡ actor
    → due_in books.due (owner_of (sys_of world).pair_of entry) ≡ None
