-- A world and its books behind an entry, and before the first one.
use Rattle.std.specs.Prelude.{◌≡◌, ℕ, ◌+◌, ◌-◌, ◌<◌, List, [], ◌∷◌, ◌++◌, Bool, true, false, length}
use Rattle.pw_code.specs.declared.context.Context.{Context}
use Rattle.pw_code.specs.declared.system.System.{System}
use Rattle.pw_event.specs.declared.event.Event.{Event}
use Rattle.pw_event.specs.declared.event.Event.TheVariants.{End}
use Rattle.pw_event.specs.declared.script.FailLine.{FailLine}
use Rattle.pw_world_state.specs.Changes.{kept_start}
use Rattle.pw_world_state.specs.Entered.{entered}
use Rattle.pw_world_state.specs.Meeting.{IsStepRead}
use Rattle.pw_world_state.specs.Read.{AreValued, IsReplyRead}
use Rattle.pw_world_model.specs.Actors.{IsActor}
use Rattle.pw_world_state.specs.Members.{members_of}
use Rattle.pw_world_model.specs.Dues.{after_entry, first_book}
use Rattle.pw_world_model.specs.Enabled.{MayWork}
use Rattle.pw_world_model.specs.OneSends.{begins_one_send}
use Rattle.pw_world_model.specs.Seen.{Seen, state_of, sys_of}
use Rattle.pw_world_model.specs.Touches.{stamped}
use Rattle.pw_world_model.specs.Worlds.{Books}
use Rattle.pw_paired.specs.Shown.{refresh_of}
use Rattle.pw_paired.specs.Step.{Legal}
use Rattle.pw_actor_queue.specs.declared.actor.Actor.{Actor}
use Rattle.pw_tmf.specs.Told.{Told}

-- ---- behind an entry

-- the entry joins the log, and what is kept follows it
abbrev pub pushed : Seen → Event → Seen
pushed world entry = record world {
  log = world.log ++ entry ∷ [];
  kept = entered world.system (members_of world.system) entry world.kept;
}

-- how many terminals are live
abbrev pub live_behind : Event → ℕ → ℕ
live_behind (End t ending) live = live - 1
live_behind _ live = live

-- what is kept beside the log, with these marks
abbrev pub booked : Seen → Event → (Actor → Bool) → Books → Books
booked world entry marked books = record {
  refreshes = books.refreshes ++ refresh_of (sys_of world) (state_of world) entry;
  one_sends = books.one_sends ++ begins_one_send (sys_of world) (state_of world) entry ∷ [];
  due = after_entry (sys_of world).pair_of entry books.due;
  live = live_behind entry books.live;
  stamps = stamped world.system world.kept entry (length world.log + 1) books.stamps;
  marked = marked;
}

-- An entry that can be pushed: it is legal, the log has room, the programs of which it speaks stand at their verbs, and
-- the contexts of which images are sent have numbers and characters of their types.
pub record CanPush (world : Seen) (entry : Event) : Type 0 where
  pub legal : Legal (sys_of world) (state_of world) entry
  pub room : length world.log < world.limit
  pub read : IsStepRead world.system world.kept entry
  pub reply : IsReplyRead world.kept entry
  pub values : AreValued world.system world.kept entry

-- each actor that may work is marked
abbrev pub AreMarked : Seen → (Actor → Bool) → Type 0
AreMarked world marked =
    (actor : Actor) → IsActor world.system actor → MayWork world actor → marked actor ≡ true

-- ---- before the first entry

-- each terminal is at this context at its start, and nothing has happened
abbrev pub first_world : System → List FailLine → (ℕ → Context) → Told → ℕ → Seen
first_world system script contexts disc limit = record {
  system = system;
  script = script;
  log = [];
  limit = limit;
  kept = kept_start system (members_of system) contexts disc;
  faults = disc.faults;
  failed = false;
  out = λ actor. false;
}

-- the books before the first entry
abbrev pub first_books : System → List FailLine → Books
first_books system script = record {
  refreshes = [];
  one_sends = [];
  due = first_book (length system.tcps) (length system.classes) script;
  live = length system.terminals;
  stamps = λ actor. 0;
  marked = λ actor. true;
}
