-- What the books get of an entry.
use Rattle.std.specs.Prelude.{◌≡◌, ◌+◌, ◌++◌, ◌∷◌, ℕ, List, [], Option, Some, None, length, if◌then◌else◌}
use Rattle.std.specs.List.{list_any}
use Rattle.pw_event.specs.Due.{owner_of}
use Rattle.pw_event.specs.declared.event.Event.{Event}
use Rattle.pw_event.specs.declared.script.Owner.{Owner}
use Rattle.pw_event.specs.declared.script.Owner.TheVariants as owner
use Rattle.pw_world_store.specs.Keeps.{terminals_in}
use Rattle.pw_world_state.specs.Kept.{Kept}
use Rattle.pw_world.specs.Ledgers.{LedgerState, listed}
use Rattle.pw_world.specs.Touched.{AreTouched}
use Rattle.pw_world.specs.declared.booking.Booking.{Booking}
use Rattle.pw_world_model.specs.Dues.{due_entry_counted, without_fail}
use Rattle.pw_world_model.specs.OneSends.{begins_one_send}
use Rattle.pw_world_model.specs.Pushed.{live_behind}
use Rattle.pw_world_model.specs.Seen.{Seen, state_of, sys_of}
use Rattle.pw_world_model.specs.Touches.{is_same_mode}
use Rattle.pw_world_model.specs.Touching.{actors_of_pair}
use Rattle.pw_pair.specs.Pairs.{SeenPair}
use Rattle.pw_pair.specs.declared.mode.Mode.{Mode}
use Rattle.pw_paired.specs.Shown.{refresh_of}
use Rattle.pw_actor_queue.specs.Places.{all_marked, is_same_actor, notes_in, stamped}
use Rattle.pw_actor_queue.specs.declared.actor.Actor.{Actor}
use Rattle.pw_actor_queue.specs.declared.roster.ActorNote.{ActorNote}

-- the mode of the pair of an owner, if it is one
abbrev pub mode_in : Kept → Owner → Option Mode
mode_in kept (owner.Tcp p) = Some (kept.pairs p).mode
mode_in kept (owner.Class c) = None

-- the actors of a pair, where its mode is no more this one
abbrev pub turned_pair : ℕ → Mode → SeenPair → List Actor
turned_pair p mode pair =
    if is_same_mode mode pair.mode then [] else actors_of_pair p (terminals_in pair)

-- the same of the pair of an owner, if it is one
abbrev pub owner_pair_turned : Kept → Owner → Option Mode → List Actor
owner_pair_turned kept (owner.Tcp p) (Some mode) = turned_pair p mode (kept.pairs p)
owner_pair_turned kept _ _ = []

-- the booking is that of an entry
pub record IsBookingOf (world : Seen) (entry : Event) (booking : Booking) : Type 0 where
  pub owner : booking.owner ≡ owner_of (sys_of world).pair_of entry
  pub one_send : booking.one_send ≡ begins_one_send (sys_of world) (state_of world) entry
  pub refresh : listed booking.refresh ≡ refresh_of (sys_of world) (state_of world) entry
  pub touched : AreTouched world entry booking.touched.items
  pub mode : booking.mode ≡ mode_in world.kept booking.owner

-- what is noted of each of these actors is that its state changed behind so many entries
abbrev pub stamped_each : List Actor → ℕ → (Actor → ActorNote) → Actor → ActorNote
stamped_each actors n notes actor =
    if list_any (is_same_actor actor) actors then stamped n (notes actor) else notes actor

-- the books with an entry and its booking, where this is kept behind it
pub record IsBooked (kept : Kept) (entry : Event) (booking : Booking) (old new : LedgerState)
    : Type 0 where
  pub books : new ≡ record old {
    log = old.log ++ entry ∷ [];
    refreshes = old.refreshes ++ listed booking.refresh;
    one_sends = old.one_sends ++ booking.one_send ∷ [];
    due = due_entry_counted booking.owner (record old.due { waiting = without_fail entry old.due.waiting });
    live = live_behind entry old.live;
    notes = new.notes;
    spare = new.spare;
  }
  pub notes : notes_in new.notes
      ≡ all_marked (stamped_each (owner_pair_turned kept booking.owner booking.mode) (length old.log + 1)
      (stamped_each booking.touched.items (length old.log + 1) (notes_in old.notes)))
