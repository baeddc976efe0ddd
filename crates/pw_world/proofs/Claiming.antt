-- What is found of actors, and who may work.
use Rattle.std.proofs.Common.{◌≡◌, ◌∙◌, Bool, true, false, not, ◌&&◌, List, Option, Some, None, inl, inr, ap, refl, sym}
use Rattle.pw_world_model.specs.Actors.{IsActor}
use Rattle.pw_world_model.specs.Answers.{IsWorldIdle}
use Rattle.pw_world_model.specs.Enabled.{HasEnabledStep, MayWork}
use Rattle.pw_world_model.specs.Seen.{Seen, finished, work_of}
use Rattle.pw_world_model.specs.Worlds.{Books, IsWorld}
use Rattle.pw_world.specs.Found.{IsNextOf}
use Rattle.pw_actor_queue.specs.Places.{IsNext, is_waiting, notes_in}
use Rattle.pw_actor_queue.specs.declared.actor.Actor.{Actor}
use Rattle.pw_actor_queue.specs.declared.roster.ActorNote.{ActorNote}

-- an actor that has been read and has no step may not work
pub no-work : (world : Seen) (actor : Actor) → work_of world actor ≡ None → ¬ HasEnabledStep world actor → ¬ MayWork world actor
no-work world actor read none may =
    elim may [ inl step ↦ none step | inr unread ↦ let clash : None ≡ Some unread.0 = sym read ∙ unread.1 in absurd (cc clash) ]

marked-out : (marked out : Bool) → marked && not out ≡ false → marked ≡ true → out ≡ true
marked-out true true rests is = refl
marked-out true false rests is = absurd (cc rests)
marked-out false out rests is = absurd (cc is)

-- where no actor waits, each that may work is out
pub all-out : (world : Seen) (books : Books) (notes : Actor → ActorNote) → IsWorld world books
    → books.marked ≡ (λ a. (notes a).marked) → world.out ≡ (λ a. (notes a).out)
    → ((actor : Actor) → is_waiting (notes actor) ≡ false) → finished world ≡ false
    → ((actor : Actor) × (IsActor world.system actor × MayWork world actor)) → IsWorldIdle world
all-out world books notes w marks outs rests unfinished one = record {
  unfinished = unfinished;
  each = λ actor known may.
      ap (λ o. o actor) outs
      ∙ marked-out (notes actor).marked (notes actor).out (rests actor)
      (ap (λ m. m actor) (sym marks) ∙ w.books.marked actor known may);
  one = one;
}

inside : (marked out : Bool) → marked && not out ≡ true → out ≡ false
inside true true waits = absurd (cc waits)
inside true false waits = refl
inside false out waits = absurd (cc waits)

-- an actor that waits is not out
pub is-inside : (note : ActorNote) → is_waiting note ≡ true → note.out ≡ false
is-inside note waits = inside note.marked note.out waits

pub next-of : (world : Seen) (books : Books) (notes : List ActorNote) (result : Option Actor) → IsWorld world books
    → books.marked ≡ (λ a. (notes_in notes a).marked) → world.out ≡ (λ a. (notes_in notes a).out) → finished world ≡ false
    → ((actor : Actor) × (IsActor world.system actor × MayWork world actor)) → IsNext (notes_in notes) result → IsNextOf world notes result
next-of world books notes None w marks outs unfinished one found = all-out world books (notes_in notes) w marks outs found unfinished one
next-of world books notes (Some actor) w marks outs unfinished one found = found
