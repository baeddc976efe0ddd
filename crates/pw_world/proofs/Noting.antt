-- What is noted of actors is no part of a log: a world stays one where it changes.
use Rattle.std.proofs.Common.{◌≡◌, ◌∙◌, ℕ, Bool, true, false, ap, refl, subst, sym, inl, inr}
use Rattle.std.proofs.lemmas.Bool.{cases_Bool}
use Rattle.std.specs.Prelude.{if◌then◌else◌}
use Rattle.std.proofs.Math.Path.{fun_ext}
use Rattle.pw_world_model.proofs.SameWork.{marked-so, out-so}
use Rattle.pw_world_model.specs.Actors.{IsActor}
use Rattle.pw_world_model.specs.Enabled.{MayWork}
use Rattle.pw_world_model.specs.Pushed.{AreMarked}
use Rattle.pw_world_model.specs.Seen.{Seen, sys_of}
use Rattle.pw_world_model.specs.Stamps.{IsStamp}
use Rattle.pw_world_model.specs.Worlds.{Books, IsWorld}
use Rattle.pw_world.specs.Ledgers.{IsNoted, LedgerState, books_of}
use Rattle.pw_world.specs.States.{IsMonitor, WorldState, seen}
use Rattle.pw_actor_queue.proofs.Placing.{same-is}
use Rattle.pw_actor_queue.specs.Places.{all_marked, is_placed, is_same_actor, actor_noted, notes_in, with_mark, with_out}
use Rattle.pw_actor_queue.specs.declared.actor.Actor.{Actor}
use Rattle.pw_actor_queue.specs.declared.roster.ActorNote.{ActorNote}
use Rattle.pw_tmf.specs.Told.{Told}

-- what is noted of actors, one by one
abbrev pub outs_of : (Actor → ActorNote) → Actor → Bool
outs_of notes actor = (notes actor).out

abbrev pub stamps_of : (Actor → ActorNote) → Actor → ℕ
stamps_of notes actor = (notes actor).stamp

abbrev pub marks_of : (Actor → ActorNote) → Actor → Bool
marks_of notes actor = (notes actor).marked

-- the same where one actor is out or not
abbrev pub outs_with : Actor → Bool → (Actor → ActorNote) → Actor → Bool
outs_with actor o notes a = if is_same_actor a actor then o else (notes a).out

-- ---- one note

mark-outs : (notes : Actor → ActorNote) (actor : Actor) (m : Bool) (a : Actor) → (actor_noted actor (with_mark m) notes a).out ≡ (notes a).out
mark-outs notes actor m a = elim (is_same_actor a actor) as (λ b. (if b then with_mark m (notes a) else notes a).out ≡ (notes a).out) [ true ↦ refl | false ↦ refl ]

pub mark-out : (notes : Actor → ActorNote) (actor : Actor) (m : Bool) → outs_of (actor_noted actor (with_mark m) notes) ≡ outs_of notes
mark-out notes actor m = fun_ext (mark-outs notes actor m)

mark-stamps : (notes : Actor → ActorNote) (actor : Actor) (m : Bool) (a : Actor) → (actor_noted actor (with_mark m) notes a).stamp ≡ (notes a).stamp
mark-stamps notes actor m a = elim (is_same_actor a actor) as (λ b. (if b then with_mark m (notes a) else notes a).stamp ≡ (notes a).stamp) [ true ↦ refl | false ↦ refl ]

pub mark-stamp : (notes : Actor → ActorNote) (actor : Actor) (m : Bool) → stamps_of (actor_noted actor (with_mark m) notes) ≡ stamps_of notes
mark-stamp notes actor m = fun_ext (mark-stamps notes actor m)

out-stamps : (notes : Actor → ActorNote) (actor : Actor) (o : Bool) (a : Actor) → (actor_noted actor (with_out o) notes a).stamp ≡ (notes a).stamp
out-stamps notes actor o a = elim (is_same_actor a actor) as (λ b. (if b then with_out o (notes a) else notes a).stamp ≡ (notes a).stamp) [ true ↦ refl | false ↦ refl ]

pub out-stamp : (notes : Actor → ActorNote) (actor : Actor) (o : Bool) → stamps_of (actor_noted actor (with_out o) notes) ≡ stamps_of notes
out-stamp notes actor o = fun_ext (out-stamps notes actor o)

out-marks : (notes : Actor → ActorNote) (actor : Actor) (o : Bool) (a : Actor) → (actor_noted actor (with_out o) notes a).marked ≡ (notes a).marked
out-marks notes actor o a = elim (is_same_actor a actor) as (λ b. (if b then with_out o (notes a) else notes a).marked ≡ (notes a).marked) [ true ↦ refl | false ↦ refl ]

pub out-mark : (notes : Actor → ActorNote) (actor : Actor) (o : Bool) → marks_of (actor_noted actor (with_out o) notes) ≡ marks_of notes
out-mark notes actor o = fun_ext (out-marks notes actor o)

out-outs : (notes : Actor → ActorNote) (actor : Actor) (o : Bool) (a : Actor)
    → (actor_noted actor (with_out o) notes a).out ≡ (if is_same_actor a actor then o else (notes a).out)
out-outs notes actor o a =
    elim (is_same_actor a actor) as (λ b. (if b then with_out o (notes a) else notes a).out ≡ (if b then o else (notes a).out)) [ true ↦ refl | false ↦ refl ]

pub out-out : (notes : Actor → ActorNote) (actor : Actor) (o : Bool)
    → outs_of (actor_noted actor (with_out o) notes) ≡ outs_with actor o notes
out-out notes actor o = fun_ext (out-outs notes actor o)

-- where only one actor was unmarked, another is marked as before
pub unmarked-other : (notes : Actor → ActorNote) (actor a : Actor) → is_same_actor a actor ≡ false → (actor_noted actor (with_mark false) notes a).marked ≡ (notes a).marked
unmarked-other notes actor a other = ap (λ b. (if b then with_mark false (notes a) else notes a).marked) other

-- ---- all notes

all-outs : (notes : Actor → ActorNote) (a : Actor) → (all_marked notes a).out ≡ (notes a).out
all-outs notes a = elim (is_placed a) as (λ b. (if b then with_mark true (notes a) else notes a).out ≡ (notes a).out) [ true ↦ refl | false ↦ refl ]

pub all-out : (notes : Actor → ActorNote) → outs_of (all_marked notes) ≡ outs_of notes
all-out notes = fun_ext (all-outs notes)

all-stamps : (notes : Actor → ActorNote) (a : Actor) → (all_marked notes a).stamp ≡ (notes a).stamp
all-stamps notes a = elim (is_placed a) as (λ b. (if b then with_mark true (notes a) else notes a).stamp ≡ (notes a).stamp) [ true ↦ refl | false ↦ refl ]

pub all-stamp : (notes : Actor → ActorNote) → stamps_of (all_marked notes) ≡ stamps_of notes
all-stamp notes = fun_ext (all-stamps notes)

pub all-mark : (notes : Actor → ActorNote) (a : Actor) → is_placed a ≡ true → (all_marked notes a).marked ≡ true
all-mark notes a placed = ap (λ b. (if b then with_mark true (notes a) else notes a).marked) placed

-- ---- the world

-- the same stamps for each actor of the system
pub restamped : (world : Seen) (books : Books) (own : Actor → ℕ) → IsWorld world books → ((a : Actor) → IsActor world.system a → own a ≡ books.stamps a)
    → IsWorld world (record books { stamps = own })
restamped world books own w same = record {
  valid = w.valid;
  deck = w.deck;
  run = w.run;
  room = w.room;
  few = w.few;
  stands = w.stands;
  members = w.members;
  terminals = w.terminals;
  files = w.files;
  commits = w.commits;
  lines = w.lines;
  few_lines = w.few_lines;
  asking = w.asking;
  count = w.count;
  failed = w.failed;
  books = record {
    refreshes = w.books.refreshes;
    one_sends = w.books.one_sends;
    due = w.books.due;
    live = w.books.live;
    stamps = λ a known. subst (IsStamp (sys_of world) world.log a) (sym (same a known)) (w.books.stamps a known);
    marked = w.books.marked;
  };
}

-- other stamps that are the same, marks of all that may work, and whoever is out
pub world-noted : (world : Seen) (books : Books) (o : Actor → Bool) (stamps : Actor → ℕ) (marked : Actor → Bool) → IsWorld world books
    → stamps ≡ books.stamps → AreMarked world marked → IsWorld (record world { out = o }) (record books { stamps = stamps; marked = marked })
world-noted world books o stamps marked w same marks =
    out-so world (record books { stamps = stamps; marked = marked })
    (marked-so world (record books { stamps = stamps }) (restamped world books stamps w (λ a known. ap (λ (s : Actor → ℕ). s a) same)) marked marks) o

-- ---- a world over a disc

pub noted-monitor : {D : Type 0} (told : D → Told) (w : WorldState D) (l : LedgerState) → IsMonitor told w → IsNoted w.ledger l
    → stamps_of (notes_in l.notes) ≡ stamps_of (notes_in w.ledger.notes)
    → AreMarked (seen told w) (marks_of (notes_in l.notes)) → IsMonitor told (record w { ledger = l })
noted-monitor told w l m rest stamps marks =
    subst (λ (k : LedgerState). IsMonitor told (record w { ledger = k })) (sym rest)
    (world-noted (seen told w) (books_of w.ledger) (outs_of (notes_in l.notes)) (stamps_of (notes_in l.notes)) (marks_of (notes_in l.notes)) m stamps marks)

pub noted-seen : {D : Type 0} (told : D → Told) (w : WorldState D) (l : LedgerState) (o : Actor → Bool) → IsNoted w.ledger l
    → outs_of (notes_in l.notes) ≡ o → seen told (record w { ledger = l }) ≡ record (seen told w) { out = o }
noted-seen told w l o rest outs =
    ap (λ (k : LedgerState). seen told (record w { ledger = k })) rest ∙ ap (λ (out : Actor → Bool). record (seen told w) { out = out }) outs

-- one actor that may not work is unmarked
pub unmarked-marks : (world : Seen) (notes new : Actor → ActorNote) (actor : Actor) → AreMarked world (marks_of notes)
    → (IsActor world.system actor → ¬ MayWork world actor) → new ≡ actor_noted actor (with_mark false) notes → AreMarked world (marks_of new)
unmarked-marks world notes new actor marks idle is a known may =
    ap (λ (n : Actor → ActorNote). (n a).marked) is ∙ elim (cases_Bool (is_same_actor a actor)) [
      | inl same ↦ let one = same-is a actor same in
          absurd (idle (subst (IsActor world.system) one known) (subst (MayWork world) one may))
      | inr other ↦ unmarked-other notes actor a other ∙ marks a known may
    ]
