-- What is noted of actors whose state changes, and the books with one more entry.
use Rattle.std.proofs.Common.{◌≡◌, ◌∙◌, ℕ, ◌+◌, ◌<◌, ◌||◌, List, [], ◌∷◌, ◌++◌, All, Bool, true, false, ap, drop, get_or, length, length-append, map, refl, sym}
use Rattle.std.specs.Prelude.{if◌then◌else◌}
use Rattle.std.specs.List.{list_any}
use Rattle.std.proofs.Math.Path.{fun_ext}
use Rattle.std.proofs.lemmas.List.{get_or_default}
use Rattle.std.proofs.lemmas.List.Elements.{All-cons, All-head, All-nil, All-tail}
use Rattle.std.proofs.lemmas.Option.{slice_get_within}
use Rattle.pw_code.specs.Valid.{IsValid}
use Rattle.pw_code.specs.declared.system.System.{System}
use Rattle.pw_event.specs.declared.event.Event.{Event}
use Rattle.pw_world_store.proofs.Loops.{left-is}
use Rattle.pw_world_store.specs.Keeps.{terminals_in}
use Rattle.pw_world_state.specs.Kept.{Kept}
use Rattle.pw_world_state.specs.Members.{IsOf}
use Rattle.pw_world.proofs.Noting.{outs_of}
use Rattle.pw_world.specs.Bookings.{IsBooked, stamped_each, owner_pair_turned, turned_pair}
use Rattle.pw_world.specs.Ledgers.{IsNoted, LedgerState, listed}
use Rattle.pw_world.specs.declared.booking.Booking.{Booking}
use Rattle.pw_world_model.proofs.Steps.{placed}
use Rattle.pw_world_model.specs.Dues.{due_entry_counted, without_fail}
use Rattle.pw_world_model.specs.Pushed.{live_behind}
use Rattle.pw_world_model.specs.Touches.{is_same_mode}
use Rattle.pw_world_model.specs.Touching.{actors_of_pair}
use Rattle.pw_pair.specs.Pairs.{SeenPair}
use Rattle.pw_pair.specs.declared.mode.Mode.{Mode}
use Rattle.pw_pair.specs.declared.seat.BackupSeat.{BackupSeat}
use Rattle.pw_actor_queue.specs.Places.{all_marked, is_placed, is_same_actor, actor_noted, notes_in, stamped}
use Rattle.pw_actor_queue.specs.declared.actor.Actor.{Actor}
use Rattle.pw_actor_queue.specs.declared.actor.Actor.TheVariants.{Pair, Terminal}
use Rattle.pw_actor_queue.specs.declared.roster.ActorNote.{ActorNote}

-- ---- one after the other

two-stamps : (s r : Bool) (n : ℕ) (note : ActorNote) → (if (s || r) then stamped n note else note)
    ≡ (if r then stamped n (if s then stamped n note else note) else (if s then stamped n note else note))
two-stamps true true n note = refl
two-stamps true false n note = refl
two-stamps false true n note = refl
two-stamps false false n note = refl

-- the first of them is stamped, and then the others
pub stamped-more : (one : Actor) (rest : List Actor) (n : ℕ) (notes : Actor → ActorNote)
    → stamped_each rest n (actor_noted one (stamped n) notes) ≡ stamped_each (one ∷ rest) n notes
stamped-more one rest n notes = sym (fun_ext (λ a. two-stamps (is_same_actor a one) (list_any (is_same_actor a) rest) n (notes a)))

pub stamp-next : (actors : List Actor) (i : ℕ) (d : Actor) (n m : ℕ) (notes new : Actor → ActorNote) → i < length actors → m ≡ n
    → new ≡ actor_noted (get_or actors i d) (stamped m) notes → stamped_each (drop (i + 1) actors) n new ≡ stamped_each (drop i actors) n notes
stamp-next actors i d n m notes new lt same made =
    let one : Actor = get_or actors i d in
    let left : drop i actors ≡ one ∷ drop (i + 1) actors = left-is actors i one lt (get_or_default actors i d one lt) in
    ap (stamped_each (drop (i + 1) actors) n) (made ∙ ap (λ k. actor_noted one (stamped k) notes) same)
    ∙ (stamped-more one (drop (i + 1) actors) n notes ∙ ap (λ l. stamped_each l n notes) (sym left))

abbrev pub members_of_seats : List BackupSeat → List Actor
members_of_seats seats = map (λ (seat : BackupSeat). Terminal seat.terminal) seats

pub stamp-member : (seats : List BackupSeat) (i : ℕ) (seat : BackupSeat) (n m : ℕ) (notes new : Actor → ActorNote) → i < length seats → seat ≡ get_or seats i seat → m ≡ n
    → new ≡ actor_noted (Terminal seat.terminal) (stamped m) notes → stamped_each (members_of_seats (drop (i + 1) seats)) n new ≡ stamped_each (members_of_seats (drop i seats)) n notes
stamp-member seats i seat n m notes new lt is same made =
    ap (stamped_each (members_of_seats (drop (i + 1) seats)) n) (made ∙ ap (λ k. actor_noted (Terminal seat.terminal) (stamped k) notes) same)
    ∙ (stamped-more (Terminal seat.terminal) (members_of_seats (drop (i + 1) seats)) n notes ∙ ap (λ l. stamped_each (members_of_seats l) n notes) (sym (left-is seats i seat lt is)))

-- ---- a pair

each-terminal : (seats : List BackupSeat) → members_of_seats seats ≡ map Terminal (map (λ (seat : BackupSeat). seat.terminal) seats)
each-terminal [] = refl
each-terminal (seat ∷ seats) = ap (λ rest. Terminal seat.terminal ∷ rest) (each-terminal seats)

pub pair-stamped : (p : ℕ) (mode : Mode) (pair : SeenPair) (seats : List BackupSeat) (n m : ℕ) (notes mid new : Actor → ActorNote)
    → is_same_mode mode pair.mode ≡ false → seats ≡ pair.seats → m ≡ n → mid ≡ actor_noted (Pair p) (stamped n) notes
    → new ≡ stamped_each (members_of_seats seats) m mid → new ≡ stamped_each (turned_pair p mode pair) n notes
pair-stamped p mode pair seats n m notes mid new other same long first rest =
    let all : stamped_each (Pair p ∷ members_of_seats pair.seats) n notes ≡ stamped_each (turned_pair p mode pair) n notes =
    ap (λ l. stamped_each (Pair p ∷ l) n notes) (each-terminal pair.seats)
    ∙ ap (λ b. stamped_each (if b then [] else actors_of_pair p (terminals_in pair)) n notes) (sym other) in
    rest ∙ (ap (λ s. stamped_each (members_of_seats s) m mid) same
    ∙ (ap (λ k. stamped_each (members_of_seats pair.seats) k mid) long
    ∙ (ap (stamped_each (members_of_seats pair.seats) n) first
    ∙ (stamped-more (Pair p) (members_of_seats pair.seats) n notes ∙ all))))

pub members-placed : (system : System) → IsValid system → (p : ℕ) (seats : List BackupSeat) → All (IsOf system p) (map (λ (seat : BackupSeat). seat.terminal) seats)
    → All (λ (seat : BackupSeat). is_placed (Terminal seat.terminal) ≡ true) seats
members-placed system valid p [] all = All-nil (λ (seat : BackupSeat). is_placed (Terminal seat.terminal) ≡ true)
members-placed system valid p (seat ∷ seats) all =
    let own = All-head (IsOf system p) seat.terminal (map (λ (s : BackupSeat). s.terminal) seats) all in
    All-cons (λ (one : BackupSeat). is_placed (Terminal one.terminal) ≡ true) seat seats
    (placed system valid (Terminal seat.terminal) (slice_get_within system.terminals seat.terminal own.info own.here))
    (members-placed system valid p seats (All-tail (IsOf system p) seat.terminal (map (λ (s : BackupSeat). s.terminal) seats) all))

-- ---- the ledger

pub noted-then : (a b c : LedgerState) → IsNoted a b → IsNoted b c → IsNoted a c
noted-then a b c first second = second ∙ ap (λ (l : LedgerState). record l { notes = c.notes }) first

pub noted-log : (a b : LedgerState) → IsNoted a b → b.log ≡ a.log
noted-log a b is = ap (λ (l : LedgerState). l.log) is

-- the books with one more entry, but for what is noted
abbrev pub with-entry : Event → Booking → LedgerState → LedgerState
with-entry entry booking old = record old {
  log = old.log ++ entry ∷ [];
  refreshes = old.refreshes ++ listed booking.refresh;
  one_sends = old.one_sends ++ booking.one_send ∷ [];
  due = due_entry_counted booking.owner (record old.due { waiting = without_fail entry old.due.waiting });
  live = live_behind entry old.live;
}

pub is-booked : (kept : Kept) (entry : Event) (booking : Booking) (old pushed each turns new : LedgerState)
    → pushed ≡ record (with-entry entry booking old) { spare = pushed.spare }
    → IsNoted pushed each → notes_in each.notes ≡ stamped_each booking.touched.items (length pushed.log) (notes_in pushed.notes)
    → IsNoted each turns → notes_in turns.notes ≡ stamped_each (owner_pair_turned kept booking.owner booking.mode) (length each.log) (notes_in each.notes)
    → IsNoted turns new → notes_in new.notes ≡ all_marked (notes_in turns.notes)
    → IsBooked kept entry booking old new
is-booked kept entry booking old pushed each turns new is one ones two twos three threes =
    let rest : IsNoted pushed new = noted-then pushed each new one (noted-then each turns new two three) in
    let spare : new.spare ≡ pushed.spare = ap (λ (l : LedgerState). l.spare) rest in
    let long : length pushed.log ≡ length old.log + 1 = ap (λ (l : LedgerState). length l.log) is ∙ length-append old.log (entry ∷ []) in
    let notes : pushed.notes ≡ old.notes = ap (λ (l : LedgerState). l.notes) is in
    let first : notes_in each.notes ≡ stamped_each booking.touched.items (length old.log + 1) (notes_in old.notes) =
    ones ∙ (ap (λ n. stamped_each booking.touched.items n (notes_in pushed.notes)) long ∙ ap (λ ns. stamped_each booking.touched.items (length old.log + 1) (notes_in ns)) notes) in
    let same : length each.log ≡ length old.log + 1 = ap length (noted-log pushed each one) ∙ long in
    let actors = owner_pair_turned kept booking.owner booking.mode in
    let second : notes_in turns.notes ≡ stamped_each actors (length old.log + 1) (stamped_each booking.touched.items (length old.log + 1) (notes_in old.notes)) =
    twos ∙ (ap (λ n. stamped_each actors n (notes_in each.notes)) same ∙ ap (stamped_each actors (length old.log + 1)) first) in
    record {
      books = rest ∙ (ap (λ (l : LedgerState). record l { notes = new.notes }) is
          ∙ ap (λ b. record (with-entry entry booking old) { notes = new.notes; spare = b }) (sym spare));
      notes = threes ∙ ap all_marked second;
    }

-- ---- one by one

each-outs : (actors : List Actor) (n : ℕ) (notes : Actor → ActorNote) (a : Actor) → (stamped_each actors n notes a).out ≡ (notes a).out
each-outs actors n notes a =
    elim (list_any (is_same_actor a) actors) as (λ b. (if b then stamped n (notes a) else notes a).out ≡ (notes a).out) [ true ↦ refl | false ↦ refl ]

pub each-out : (actors : List Actor) (n : ℕ) (notes : Actor → ActorNote) → outs_of (stamped_each actors n notes) ≡ outs_of notes
each-out actors n notes = fun_ext (each-outs actors n notes)

pub each-stamp : (actors : List Actor) (n : ℕ) (notes : Actor → ActorNote) (a : Actor)
    → (stamped_each actors n notes a).stamp ≡ (if list_any (is_same_actor a) actors then n else (notes a).stamp)
each-stamp actors n notes a =
    elim (list_any (is_same_actor a) actors) as (λ b. (if b then stamped n (notes a) else notes a).stamp ≡ (if b then n else (notes a).stamp)) [ true ↦ refl | false ↦ refl ]
