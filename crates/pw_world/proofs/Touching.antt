-- Lists of touched actors, and where requests are.
use Rattle.std.proofs.Common.{◌≡◌, ◌∙◌, ℕ, zero, suc, ◌+◌, ◌-◌, ◌<◌, ◌≤◌, ◌==◌, ◌||◌, List, [], ◌∷◌, ◌++◌, All, Bool, true, false, Option, Some, None, get_or, length, map, take, refl, sym, ap, subst, ⊎_elim, arith}
use Rattle.std.specs.Prelude.{if◌then◌else◌, slice_get, slice_index_or}
use Rattle.std.specs.List.{list_any}
use Rattle.std.proofs.lemmas.Bool.{cases_lt, ne_eqb}
use Rattle.std.proofs.lemmas.List.{get_or_past, map-append, take_more}
use Rattle.std.proofs.lemmas.List.Elements.{All-append, All-cons, All-nil}
use Rattle.std.proofs.lemmas.List.Folds.{list_any-append}
use Rattle.std.proofs.lemmas.Option.{slice_get_within}
use Rattle.pw_base.proofs.Plain.{or-false, or-assoc}
use Rattle.pw_class.specs.Queue.{IsIn, Queue, at_process, class_of_place, is_of, works_for}
use Rattle.pw_class.specs.declared.request.RequestPlace.{RequestPlace}
use Rattle.pw_class.specs.declared.request.RequestPlace.TheVariants.{Waiting, Busy}
use Rattle.pw_class.specs.declared.request.Request.{Request}
use Rattle.pw_code.specs.declared.system.ClassInfo.{ClassInfo}
use Rattle.pw_code.specs.declared.system.System.{System}
use Rattle.pw_code_meaning.specs.OfSystem.{processes_by}
use Rattle.pw_world_store.specs.Keeps.{IsKeep, kept_in}
use Rattle.pw_world_state.proofs.Agreeing.{there-is}
use Rattle.pw_world_state.specs.TerminalTests.{is_out}
use Rattle.pw_world.specs.Ledgers.{books_of}
use Rattle.pw_world.specs.States.{IsMonitor, WorldState, seen}
use Rattle.pw_world.specs.Touched.{Grows, asks_at}
use Rattle.pw_world_model.proofs.Cancelled.{of-idle, of-none, of-process, of-request, true-is}
use Rattle.pw_world_model.specs.Actors.{IsActor}
use Rattle.pw_world_model.specs.Touching.{actors_at}
use Rattle.pw_pair.specs.declared.seat.BackupSeat.{BackupSeat}
use Rattle.pw_actor_queue.specs.Places.{is_same_actor}
use Rattle.pw_actor_queue.specs.declared.actor.Actor.{Actor}
use Rattle.pw_actor_queue.specs.declared.actor.Actor.TheVariants as actor
use Rattle.pw_tmf.specs.Told.{Told}

-- ---- lists that grow

pub grows-none : (system : System) (test : Actor → Bool) (items : List Actor) → ((a : Actor) → IsActor system a → test a ≡ false) → Grows system test items items
grows-none system test items none = record {
  known = λ all. all;
  exact = λ a of. sym (or-false (list_any (is_same_actor a) items)) ∙ ap (λ b. list_any (is_same_actor a) items || b) (sym (none a of));
}

pub grows-by : (system : System) (added old new : List Actor) → All (IsActor system) added → new ≡ old ++ added
    → Grows system (λ a. list_any (is_same_actor a) added) old new
grows-by system added old new of is = record {
  known = λ all. subst (All (IsActor system)) (sym is) (All-append (IsActor system) old added all of);
  exact = λ a known. ap (list_any (is_same_actor a)) is ∙ list_any-append (is_same_actor a) old added;
}

pub grows-more : (system : System) (one two : Actor → Bool) (a b c : List Actor) → Grows system one a b → Grows system two b c
    → Grows system (λ x. one x || two x) a c
grows-more system one two a b c first second = record {
  known = λ all. second.known (first.known all);
  exact = λ x of. second.exact x of ∙ (ap (λ v. v || two x) (first.exact x of) ∙ or-assoc (list_any (is_same_actor x) a) (one x) (two x));
}

pub grows-as : (system : System) (one two : Actor → Bool) (old new : List Actor) → Grows system one old new
    → ((a : Actor) → IsActor system a → one a ≡ two a) → Grows system two old new
grows-as system one two old new grown same = record {
  known = grown.known;
  exact = λ a of. grown.exact a of ∙ ap (λ b. list_any (is_same_actor a) old || b) (same a of);
}

-- ---- requests

process-class : (system : System) (c i : ℕ) → IsActor system (actor.Process c i) → c < length system.classes
process-class system c i of = ⊎_elim (λ low. low) (λ past. by (slice_get system.classes c) refl of.0 of.1 past) (cases_lt c (length system.classes))
  where
    by : (o : Option ClassInfo) → slice_get system.classes c ≡ o → 1 ≤ i → i ≤ processes_by o → length system.classes ≤ c → c < length system.classes
    by None is low high past = absurd (omega (arith, low, high))
    by (Some info) is low high past = slice_get_within system.classes c info is

-- a process that works is one of so many
busy-low : (t : ℕ) (busy : List (Option Request)) (i : ℕ) → works_for t (at_process (record { waiting = []; busy = busy }) i) ≡ true → (1 ≤ i) × (i ≤ length busy)
busy-low t busy zero e = absurd (cc e)
busy-low t busy (suc k) e =
    let some : (suc k == 0) ≡ false = ne_eqb (suc k) 0 (λ is. omega (arith, is)) in
    let there : works_for t (slice_index_or busy (suc k - 1) None) ≡ true = subst (λ b. works_for t (if b then None else slice_index_or busy (suc k - 1) None) ≡ true) some e in (
      omega arith,
      ⊎_elim (λ low. omega (arith, low)) (λ past.
          let none : slice_index_or busy (suc k - 1) None ≡ None = get_or_past busy (suc k - 1) None past in
          absurd (cc (none, there))) (cases_lt (suc k - 1) (length busy)),
    )

module _ {D : Type 0} (told : D → Told) (w : WorldState D) (m : IsMonitor told w)
    (k : IsKeep w.keep.system w.keep.seats (told w.keep.disc) w.keep.book w.keep.jobs w.keep.pairs) where
  abbrev system : System
  system = w.keep.system

  abbrev queues : ℕ → Queue
  queues = (kept_in told w.keep).queues

  none-past : (c : ℕ) → length system.classes ≤ c → queues c ≡ record { waiting = []; busy = [] }
  none-past c past = let size = k.classes in get_or_past w.keep.book c (record { waiting = []; busy = [] }) (omega (arith, size, past))

  place-low : (t : ℕ) (place : RequestPlace) → IsIn (queues (class_of_place place)) (class_of_place place) t place → class_of_place place < length system.classes
  place-low t (Waiting d) at = ⊎_elim (λ low. low) (λ past.
      let none : list_any (is_of t) (queues d).waiting ≡ false = ap (λ (q : Queue). list_any (is_of t) q.waiting) (none-past d past) in
      let some : list_any (is_of t) (queues d).waiting ≡ true = true-is _ at.1 in
      absurd (cc (none, some))) (cases_lt d (length system.classes))
  place-low t (Busy d j) at = ⊎_elim (λ low. low) (λ past.
      let some : works_for t (at_process (queues d) j) ≡ true = true-is _ at.1 in
      let none : works_for t (at_process (record { waiting = []; busy = [] }) j) ≡ true = sym (ap (λ (q : Queue). works_for t (at_process q j)) (none-past d past)) ∙ some in
      let high = busy-low t [] j none in
      absurd (let from = high.0 in let to = high.1 in omega (arith, from, to))) (cases_lt d (length system.classes))

  process-there : (t d j : ℕ) → d < length system.classes → works_for t (at_process (queues d) j) ≡ true → IsActor system (actor.Process d j)
  process-there t d j low at =
      let found = there-is system.classes d low in
      let high = busy-low t (queues d).busy j at in
      let size : length (queues d).busy ≡ processes_by (slice_get system.classes d) = (k.staffed d found.0 found.1).book ∙ ap processes_by (sym found.1) in
      (high.0, subst (λ n. j ≤ n) size high.1)

  place-known : (t : ℕ) (place : RequestPlace) → IsIn (queues (class_of_place place)) (class_of_place place) t place → class_of_place place < length system.classes → All (IsActor system) (actors_at place)
  place-known t (Waiting d) at low = All-cons (IsActor system) (actor.Class d) [] low (All-nil (IsActor system))
  place-known t (Busy d j) at low =
      All-cons (IsActor system) (actor.Process d j) (actor.Class d ∷ []) (process-there t d j low (true-is _ at.1)) (All-cons (IsActor system) (actor.Class d) [] low (All-nil (IsActor system)))

  asks-there : (t : ℕ) (place : RequestPlace) → IsIn (queues (class_of_place place)) (class_of_place place) t place → class_of_place place < length system.classes → (a : Actor) → IsActor system a
      → list_any (is_same_actor a) (actors_at place) ≡ asks_at (kept_in told w.keep) t a
  asks-there t place at few (actor.Terminal u) low = by place
    where
      by : (one : RequestPlace) → list_any (is_same_actor (actor.Terminal u)) (actors_at one) ≡ false
      by (Waiting d) = refl
      by (Busy d j) = refl
  asks-there t place at few (actor.Pair p) low = by place
    where
      by : (one : RequestPlace) → list_any (is_same_actor (actor.Pair p)) (actors_at one) ≡ false
      by (Waiting d) = refl
      by (Busy d j) = refl
  asks-there t place at few (actor.Process c i) of = sym (of-process (seen told w) (books_of w.ledger) m t place c i few (process-class system c i of) at)
  asks-there t place at few (actor.Class c) low = sym (of-request (seen told w) (books_of w.ledger) m t place c few low at)

  pub request-grows : (t : ℕ) (place : RequestPlace) (old new : List Actor) → IsIn (queues (class_of_place place)) (class_of_place place) t place → new ≡ old ++ actors_at place
      → Grows system (asks_at (kept_in told w.keep) t) old new
  request-grows t place old new at is =
      let few = place-low t place at in
      grows-as system (λ a. list_any (is_same_actor a) (actors_at place)) (asks_at (kept_in told w.keep) t) old new
      (grows-by system (actors_at place) old new (place-known t place at few) is) (asks-there t place at few)

  asks-nowhere : (t : ℕ) → is_out system (kept_in told w.keep) t ≡ false → (a : Actor) → IsActor system a → asks_at (kept_in told w.keep) t a ≡ false
  asks-nowhere t inside (actor.Terminal u) low = refl
  asks-nowhere t inside (actor.Pair p) low = refl
  asks-nowhere t inside (actor.Process c i) of = of-idle (seen told w) (books_of w.ledger) m t c i (process-class system c i of) inside
  asks-nowhere t inside (actor.Class c) low = of-none (seen told w) (books_of w.ledger) m t c low inside

  pub request-nowhere : (t : ℕ) (items : List Actor) → is_out system (kept_in told w.keep) t ≡ false → Grows system (asks_at (kept_in told w.keep) t) items items
  request-nowhere t items inside = grows-none system (asks_at (kept_in told w.keep) t) items (asks-nowhere t inside)

-- ---- one after the other

abbrev pub terminals_of : List BackupSeat → List ℕ
terminals_of seats = map (λ (seat : BackupSeat). seat.terminal) seats

-- the requests of those so far, and of one more
pub requests-more : (system : System) (asks : ℕ → Actor → Bool) (seats : List BackupSeat) (i : ℕ) (seat : BackupSeat) (old mid new : List Actor)
    → i < length seats → seat ≡ get_or seats i seat
    → Grows system (λ a. list_any (λ t. asks t a) (terminals_of (take i seats))) old mid → Grows system (asks seat.terminal) mid new
    → Grows system (λ a. list_any (λ t. asks t a) (terminals_of (take (i + 1) seats))) old new
requests-more system asks seats i seat old mid new lt is so_far one =
    let more : take (i + 1) seats ≡ take i seats ++ seat ∷ [] = take_more seats i seat lt ∙ ap (λ y. take i seats ++ y ∷ []) (sym is) in
    grows-as system (λ a. list_any (λ t. asks t a) (terminals_of (take i seats)) || asks seat.terminal a) (λ a. list_any (λ t. asks t a) (terminals_of (take (i + 1) seats))) old new
    (grows-more system (λ a. list_any (λ t. asks t a) (terminals_of (take i seats))) (asks seat.terminal) old mid new so_far one)
    (λ a of. sym (ap (λ s. list_any (λ t. asks t a) (terminals_of s)) more
    ∙ (ap (list_any (λ t. asks t a)) (map-append (λ (s : BackupSeat). s.terminal) (take i seats) (seat ∷ []))
    ∙ (list_any-append (λ t. asks t a) (terminals_of (take i seats)) (seat.terminal ∷ [])
    ∙ ap (λ b. list_any (λ t. asks t a) (terminals_of (take i seats)) || b) (or-false (asks seat.terminal a))))))
