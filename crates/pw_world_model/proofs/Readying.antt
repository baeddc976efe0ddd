-- What is left to make ready falls where a program has run on, and where an image is built.
use Rattle.std.proofs.Common.{◌≡◌, ◌≢◌, ◌⊎◌, ◌<◌, ◌≤◌, ◌+◌, ℕ, zero, suc, eqb, cond, Bool, true, false, List, [], ◌∷◌, length, Option, Some, None, inl, inr, refl, sym, ap, subst, ◌∙◌, arith}
use Rattle.std.specs.Prelude.{IsSome, if◌then◌else◌, not, slice_get}
use Rattle.std.specs.List.{count_by, find}
use Rattle.std.proofs.lemmas.Bool.{eq-eqb, eqb-false, eqb-true}
use Rattle.std.proofs.lemmas.List.Sums.{sum_by-cons}
use Rattle.std.proofs.lemmas.Option.{slice_get_within}
use Rattle.pw_actor_queue.specs.declared.actor.Actor.{Actor}
use Rattle.pw_actor_queue.specs.declared.actor.Actor.TheVariants as actor
use Rattle.pw_code.specs.declared.context.Context.{Context}
use Rattle.pw_code.specs.declared.system.ClassInfo.{ClassInfo}
use Rattle.pw_code.specs.declared.system.System.{System}
use Rattle.pw_code_meaning.specs.OfSystem.{processes_by}
use Rattle.pw_event.specs.declared.event.Event.{Event}
use Rattle.pw_event.specs.declared.event.Event.TheVariants.{Applied}
use Rattle.pw_onecopy.proofs.Update.{upd-other, upd_elim}
use Rattle.pw_pair.specs.Pairs.{SeenPair, changed_at, passes, seat_of}
use Rattle.pw_pair.specs.SeenTask.{SeenTask}
use Rattle.pw_pair.specs.Seats.{at_terminal, built, flies_waiting, is_seat_of, is_waiting, start_of, with_whole}
use Rattle.pw_pair.specs.Tasks.{task_at, task_in}
use Rattle.pw_pair.specs.declared.seat.BackupSeat.{BackupSeat}
use Rattle.pw_pair.specs.declared.seat.Flight.{Flight}
use Rattle.pw_world_state.specs.Changes.{at_pair}
use Rattle.pw_world_state.specs.Kept.{Kept}
use Rattle.pw_world_state.specs.TerminalTests.{seat_at}
use Rattle.pw_world_model.specs.Actors.{IsActor, actor_of}
use Rattle.pw_world_model.specs.Answers.{HasOnlyUnbuiltSteps, IsWorldIdle, ran, ran_from, run_on, with_out}
use Rattle.pw_world_model.specs.Calls.{BuildsHere, lent}
use Rattle.pw_world_model.specs.Enabled.{HasEnabledStep, IsEnabled, MayWork}
use Rattle.pw_world_model.specs.Seen.{Seen, sys_of, work_of}
use Rattle.pw_world_model.specs.Stamps.{IsStamp}
use Rattle.pw_world_model.specs.Unready.{IsNobodyOut, WaitsForImage, one_of, sum_below, unbuilt, unread, unready}
use Rattle.pw_world_model.specs.Working.{WorksOn}
use Rattle.pw_world_model.specs.Worlds.{Books, IsWorld}
use Rattle.pw_world_model.specs.declared.answers.Applied.TheVariants as applied
use Rattle.pw_world_model.specs.declared.task.Outcome.{Outcome}
use Rattle.pw_world_model.proofs.RanAway.{ran-none, ran-read}
use Rattle.pw_world_model.proofs.Stamped.{one-stamp}

-- ---- sums

-- numbers that are nowhere larger
sum-most : (n : ℕ) (f g : ℕ → ℕ) → ((j : ℕ) → f j ≤ g j) → sum_below n f ≤ sum_below n g
sum-most zero f g most = omega arith
sum-most (suc n) f g most = omega (arith, sum-most n f g most, most n)

-- and smaller in one place
sum-less : (n : ℕ) (f g : ℕ → ℕ) (t : ℕ) → t < n → ((j : ℕ) → f j ≤ g j) → f t < g t → sum_below n f < sum_below n g
sum-less zero f g t lt most less = absurd (omega (arith, lt))
sum-less (suc n) f g t lt most less = go (eqb n t) refl (λ before. sum-less n f g t before most less)
  where
    go : (b : Bool) → eqb n t ≡ b → (t < n → sum_below n f < sum_below n g) → sum_below (suc n) f < sum_below (suc n) g
    go true is before =
        let last : f n < g n = subst (λ (k : ℕ). f k < g k) (sym (eqb-true n t is)) less in
        omega (arith, last, sum-most n f g most)
    go false is before =
        let earlier : t < n = omega (arith, lt, eqb-false n t is) in
        omega (arith, most n, before earlier)

both-most : (a b c d : ℕ) → a ≤ b → c ≤ d → a + c ≤ b + d
both-most a b c d first second = omega arith

first-less : (a b c d : ℕ) → a < b → c ≤ d → a + c < b + d
first-less a b c d first second = omega arith

second-less : (a b c d : ℕ) → a ≤ b → c < d → a + c < b + d
second-less a b c d first second = omega arith

-- ---- images

-- a seat whose image is built waits no more
built-rests : (seat : BackupSeat) → is_waiting (built seat) ≡ false
built-rests seat = by seat.flight
  where
    by : (flight : Option Flight) → flies_waiting (with_whole (start_of seat.memory) flight) ≡ false
    by None = refl
    by (Some flight) = refl

-- one seat more is counted
count-more : (seat : BackupSeat) (seats : List BackupSeat) → count_by is_waiting (seat ∷ seats) ≡ cond (is_waiting seat) 1 0 + count_by is_waiting seats
count-more = sum_by-cons (λ seat. cond (is_waiting seat) 1 0)

module _ (t : ℕ) where
  abbrev built_at : BackupSeat → BackupSeat
  built_at seat = if is_seat_of t seat then built seat else seat

  seat-most : (seat : BackupSeat) → cond (is_waiting (built_at seat)) 1 0 ≤ cond (is_waiting seat) 1 0
  seat-most seat = by (is_seat_of t seat)
    where
      none : (b : Bool) → b ≡ false → cond b 1 0 ≤ cond (is_waiting seat) 1 0
      none b is = rw is (omega arith)

      by : (b : Bool) → cond (is_waiting (if b then built seat else seat)) 1 0 ≤ cond (is_waiting seat) 1 0
      by true = none (is_waiting (built seat)) (built-rests seat)
      by false = omega arith

  seats-most : (seats : List BackupSeat) → count_by is_waiting (at_terminal t built seats) ≤ count_by is_waiting seats
  seats-most [] = omega arith
  seats-most (seat ∷ seats) =
      omega (arith, count-more seat seats, count-more (built_at seat) (at_terminal t built seats), seat-most seat, seats-most seats)

seats-less : (seats : List BackupSeat) (own : BackupSeat) → find is_waiting seats ≡ Some own
    → count_by is_waiting (at_terminal own.terminal built seats) < count_by is_waiting seats
seats-less [] own found = absurd (cc found)
seats-less (seat ∷ seats) own found = by (is_waiting seat) refl found (seats-less seats own)
  where
    by : (b : Bool) → is_waiting seat ≡ b → cond b (Some seat) (find is_waiting seats) ≡ Some own
        → (find is_waiting seats ≡ Some own → count_by is_waiting (at_terminal own.terminal built seats) < count_by is_waiting seats)
        → count_by is_waiting (at_terminal own.terminal built (seat ∷ seats)) < count_by is_waiting (seat ∷ seats)
    by true is here behind =
        let same : seat ≡ own = cc here in
        let its : is_seat_of own.terminal seat ≡ true = eq-eqb seat.terminal own.terminal (ap (λ (s : BackupSeat). s.terminal) same) in
        let now : ◌≡◌ {A = ℕ} (cond (is_waiting (built_at own.terminal seat)) 1 0) 0 = subst (λ b. ◌≡◌ {A = ℕ} (cond (is_waiting (if b then built seat else seat)) 1 0) 0) (sym its) (ap (λ b. cond b 1 0) (built-rests seat)) in
        let was : ◌≡◌ {A = ℕ} (cond (is_waiting seat) 1 0) 1 = ap (λ b. cond b 1 0) is in
        omega (arith, count-more seat seats, count-more (built_at own.terminal seat) (at_terminal own.terminal built seats), now, was, seats-most own.terminal seats)
    by false is later behind =
        omega (arith, count-more seat seats, count-more (built_at own.terminal seat) (at_terminal own.terminal built seats), seat-most own.terminal seat, behind later)

-- the task that is lent is of the first seat that waits
lent-of : (pair : SeenPair) (task : SeenTask) → lent pair ≡ Some task
    → (seat : BackupSeat) × ((find is_waiting pair.seats ≡ Some seat) × (task.terminal ≡ seat.terminal))
lent-of pair task is = by (find is_waiting pair.seats) refl is
  where
    in-flight : (seat : BackupSeat) (held : Option (List ℕ)) (flight : Option Flight) → task_in seat.terminal held flight ≡ Some task → task.terminal ≡ seat.terminal
    in-flight seat held None none = absurd (cc none)
    in-flight seat held (Some flight) some = from flight.built some
      where
        from : (b : Bool) → (if b then None else Some (record { terminal = seat.terminal; message = flight.message; held = held })) ≡ Some task → task.terminal ≡ seat.terminal
        from true none = absurd (cc none)
        from false one = let same : record { terminal = seat.terminal; message = flight.message; held = held } ≡ task = cc one in ap (λ (x : SeenTask). x.terminal) (sym same)

    by : (o : Option BackupSeat) → find is_waiting pair.seats ≡ o → task_at o ≡ Some task
        → (seat : BackupSeat) × ((find is_waiting pair.seats ≡ Some seat) × (task.terminal ≡ seat.terminal))
    by None found none = absurd (cc none)
    by (Some seat) found one = (seat, (found, in-flight seat (start_of seat.memory) seat.flight one))

-- where an image is built less is left
pub builds-less : (world new : Seen) (p : ℕ) → p < length world.system.tcps → BuildsHere world p true new → unready new < unready world
builds-less world new p low builds = subst (λ (w : Seen). unready w < unready world) (sym builds.1.1) (second-less (unread after) (unread world) (unbuilt after) (unbuilt world) (omega arith) less)
  where
    task : SeenTask
    task = builds.0

    pair : SeenPair
    pair = world.kept.pairs p

    after : Seen
    after = record world { kept = at_pair p (changed_at task.terminal built) world.kept }

    waits : SeenPair → ℕ
    waits own = count_by is_waiting own.seats

    first : (seat : BackupSeat) × ((find is_waiting pair.seats ≡ Some seat) × (task.terminal ≡ seat.terminal))
    first = lent-of pair task builds.1.0

    fewer : waits (changed_at task.terminal built pair) < waits pair
    fewer = subst (λ t. waits (changed_at t built pair) < waits pair) (sym first.1.1) (seats-less pair.seats first.0 first.1.0)

    now : ℕ → SeenPair
    now = after.kept.pairs

    most : (q : ℕ) → waits (now q) ≤ waits (world.kept.pairs q)
    most q = upd_elim world.kept.pairs p (changed_at task.terminal built pair) q (λ own. waits own ≤ waits (world.kept.pairs q))
        (λ same. subst (λ (k : ℕ). waits (changed_at task.terminal built pair) ≤ waits (world.kept.pairs k)) (sym same) (seats-most task.terminal pair.seats))
        (λ differ. omega arith)

    at : waits (now p) < waits pair
    at = upd_elim world.kept.pairs p (changed_at task.terminal built pair) p (λ own. waits own < waits pair) (λ same. fewer) (λ differ. absurd (differ refl))

    less : unbuilt after < unbuilt world
    less = sum-less (length world.system.tcps) (λ q. waits (now q)) (λ q. waits (world.kept.pairs q)) p low most at

-- ---- a world that waits for images alone

-- where a seat waits a task is lent
find-waits : (test : BackupSeat → Bool) (seats : List BackupSeat) → passes is_waiting (find test seats) ≡ true
    → (seat : BackupSeat) × ((find is_waiting seats ≡ Some seat) × (is_waiting seat ≡ true))
find-waits test [] waits = absurd (cc waits)
find-waits test (seat ∷ seats) waits = by (is_waiting seat) refl (find-waits test seats)
  where
    later : (b : Bool) → is_waiting seat ≡ false → passes is_waiting (cond b (Some seat) (find test seats)) ≡ true → passes is_waiting (find test seats) ≡ true
    later true not-own own = absurd (cc (not-own, own))
    later false not-own own = own

    by : (b : Bool) → is_waiting seat ≡ b
        → (passes is_waiting (find test seats) ≡ true → (own : BackupSeat) × ((find is_waiting seats ≡ Some own) × (is_waiting own ≡ true)))
        → (own : BackupSeat) × ((cond b (Some seat) (find is_waiting seats) ≡ Some own) × (is_waiting own ≡ true))
    by true is behind = (seat, (refl, is))
    by false is behind = behind (later (test seat) is waits)

seat-lends : (terminal : ℕ) (held : Option (List ℕ)) (flight : Option Flight) → flies_waiting flight ≡ true → IsSome (task_in terminal held flight)
seat-lends terminal held None waits = absurd (cc waits)
seat-lends terminal held (Some flight) waits = by flight.built waits
  where
    by : (b : Bool) → not b ≡ true → IsSome {T = SeenTask} (if b then None else Some (record { terminal = terminal; message = flight.message; held = held }))
    by true built_one = absurd (cc built_one)
    by false waiting_one = refl

pub waits-lent : (pair : SeenPair) (t : ℕ) → passes is_waiting (seat_of t pair) ≡ true → IsSome (lent pair)
waits-lent pair t waits =
    let found = find-waits (is_seat_of t) pair.seats waits in
    subst (λ (o : Option BackupSeat). IsSome (task_at o)) (sym found.1.0) (seat-lends found.0.terminal (start_of found.0.memory) found.0.flight found.1.1)

module _ (members : ℕ → List ℕ) (world new : Seen) where
  -- what waits for images alone has one to be built
  pub only-unbuilt : WorksOn members world applied.Unbuilt new → WaitsForImage world new
  only-unbuilt works = subst (WaitsForImage world) (sym works.leaves) (record {
    p = p;
    pair = subst (IsActor world.system) (sym works.of.actor ∙ only.pair) works.claimed.actor;
    waits = waits-lent (world.kept.pairs p) t flies;
    same = refl;
  })
    where
      outcome : Outcome
      outcome = works.outcome

      only : HasOnlyUnbuiltSteps (ran world outcome) outcome.actor
      only = works.comes.1

      p : ℕ
      p = only.p

      nothing : work_of world outcome.actor ≡ None
      nothing = subst (λ a. work_of world a ≡ None) (sym only.pair) refl

      kept : (ran world outcome).kept ≡ world.kept
      kept = ap (λ o. ran_from o outcome world.kept) nothing

      step : HasEnabledStep (ran world outcome) outcome.actor
      step = only.step

      found : (t : ℕ) × ((step.0 ≡ Applied t) × (passes is_waiting (seat_at world.system (ran world outcome).kept t) ≡ true))
      found = only.each step.0 step.1

      t : ℕ
      t = found.0

      own : actor.Pair ((sys_of world).pair_of t) ≡ actor.Pair p
      own = subst (λ entry. actor_of (sys_of world) entry ≡ actor.Pair p) found.1.0 (step.1.own ∙ only.pair)

      of-pair : (sys_of world).pair_of t ≡ p
      of-pair = cc own

      flies : passes is_waiting (seat_of t (world.kept.pairs p)) ≡ true
      flies = subst (λ k. passes is_waiting (seat_of t (world.kept.pairs k)) ≡ true) of-pair
          (subst (λ (kept : Kept). passes is_waiting (seat_at world.system kept t) ≡ true) kept found.1.1)

  -- the task that is worked on is fresh
  pub never-stale : (carried found : ℕ) → WorksOn members world (applied.Stale carried found) new → ⊥
  never-stale carried found works =
      let stale = works.comes.1.1 in
      let own : IsStamp (sys_of world) world.log works.outcome.actor works.outcome.stamp =
      subst (λ a. IsStamp (sys_of world) world.log a works.outcome.stamp) (sym works.of.actor)
      (subst (λ n. IsStamp (sys_of world) world.log works.task.actor n) (sym works.of.stamp) works.claimed.stamp)
      in
      stale.1.1 (stale.0 ∙ one-stamp (sys_of world) world.log works.outcome.actor works.outcome.stamp found own stale.1.0)

  -- and its work is what is kept
  pub never-unrun : WorksOn members world applied.Unrun new → ⊥
  never-unrun works =
      let unrun = works.comes.1.1.1 in
      unrun.other (works.of.given ∙ (works.claimed.work ∙ (ap (work_of world) (sym works.of.actor) ∙ unrun.work)))

-- ---- a program that has run on

one-most : (now was : Option Context) → (now ≡ was) ⊎ (now ≡ None) → one_of now ≤ one_of was
one-most now was (inl same) = rw same (omega arith)
one-most now was (inr none) = rw none (omega arith)

one-less : (now was : Option Context) (given : Context) → now ≡ None → was ≡ Some given → one_of now < one_of was
one-less now was given none some = rw (none, some) (omega arith)

pairs-stay : (world : Seen) (outcome : Outcome) → (ran world outcome).kept.pairs ≡ world.kept.pairs
pairs-stay world outcome = from (work_of world outcome.actor)
  where
    by : (a : Actor) (o : Option Context) → (run_on a o world.kept).pairs ≡ world.kept.pairs
    by (actor.Terminal t) (Some work) = refl
    by (actor.Terminal t) None = refl
    by (actor.Process c i) (Some work) = refl
    by (actor.Process c i) None = refl
    by (actor.Pair p) o = refl
    by (actor.Class c) o = refl

    from : (o : Option Context) → (ran_from o outcome world.kept).pairs ≡ world.kept.pairs
    from None = refl
    from (Some given) = by outcome.actor outcome.work

-- a class of the system has a place
class-there : (system : System) (c i : ℕ) → 1 ≤ i → i ≤ processes_by (slice_get system.classes c) → c < length system.classes
class-there system c i from-one high = by (slice_get system.classes c) refl high
  where
    by : (o : Option ClassInfo) → slice_get system.classes c ≡ o → i ≤ processes_by o → c < length system.classes
    by None none few = absurd (omega (arith, from-one, few))
    by (Some info) here few = slice_get_within system.classes c info here

module _ (members : ℕ → List ℕ) (world new : Seen) (books : Books) (w : IsWorld world books) (works : WorksOn members world applied.Held new) where
  abbrev outcome : Outcome
  outcome = works.outcome

  of : IsActor world.system outcome.actor
  of = subst (IsActor world.system) (sym works.of.actor) works.claimed.actor

  abbrev after : Seen
  after = ran world outcome

  read : (a : Actor) → (work_of after a ≡ work_of world a) ⊎ (work_of after a ≡ None)
  read = ran-read world books w outcome works.over of works.comes.0.run

  terminal-most : (t : ℕ) → one_of (work_of after (actor.Terminal t)) ≤ one_of (work_of world (actor.Terminal t))
  terminal-most t = one-most _ _ (read (actor.Terminal t))

  process-most : (c i : ℕ) → one_of (work_of after (actor.Process c i)) ≤ one_of (work_of world (actor.Process c i))
  process-most c i = one-most _ _ (read (actor.Process c i))

  abbrev terminals_in : Seen → ℕ
  terminals_in x = sum_below (length world.system.terminals) (λ t. one_of (work_of x (actor.Terminal t)))

  abbrev in_class : Seen → ℕ → ℕ
  in_class x c = sum_below (processes_by (slice_get world.system.classes c) + 1) (λ i. one_of (work_of x (actor.Process c i)))

  abbrev processes_in : Seen → ℕ
  processes_in x = sum_below (length world.system.classes) (in_class x)

  class-most : (c : ℕ) → in_class after c ≤ in_class world c
  class-most c = sum-most (processes_by (slice_get world.system.classes c) + 1) _ _ (process-most c)

  fewer : (given : Context) → work_of world outcome.actor ≡ Some given → (a : Actor) → outcome.actor ≡ a → unread after < unread world
  fewer given is (actor.Terminal t) own =
      let low : t < length world.system.terminals = subst (IsActor world.system) own of in
      let none : work_of after (actor.Terminal t) ≡ None = subst (λ a. work_of after a ≡ None) own (ran-none world books w outcome works.over of works.comes.0.run given is) in
      let some : work_of world (actor.Terminal t) ≡ Some given = subst (λ a. work_of world a ≡ Some given) own is in
      first-less (terminals_in after) (terminals_in world) (processes_in after) (processes_in world)
      (sum-less (length world.system.terminals) (λ u. one_of (work_of after (actor.Terminal u))) (λ u. one_of (work_of world (actor.Terminal u))) t low terminal-most (one-less _ _ given none some))
      (sum-most (length world.system.classes) _ _ class-most)
  fewer given is (actor.Process c i) own =
      let there = subst (IsActor world.system) own of in
      let low : c < length world.system.classes = class-there world.system c i there.0 there.1 in
      let within : i < processes_by (slice_get world.system.classes c) + 1 = let high = there.1 in omega (arith, high) in
      let none : work_of after (actor.Process c i) ≡ None = subst (λ a. work_of after a ≡ None) own (ran-none world books w outcome works.over of works.comes.0.run given is) in
      let some : work_of world (actor.Process c i) ≡ Some given = subst (λ a. work_of world a ≡ Some given) own is in
      second-less (terminals_in after) (terminals_in world) (processes_in after) (processes_in world)
      (sum-most (length world.system.terminals) _ _ terminal-most)
      (sum-less (length world.system.classes) (in_class after) (in_class world) c low class-most
      (sum-less (processes_by (slice_get world.system.classes c) + 1) (λ j. one_of (work_of after (actor.Process c j))) (λ j. one_of (work_of world (actor.Process c j))) i within (process-most c) (one-less _ _ given none some)))
  fewer given is (actor.Pair p) own = let none : None ≡ Some given = subst (λ a. work_of world a ≡ Some given) own is in absurd (cc none)
  fewer given is (actor.Class c) own = let none : None ≡ Some given = subst (λ a. work_of world a ≡ Some given) own is in absurd (cc none)

  less : (given : Context) → work_of world outcome.actor ≡ Some given → unready after < unready world
  less given is =
      let same : unbuilt after ≡ unbuilt world = ap (λ (pairs : ℕ → SeenPair). sum_below (length world.system.tcps) (λ p. count_by is_waiting (pairs p).seats)) (pairs-stay world outcome) in
      first-less (unread after) (unread world) (unbuilt after) (unbuilt world) (fewer given is outcome.actor refl) (omega (arith, same))

  -- who had nothing to run on has a step
  not-read : work_of world outcome.actor ≡ None → ⊥
  not-read none = by works.claimed.may
    where
      same : world ≡ after
      same = sym (ap (λ o. record world { kept = ran_from o outcome world.kept }) none)

      by : MayWork world works.task.actor → ⊥
      by (inl step) = works.comes.1 (subst (λ (x : Seen). HasEnabledStep x outcome.actor) same (subst (HasEnabledStep world) (sym works.of.actor) step))
      by (inr work) = absurd (cc (subst (λ a. work_of world a ≡ None) works.of.actor none, work.1))

  -- an actor that has no step now has run on
  pub held-less : unready new < unready world
  held-less = subst (λ (x : Seen). unready x < unready world) (sym works.leaves) (by (work_of world outcome.actor) refl)
    where
      by : (o : Option Context) → work_of world outcome.actor ≡ o → unready after < unready world
      by None none = absurd (not-read none)
      by (Some given) is = less given is

-- where nobody is out, whoever may work does
pub never-idle : (world : Seen) → IsNobodyOut world → IsWorldIdle world → ⊥
never-idle world inside idle =
    let one = idle.one in absurd (cc (inside one.0, idle.each one.0 one.1.0 one.1.1))
