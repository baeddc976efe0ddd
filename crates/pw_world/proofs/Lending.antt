-- The first seat of a pair whose message waits is the one of its terminal, since no terminal has two.
use Rattle.std.proofs.Common.{◌≡◌, ◌∙◌, ◌==◌, ℕ, Bool, true, false, List, [], ◌∷◌, Option, Some, None, eq-eqb, map, refl, subst, sym, inl, inr}
use Rattle.std.proofs.lemmas.Bool.{cases_Bool}
use Rattle.std.specs.List.{AllByRecursion, IsDistinct}
use Rattle.std.specs.Option.{option_map}
use Rattle.std.specs.Prelude.{find}
use Rattle.pw_base.proofs.Plain.{some_is}
use Rattle.pw_pair.specs.SeenTask.{SeenTask}
use Rattle.pw_pair.specs.Seats.{flies_waiting, is_seat_of, is_waiting, start_of}
use Rattle.pw_pair.specs.Tasks.{task_at, task_in}
use Rattle.pw_pair.specs.declared.seat.BackupSeat.{BackupSeat}
use Rattle.pw_pair.specs.declared.seat.Flight.{Flight}

abbrev terminals : List BackupSeat → List ℕ
terminals seats = map (λ (seat : BackupSeat). seat.terminal) seats

-- what holds of all terminals holds of that of a seat that is found
found-all : (P : ℕ → Type 0) (test : BackupSeat → Bool) (seats : List BackupSeat) (seat : BackupSeat) → AllByRecursion P (terminals seats)
    → find test seats ≡ Some seat → P seat.terminal
found-all P test [] seat each found = absurd (cc found)
found-all P test (x ∷ xs) seat each found =
    elim (cases_Bool (test x)) [
      | inl passes ↦ let here : Some x ≡ Some seat = rw passes at found in subst (λ (s : BackupSeat). P s.terminal) (some_is here) each.0
      | inr fails ↦ let later : find test xs ≡ Some seat = rw fails at found in found-all P test xs seat each.1 later
    ]

found-test : (test : BackupSeat → Bool) (seats : List BackupSeat) (seat : BackupSeat) → find test seats ≡ Some seat → test seat ≡ true
found-test test [] seat found = absurd (cc found)
found-test test (x ∷ xs) seat found =
    elim (cases_Bool (test x)) [
      | inl passes ↦ let here : Some x ≡ Some seat = rw passes at found in subst (λ s. test s ≡ true) (some_is here) passes
      | inr fails ↦ let later : find test xs ≡ Some seat = rw fails at found in found-test test xs seat later
    ]

pub waits : (seats : List BackupSeat) (seat : BackupSeat) → find is_waiting seats ≡ Some seat → is_waiting seat ≡ true
waits seats seat found = found-test is_waiting seats seat found

pub own-seat : (test : BackupSeat → Bool) (seats : List BackupSeat) (seat : BackupSeat) → IsDistinct (λ a b. a == b) (terminals seats)
    → find test seats ≡ Some seat → find (is_seat_of seat.terminal) seats ≡ Some seat
unfolding IsDistinct
own-seat test [] seat distinct found = absurd (cc found)
own-seat test (x ∷ xs) seat distinct found =
    elim (cases_Bool (test x)) [
      | inl passes ↦
          let here : Some x ≡ Some seat = rw passes at found in
          let own : (x.terminal == x.terminal) ≡ true = eq-eqb x.terminal x.terminal refl in
          let first : find (is_seat_of x.terminal) (x ∷ xs) ≡ Some x = rw own refl in
          subst (λ (s : BackupSeat). find (is_seat_of s.terminal) (x ∷ xs) ≡ Some s) (some_is here) first
      | inr fails ↦
          let later : find test xs ≡ Some seat = rw fails at found in
          let other : (x.terminal == seat.terminal) ≡ false =
          found-all (λ y. (x.terminal == y) ≡ false) test xs seat distinct.0 later in
          let rest = own-seat test xs seat distinct.1 later in
          rw other rest
    ]

-- ---- the task of a message that waits

waits-task : (terminal : ℕ) (held : Option (List ℕ)) (flight : Option Flight) → flies_waiting flight ≡ true
    → (task : SeenTask) × ((task_in terminal held flight ≡ Some task) × (task.terminal ≡ terminal))
waits-task terminal held None waits = absurd (cc waits)
waits-task terminal held (Some flight) waits =
    let task : SeenTask = record { terminal = terminal; message = flight.message; held = held } in
    elim (cases_Bool flight.built) [
      | inl built ↦ let clash : false ≡ true = rw built at waits in absurd (cc clash)
      | inr unbuilt ↦
          let here : task_in terminal held (Some flight) ≡ Some task = rw unbuilt refl in
          (task, (here, refl))
    ]

of-found : (found : Option BackupSeat) (t : ℕ) → ((seat : BackupSeat) → found ≡ Some seat → is_waiting seat ≡ true)
    → Some t ≡ option_map (λ (seat : BackupSeat). seat.terminal) found
    → (task : SeenTask) × ((task_at found ≡ Some task) × (task.terminal ≡ t))
of-found None t waiting e = absurd (cc e)
of-found (Some seat) t waiting e =
    let it = waits-task seat.terminal (start_of seat.memory) seat.flight (waiting seat refl) in
    (it.0, (it.1.0, it.1.1 ∙ sym (some_is e)))

-- the first seat whose message waits has a task, which is of its terminal
pub first-task : (seats : List BackupSeat) (t : ℕ)
    → Some t ≡ option_map (λ (seat : BackupSeat). seat.terminal) (find is_waiting seats)
    → (task : SeenTask) × ((task_at (find is_waiting seats) ≡ Some task) × (task.terminal ≡ t))
first-task seats t e = of-found (find is_waiting seats) t (λ seat found. waits seats seat found) e
