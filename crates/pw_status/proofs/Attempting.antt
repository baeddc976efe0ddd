-- Attempts are counted in a log with one more entry.
use Rattle.std.proofs.Common.{◌≡◌, ℕ, ◌+◌, ◌-◌, ◌^◌, ◌<◌, ◌≤◌, Bool, true, false, List, [], ◌∷◌, ◌++◌, length, length-append, Some, sym, ap, subst, ◌∙◌, arith}
use Rattle.std.proofs.lemmas.List.{length-map}
use Rattle.std.proofs.lemmas.List.Sums.{sum_by-append}
use Rattle.std.proofs.lemmas.Option.{slice_get-get_or, slice_get-map}
use Rattle.std.specs.Option.{option_map}
use Rattle.std.specs.Prelude.{count_by, min, if◌then◌else◌}
use Rattle.pw_code.specs.Limits.{most_log_lines}
use Rattle.pw_code.specs.declared.system.System.{System}
use Rattle.pw_status.proofs.Ending.{commits-in, drops-in, few-running, lefts-in, number}
use Rattle.pw_status.proofs.Running.{next-seats}
use Rattle.pw_status.specs.Attempts.{AreAttemptsOf, AreSeatsOf, AttemptsState, IsStart, attempts_behind, begun_in, commits, drops, first_seat, is_over_by, running_of, stopped_by}
use Rattle.pw_status.specs.Counters.{more_if}
use Rattle.pw_status.specs.Counts.{is_committed, is_dropped, is_left}
use Rattle.pw_status.specs.Over.{begun_terminal, ends_at, left_at, over_at}
use Rattle.pw_event.specs.Line.{no_terminal}
use Rattle.pw_event.specs.declared.event.Event.{Event}
use Rattle.pw_onecopy.specs.Behaviour.{Behaviour}
use Rattle.pw_serial_order.proofs.Reading.{order-grows}
use Rattle.pw_serial_order.specs.Order.{blocks_behind, entry_order}
use Rattle.pw_serial_order.specs.Shadow.{IsOfSystem, reading_after}
use Rattle.pw_serial_order.specs.declared.block.Block.{Block}
use Rattle.pw_paired.specs.State.{OpenUnit, State, starting}
use Rattle.pw_paired.specs.Step.{after}
use Rattle.pw_laws.proofs.induction.Runs.{after-more}

-- a count of the blocks of a log with one more entry
counts-more : (p : Block → Bool) (sys : Behaviour) (log : List Event) (entry : Event) (n : ℕ) → count_by p (blocks_behind sys log entry) ≡ n
    → count_by p (entry_order sys (log ++ entry ∷ [])) ≡ count_by p (entry_order sys log) + n
counts-more p sys log entry n is =
    ap (count_by p) (order-grows sys log entry)
    ∙ (sum_by-append (λ (b : Block). if p b then 1 else 0) (entry_order sys log) (blocks_behind sys log entry)
    ∙ ap (λ (m : ℕ). count_by p (entry_order sys log) + m) is)

-- a counter with room
more-number : (b : Bool) (n m : ℕ) → n ≤ m → m < most_log_lines → more_if b n ≡ n + number b
more-number true n m few low = omega arith
more-number false n m few low = omega arith

number-few : (b : Bool) → number b ≤ 1
number-few true = omega arith
number-few false = omega arith

pub next-attempts : (sys : Behaviour) (log : List Event) (entry : Event) (attempts : AttemptsState) → sys.terminals ≤ 128 → length log < most_log_lines
    → ((t : ℕ) (own : OpenUnit) → (after sys log).units t ≡ Some own → t < sys.terminals) → AreAttemptsOf sys log attempts
    → AreAttemptsOf sys (log ++ entry ∷ []) (attempts_behind (ends_at sys (after sys log) entry) entry attempts)
next-attempts sys log entry attempts few short known are =
    let s : State = after sys log in
    let r = reading_after sys log in
    let over = over_at (ends_at sys s entry) entry in
    let left = left_at (ends_at sys s entry) entry in
    let longer : length (log ++ entry ∷ []) ≡ length log + 1 = length-append log (entry ∷ []) in
    let one_commit = more-number (is_over_by commits over) attempts.committed (length log) are.few_committed short in
    let one_drop = more-number (is_over_by drops over) attempts.dropped (length log) are.few_dropped short in
    let some_left : running_of attempts.seats left ≤ 128 = let at_most = few-running attempts.seats left in let count = are.seats.count in omega (arith, at_most, count) in
    let few_left = are.few_left in
    let fits : min (attempts.left + running_of attempts.seats left) (2 ^ 64 - 1) ≡ attempts.left + running_of attempts.seats left = omega (arith, few_left, some_left) in
    record {
      committed = one_commit ∙ (ap (λ (n : ℕ). n + number (is_over_by commits over)) are.committed ∙ sym (counts-more is_committed sys log entry _ (commits-in sys s r entry)));
      dropped = one_drop ∙ (ap (λ (n : ℕ). n + number (is_over_by drops over)) are.dropped ∙ sym (counts-more is_dropped sys log entry _ (drops-in sys s r entry)));
      left = fits ∙ (ap (λ (n : ℕ). n + running_of attempts.seats left) are.left ∙ sym (counts-more is_left sys log entry _ (lefts-in sys s r attempts.seats are.seats known entry)));
      few_committed = let at_most = number-few (is_over_by commits over) in let before = are.few_committed in omega (arith, one_commit, at_most, before, longer);
      few_dropped = let at_most = number-few (is_over_by drops over) in let before = are.few_dropped in omega (arith, one_drop, at_most, before, longer);
      few_left = omega (arith, fits, few_left, some_left, longer);
      seats = subst (λ (next : State). AreSeatsOf sys next (begun_in (begun_terminal entry) (stopped_by over attempts.seats))) (sym (after-more sys log entry)) (next-seats sys s entry attempts.seats are.seats);
    }

-- before the first entry
pub first-attempts : (system : System) (sys : Behaviour) → IsOfSystem system sys → (attempts : AttemptsState) → IsStart system attempts → AreAttemptsOf sys [] attempts
first-attempts system sys of attempts start = record {
  committed = start.committed;
  dropped = start.dropped;
  left = start.left;
  few_committed = let none = start.committed in omega (arith, none);
  few_dropped = let none = start.dropped in omega (arith, none);
  few_left = let none = start.left in omega (arith, none);
  seats = subst (AreSeatsOf sys (starting sys)) (sym start.seats) (record {
    count = length-map system.terminals first_seat ∙ sym of.terminals;
    seat = λ t known.
        let low : t < length system.terminals = subst (λ (n : ℕ). t < n) of.terminals known in
        slice_get-map first_seat system.terminals t
        ∙ (ap (option_map first_seat) (slice_get-get_or system.terminals t no_terminal low)
        ∙ ap (λ (p : ℕ). Some (record { tcp = p; runs = false })) (of.pair_of t low));
  });
}
