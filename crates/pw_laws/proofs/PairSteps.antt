-- A pair that is not up to date has a step.
use Rattle.std.proofs.Common.{◌≡◌, ◌≢◌, ℕ, zero, suc, ◌+◌, ◌-◌, ◌≤◌, ⊎_elim, inl, inr, Bool, true, false, not, ◌&&◌, is_some, is_none, List, [], ◌∷◌, Option, Some, None, find, cond, refl, ap, sym, subst, ◌∙◌, arith}
use Rattle.std.specs.List.{list_any, slice_get}
use Rattle.std.proofs.lemmas.Bool.{cases_lt, cases_Bool, eq-eqb, eqb-true, true≢false, and_from}
use Rattle.pw_base.proofs.Plain.{and-first, and-second}
use Rattle.pw_event.specs.Due.{Numbered, due_line, owner_entry_count, if_due, is_fail_of, is_same_owner, next_failure, numbered, owner_of, owner_of_line}
use Rattle.pw_event.specs.declared.event.Cause.{Cause}
use Rattle.pw_event.specs.declared.event.Cause.TheVariants as cause
use Rattle.pw_event.specs.declared.event.Ending.{Ending}
use Rattle.pw_event.specs.declared.event.Ending.TheVariants as ending
use Rattle.pw_event.specs.declared.event.Event.{Event}
use Rattle.pw_event.specs.declared.event.Event.TheVariants.{CheckCopy, Applied, Restart, FailTcp, FailServer, Takeover, Raise, End}
use Rattle.pw_event.specs.declared.script.FailLine.{FailLine}
use Rattle.pw_event.specs.declared.script.FailLine.TheVariants as line
use Rattle.pw_event.specs.declared.script.Owner.{Owner}
use Rattle.pw_event.specs.declared.script.Owner.TheVariants.{Tcp, Class}
use Rattle.pw_onecopy.specs.Behaviour.{Behaviour}
use Rattle.pw_onecopy.specs.IsBehaviour.{IsBehaviour}
use Rattle.pw_paired.specs.Failure.{IsCaused, fail_line, is_live_of, is_of_pair}
use Rattle.pw_paired.specs.Raising.{is_takeover}
use Rattle.pw_paired.specs.State.{Alone, Down, Gone, BackupCopy, Message, PairMode, Paired, Raising, State, starting}
use Rattle.pw_paired.specs.Step.{Fits, IsRun, after, is_finished, is_going_on, line_due, line_wanted}
use Rattle.pw_paired.specs.Terminal.{IsLive}
use Rattle.pw_paired.specs.Units.{any_below}
use Rattle.pw_laws.proofs.BeginsOnce.{few-restarts}
use Rattle.pw_laws.proofs.Lacking.{any_below-some, any_below-true, lacking}
use Rattle.pw_laws.proofs.Pending.{pending-ok, pending-runs}
use Rattle.pw_laws.specs.progress.Running.{HasStep}
use Rattle.pw_laws.proofs.kept.Runs.{kept-at-start, kept-from}

-- owners that are the same
same-owner : (a b : Owner) → is_same_owner a b ≡ true → b ≡ a
same-owner (Tcp p) (Tcp q) is = ap Tcp (sym (eqb-true p q is))
same-owner (Tcp p) (Class d) is = absurd (true≢false (sym is))
same-owner (Class c) (Tcp q) is = absurd (true≢false (sym is))
same-owner (Class c) (Class d) is = ap Class (sym (eqb-true c d is))

-- a numbered line that is found stands in the script under its number
pub found-line : (test : Numbered → Bool) (lines : List FailLine) (start : ℕ) (l : Numbered) → find test (numbered start lines) ≡ Some l
    → (test l ≡ true) × (start ≤ l.number) × (slice_get lines (l.number - start) ≡ Some l.line)
found-line test [] start l found = absurd (cc found)
found-line test (first ∷ lines) start l found = by (test (record { number = start; line = first })) refl (λ later. found-line test lines (start + 1) l later) found
  where
    by : (b : Bool) → test (record { number = start; line = first }) ≡ b
        → (find test (numbered (start + 1) lines) ≡ Some l → (test l ≡ true) × (start + 1 ≤ l.number) × (slice_get lines (l.number - (start + 1)) ≡ Some l.line))
        → cond b (Some (record { number = start; line = first })) (find test (numbered (start + 1) lines)) ≡ Some l
        → (test l ≡ true) × (start ≤ l.number) × (slice_get (first ∷ lines) (l.number - start) ≡ Some l.line)
    by true is behind same =
        let here : record { number = start; line = first } ≡ l = cc same in
        subst (λ (x : Numbered). (test x ≡ true) × (start ≤ x.number) × (slice_get (first ∷ lines) (x.number - start) ≡ Some x.line)) here
        (is, omega arith, ap (slice_get (first ∷ lines)) (let none : start - start ≡ 0 = omega arith in none))
    by false is behind later =
        let rest = behind later in
        let low = rest.1 in (
          rest.0,
          omega (arith, low),
          ap (slice_get (first ∷ lines)) (let next : l.number - start ≡ suc (l.number - (start + 1)) = omega (arith, low) in next) ∙ rest.2,
        )

-- lines count from 1
from-one : (lines : List FailLine) (k : ℕ) → 1 ≤ k → fail_line lines k ≡ slice_get lines (k - 1)
from-one lines zero there = absurd (omega (arith, there))
from-one lines (suc k) there = ap (slice_get lines) (let next : k ≡ suc k - 1 = omega arith in next)

module _ (sys : Behaviour) (s : State) (unfinished : is_finished sys s ≡ false) where
  -- a failure line that is due has its FAIL entry
  fail-step : (owner : Owner) (k : ℕ) → due_line sys.pair_of sys.script s.log owner ≡ Some k → HasStep sys s
  fail-step owner k due = by (next_failure sys.script s.log owner) refl due
    where
      entry-for : (l : Numbered) → is_same_owner (owner_of_line l.line) owner ≡ true → fail_line sys.script l.number ≡ Some l.line → l.number ≡ k → HasStep sys s
      entry-for l own names number = of l.line refl
        where
          of : (it : FailLine) → l.line ≡ it → HasStep sys s
          of (line.Tcp p primary count) is = record {
            entry = FailTcp p primary k;
            legal = record {
              unfinished = unfinished;
              due = subst (λ (o : Owner). due_line sys.pair_of sys.script s.log o ≡ Some k) (same-owner (owner_of_line l.line) owner own ∙ ap owner_of_line is) due;
              fits = record { after = count; names = subst (λ (n : ℕ). fail_line sys.script n ≡ Some l.line) number names ∙ ap Some is };
            };
          }
          of (line.Server c i count) is = record {
            entry = FailServer c i k;
            legal = record {
              unfinished = unfinished;
              due = subst (λ (o : Owner). due_line sys.pair_of sys.script s.log o ≡ Some k) (same-owner (owner_of_line l.line) owner own ∙ ap owner_of_line is) due;
              fits = record { after = count; names = subst (λ (n : ℕ). fail_line sys.script n ≡ Some l.line) number names ∙ ap Some is };
            };
          }

      by : (found : Option Numbered) → next_failure sys.script s.log owner ≡ found → if_due (owner_entry_count sys.pair_of owner s.log) found ≡ Some k → HasStep sys s
      by None is due = absurd (cc due)
      by (Some l) is due =
          let found = found-line (λ x. is_same_owner (owner_of_line x.line) owner && not (list_any (is_fail_of x.number) s.log)) sys.script 1 l is in
          entry-for l (and-first (is_same_owner (owner_of_line l.line) owner) (not (list_any (is_fail_of l.number) s.log)) found.0) (from-one sys.script l.number found.1 ∙ found.2) (cond-number _ due)
        where
          cond-number : (b : Bool) → cond b (Some l.number) None ≡ Some k → l.number ≡ k
          cond-number true is = cc is
          cond-number false is = absurd (cc is)

  -- an entry that fits is legal, or a failure line is due
  pub step-of : (entry : Event) → line_wanted entry ≡ None → Fits sys s entry → HasStep sys s
  step-of entry wanted fits = by (line_due sys s entry) refl
    where
      by : (due : Option ℕ) → line_due sys s entry ≡ due → HasStep sys s
      by None is = record { entry = entry; legal = record { unfinished = unfinished; due = is ∙ sym wanted; fits = fits } }
      by (Some k) is = fail-step (owner_of sys.pair_of entry) k is

-- a TAKEOVER that is pending
pub takeover-cause : (pending : Option Cause) → is_takeover pending ≡ true → (q : ℕ) × (pending ≡ Some (cause.Takeover q))
takeover-cause None is = absurd (true≢false (sym is))
takeover-cause (Some (cause.Takeover q)) is = (q, refl)
takeover-cause (Some (cause.Older t n)) is = absurd (true≢false (sym is))
takeover-cause (Some (cause.Server k)) is = absurd (true≢false (sym is))
takeover-cause (Some cause.Redo) is = absurd (true≢false (sym is))

-- where a live terminal's pair is not up to date, an entry is legal
pub pair-steps : (sys : Behaviour) → IsBehaviour sys → (log : List Event) → IsRun sys log → (t : ℕ) → IsLive sys (after sys log) t
    → (after sys log).modes (sys.pair_of t) ≢ Paired → HasStep sys (after sys log)
pair-steps sys b log run t live other = by (s.modes p) refl
  where
    s : State
    s = after sys log

    p : ℕ
    p = sys.pair_of t

    unfinished : is_finished sys s ≡ false
    unfinished = ap not (any_below-true sys.terminals (is_going_on s) t live.known (ap is_none live.going_on))

    live-of : is_live_of sys p s t ≡ true
    live-of = and_from (is_of_pair sys p t) (is_none (s.terms t).ending) (eq-eqb p p refl) (ap is_none live.going_on)

    -- a takeover is pending for a terminal of the pair
    restart : s.modes p ≡ Alone → (o : ℕ) → sys.pair_of o ≡ p → is_takeover (s.terms o).pending ≡ true → HasStep sys s
    restart alone o of pends =
        let pending = takeover-cause (s.terms o).pending pends in
        let mode : s.modes (sys.pair_of o) ≡ Alone = ap s.modes of ∙ alone in
        let runs = pending-runs sys b log run o (cause.Takeover pending.0) pending.1 in
        let few = few-restarts sys b log run o runs.unit runs.is_open in
        let caused : IsCaused sys s o runs.unit.number (cause.Takeover pending.0) runs.unit = record { is_open = runs.is_open; number = refl; start = runs.start; runs = runs.runs; holds = record { pending = pending.1; alone = mode } } in
        ⊎_elim
        (λ less. step-of sys s unfinished (Restart o runs.unit.number (cause.Takeover pending.0)) refl (record { unit = runs.unit; caused = caused; few = less }))
        (λ full. step-of sys s unfinished (End o (ending.Suspended (cause.Takeover pending.0))) refl (record { unit = runs.unit; caused = caused; full = omega (arith, few, full) }))
        (cases_lt runs.unit.restarts (sys.max_restarts o))

    going : (e : Option Ending) → is_none e ≡ true → e ≡ None
    going None is = refl
    going (Some e) is = absurd (true≢false (sym is))

    -- memory lacks a terminal of the pair
    raise-on : s.modes p ≡ Raising → HasStep sys s
    raise-on raising =
        let one = any_below-some sys.terminals (λ j. is_live_of sys p s j && not (is_some (s.memory j))) (lacking sys p log run raising) in
        let here : is_live_of sys p s one.0 ≡ true = and-first (is_live_of sys p s one.0) (not (is_some (s.memory one.0))) one.2 in
        let of : sys.pair_of one.0 ≡ p = eqb-true (sys.pair_of one.0) p (and-first (is_of_pair sys p one.0) (is_none (s.terms one.0).ending) here) in
        let is_live : IsLive sys s one.0 = record { known = one.1; going_on = going (s.terms one.0).ending (and-second (is_of_pair sys p one.0) (is_none (s.terms one.0).ending) here) } in
        by-flight one.0 (ap s.modes of ∙ raising) is_live (empty (s.memory one.0) (and-second (is_live_of sys p s one.0) (not (is_some (s.memory one.0))) one.2)) (s.flight one.0) refl
      where
        empty : (m : Option BackupCopy) → not (is_some m) ≡ true → m ≡ None
        empty None is = refl
        empty (Some held) is = absurd (true≢false (sym is))

        by-flight : (o : ℕ) → s.modes (sys.pair_of o) ≡ Raising → IsLive sys s o → s.memory o ≡ None → (flight : Option Message) → s.flight o ≡ flight → HasStep sys s
        by-flight o mode is_live none None free = step-of sys s unfinished (CheckCopy o) refl (record { live = is_live; raising = mode; lacking = none; free = free })
        by-flight o mode is_live none (Some message) flies = step-of sys s unfinished (Applied o) refl (record { message = message; flies = flies; mode = inl mode })

    by : (mode : PairMode) → s.modes p ≡ mode → HasStep sys s
    by Paired is = absurd (other is)
    by Gone is = step-of sys s unfinished (End t ending.Lost) refl (record { live = live; lost = is })
    by Down is = step-of sys s unfinished (Takeover p) refl (record { down = is })
    by Raising is = raise-on is
    by Alone is =
        ⊎_elim
        (λ some.
        let one = any_below-some sys.terminals (λ j. is_of_pair sys p j && is_takeover (s.terms j).pending) some in
        restart is one.0 (eqb-true (sys.pair_of one.0) p (and-first (is_of_pair sys p one.0) (is_takeover (s.terms one.0).pending) one.2)) (and-second (is_of_pair sys p one.0) (is_takeover (s.terms one.0).pending) one.2))
        (λ none. step-of sys s unfinished (Raise p) refl (record { alone = is; wanted = any_below-true sys.terminals (is_live_of sys p s) t live.known live-of; calm = none }))
        (cases_Bool (any_below sys.terminals (λ j. is_of_pair sys p j && is_takeover (s.terms j).pending)))

-- where a message of a live terminal is in flight, an entry is legal
pub message-steps : (sys : Behaviour) → IsBehaviour sys → (log : List Event) → IsRun sys log → (t : ℕ) → IsLive sys (after sys log) t
    → (after sys log).flight t ≢ None → HasStep sys (after sys log)
message-steps sys b log run t live flies = by ((after sys log).modes (sys.pair_of t)) refl
  where
    applies : (flight : Option Message) → (after sys log).flight t ≡ flight → (after sys log).modes (sys.pair_of t) ≡ Paired → HasStep sys (after sys log)
    applies None none mode = absurd (flies none)
    applies (Some message) is mode =
        step-of sys (after sys log) (ap not (any_below-true sys.terminals (is_going_on (after sys log)) t live.known (ap is_none live.going_on)))
        (Applied t) refl (record { message = message; flies = is; mode = inr mode })

    by : (mode : PairMode) → (after sys log).modes (sys.pair_of t) ≡ mode → HasStep sys (after sys log)
    by Paired is = applies ((after sys log).flight t) refl is
    by Gone is = pair-steps sys b log run t live (λ paired. absurd (cc (is, paired)))
    by Down is = pair-steps sys b log run t live (λ paired. absurd (cc (is, paired)))
    by Raising is = pair-steps sys b log run t live (λ paired. absurd (cc (is, paired)))
    by Alone is = pair-steps sys b log run t live (λ paired. absurd (cc (is, paired)))

-- where a cause is pending for a live terminal, an entry is legal
pub pending-steps : (sys : Behaviour) → IsBehaviour sys → (log : List Event) → IsRun sys log → (t : ℕ) → IsLive sys (after sys log) t
    → ((after sys log).terms t).pending ≢ None → HasStep sys (after sys log)
pending-steps sys b log run t live pends = by ((after sys log).modes (sys.pair_of t)) refl
  where
    s : State
    s = after sys log

    unfinished : is_finished sys s ≡ false
    unfinished = ap not (any_below-true sys.terminals (is_going_on s) t live.known (ap is_none live.going_on))

    -- by the failure of a process
    restart : (k : ℕ) → (s.terms t).pending ≡ Some (cause.Server k) → s.modes (sys.pair_of t) ≡ Paired → HasStep sys s
    restart k is mode =
        let runs = pending-runs sys b log run t (cause.Server k) is in
        let few = few-restarts sys b log run t runs.unit runs.is_open in
        let caused : IsCaused sys s t runs.unit.number (cause.Server k) runs.unit =
        record { is_open = runs.is_open; number = refl; start = runs.start; runs = runs.runs; holds = record { pending = is; paired = mode } } in
        ⊎_elim
        (λ less. step-of sys s unfinished (Restart t runs.unit.number (cause.Server k)) refl (record { unit = runs.unit; caused = caused; few = less }))
        (λ full. step-of sys s unfinished (End t (ending.Suspended (cause.Server k))) refl (record { unit = runs.unit; caused = caused; full = omega (arith, few, full) }))
        (cases_lt runs.unit.restarts (sys.max_restarts t))

    -- no takeover is pending in a pair with messages
    calm : s.modes (sys.pair_of t) ≡ Paired → is_takeover (s.terms t).pending ≡ false
    calm mode = ((kept-from sys b (starting sys) (kept-at-start sys) log run).terms t live.known).calm (rw mode tt)

    of : (pending : Option Cause) → (s.terms t).pending ≡ pending → s.modes (sys.pair_of t) ≡ Paired → HasStep sys s
    of None is mode = absurd (pends is)
    of (Some (cause.Server k)) is mode = restart k is mode
    of (Some (cause.Takeover q)) is mode = absurd (true≢false (sym (ap is_takeover is) ∙ calm mode))
    of (Some (cause.Older o m)) is mode = absurd (pending-ok sys b log run t (cause.Older o m) is).1
    of (Some cause.Redo) is mode = absurd (pending-ok sys b log run t cause.Redo is).1

    by : (mode : PairMode) → s.modes (sys.pair_of t) ≡ mode → HasStep sys s
    by Paired is = of (s.terms t).pending refl is
    by Gone is = pair-steps sys b log run t live (λ paired. absurd (cc (is, paired)))
    by Down is = pair-steps sys b log run t live (λ paired. absurd (cc (is, paired)))
    by Raising is = pair-steps sys b log run t live (λ paired. absurd (cc (is, paired)))
    by Alone is = pair-steps sys b log run t live (λ paired. absurd (cc (is, paired)))
