-- A run has at most as many failures as the script has lines.
use Rattle.std.proofs.Common.{◌≡◌, ℕ, ◌+◌, ◌-◌, ◌<◌, ◌≤◌, Bool, true, false, not, ◌||◌, ◌&&◌, cond, List, [], ◌∷◌, ◌++◌, length, filter, Option, Some, None, refl, ap, sym, subst, length-append, arith, ◌∙◌}
use Rattle.std.specs.List.{list_any}
use Rattle.std.proofs.lemmas.Bool.{eq-eqb, true≢false}
use Rattle.std.proofs.lemmas.List.Elements.{filter-append}
use Rattle.std.proofs.lemmas.List.Folds.{list_any-append}
use Rattle.std.proofs.lemmas.Option.{slice_get_within}
use Rattle.pw_base.proofs.Plain.{and-second}
use Rattle.pw_event.specs.Due.{Numbered, due_line, owner_entry_count, if_due, is_fail_of, is_same_owner, next_failure, owner_of, owner_of_line}
use Rattle.pw_event.specs.declared.event.Event.{Event}
use Rattle.pw_event.specs.declared.event.Event.TheVariants as event
use Rattle.pw_event.specs.declared.script.Owner.{Owner}
use Rattle.pw_onecopy.specs.Behaviour.{Behaviour}
use Rattle.pw_paired.specs.State.{State}
use Rattle.pw_paired.specs.Step.{IsRun, Legal, after, effect, line_due}
use Rattle.pw_laws.proofs.PairSteps.{found-line}
use Rattle.pw_laws.proofs.induction.Runs.{holds-behind}
use Rattle.pw_laws.proofs.restarts.Counting.{count-all, count-less, count-more, count_below, weight}
use Rattle.pw_laws.specs.serial.Guarded.{is_fail}

-- how many failures a log has
abbrev pub fails_in : List Event → ℕ
fails_in log = length (filter is_fail log)

-- one entry more
pub fails-more : (log : List Event) (entry : Event) → fails_in (log ++ entry ∷ []) ≡ fails_in log + weight (is_fail entry)
fails-more log entry =
    ap (λ (l : List Event). length l) (filter-append is_fail log (entry ∷ []))
    ∙ (length-append (filter is_fail log) (filter is_fail (entry ∷ [])) ∙ ap (λ (k : ℕ). fails_in log + k) (by (is_fail entry)))
  where
    by : (b : Bool) → length (cond b (entry ∷ []) []) ≡ weight b
    by true = refl
    by false = refl

-- the line has no FAIL entry yet; lines count from 1
abbrev pub is_left : List Event → ℕ → Bool
is_left log j = not (list_any (is_fail_of (j + 1)) log)

-- how many lines have none
abbrev pub lines_left : Behaviour → List Event → ℕ
lines_left sys log = count_below (length sys.script) (is_left log)

-- a line that has none behind one entry more had none
left-behind : (log : List Event) (entry : Event) (j : ℕ) → is_left (log ++ entry ∷ []) j ≡ true → is_left log j ≡ true
left-behind log entry j is = by (list_any (is_fail_of (j + 1)) log) refl
  where
    by : (b : Bool) → list_any (is_fail_of (j + 1)) log ≡ b → is_left log j ≡ true
    by false none = ap not none
    by true some =
        absurd (true≢false (sym is ∙ ap not (list_any-append (is_fail_of (j + 1)) log (entry ∷ []) ∙ ap (λ (x : Bool). x || list_any (is_fail_of (j + 1)) (entry ∷ [])) some)))

-- and the line of a FAIL entry has one behind it
fails-line : (log : List Event) (entry : Event) (j : ℕ) → is_fail_of (j + 1) entry ≡ true → is_left (log ++ entry ∷ []) j ≡ false
fails-line log entry j is =
    ap not
    (list_any-append (is_fail_of (j + 1)) log (entry ∷ [])
    ∙ (ap (λ (x : Bool). list_any (is_fail_of (j + 1)) log || (x || false)) is ∙ by (list_any (is_fail_of (j + 1)) log)))
  where
    by : (b : Bool) → (b || true) ≡ true
    by true = refl
    by false = refl

-- the line that is due is one of the script, and has no FAIL entry
due-left : (sys : Behaviour) (log : List Event) (owner : Owner) (k : ℕ) → due_line sys.pair_of sys.script log owner ≡ Some k
    → (1 ≤ k) × (k - 1 < length sys.script) × (is_left log (k - 1) ≡ true)
due-left sys log owner k due = by (next_failure sys.script log owner) refl due
  where
    by : (found : Option Numbered) → next_failure sys.script log owner ≡ found → if_due (owner_entry_count sys.pair_of owner log) found ≡ Some k
        → (1 ≤ k) × (k - 1 < length sys.script) × (is_left log (k - 1) ≡ true)
    by None is none = absurd (cc none)
    by (Some l) is some =
        let found = found-line (λ x. is_same_owner (owner_of_line x.line) owner && not (list_any (is_fail_of x.number) log)) sys.script 1 l is in
        let low = found.1 in
        subst (λ (n : ℕ). (1 ≤ n) × (n - 1 < length sys.script) × (is_left log (n - 1) ≡ true)) (number-is _ some) (
          low,
          slice_get_within sys.script (l.number - 1) l.line found.2,
          subst (λ (n : ℕ). not (list_any (is_fail_of n) log) ≡ true) (let back : l.number ≡ l.number - 1 + 1 = omega (arith, low) in back)
              (and-second (is_same_owner (owner_of_line l.line) owner) (not (list_any (is_fail_of l.number) log)) found.0),
        )
      where
        number-is : (b : Bool) → cond b (Some l.number) None ≡ Some k → l.number ≡ k
        number-is true is = cc is
        number-is false is = absurd (cc is)

module _ (sys : Behaviour) where
  -- failures and lines without one are no more than the lines
  abbrev Fails : State → Type 0
  Fails s = fails_in s.log + lines_left sys s.log ≤ length sys.script

  failed : (s : State) (entry : Event) (k : ℕ) → line_due sys s entry ≡ Some k → is_fail entry ≡ true → is_fail_of k entry ≡ true → Fails s → Fails (effect sys s entry)
  failed s entry k due fail of ok =
      let line = due-left sys s.log (owner_of sys.pair_of entry) k due in
      let low = line.0 in
      let more = fails-more s.log entry in
      let one = ap weight fail in
      let less =
      count-less (length sys.script) (is_left (s.log ++ entry ∷ [])) (is_left s.log) (left-behind s.log entry) (k - 1) line.1
      (fails-line s.log entry (k - 1) (subst (λ (n : ℕ). is_fail_of n entry ≡ true) (let back : k ≡ k - 1 + 1 = omega (arith, low) in back) of)) line.2 in
      omega (arith, more, one, less, ok)

  step-fails : (s : State) (entry : Event) → Legal sys s entry → Fails s → Fails (effect sys s entry)
  step-fails s (event.FailTcp p primary k) legal ok = failed s (event.FailTcp p primary k) k legal.due refl (eq-eqb k k refl) ok
  step-fails s (event.FailServer c i k) legal ok = failed s (event.FailServer c i k) k legal.due refl (eq-eqb k k refl) ok
  step-fails s entry legal ok =
      let more = fails-more s.log entry in
      let none : weight (is_fail entry) ≡ 0 = refl in
      let less = count-more (length sys.script) (is_left (s.log ++ entry ∷ [])) (is_left s.log) (left-behind s.log entry) in
      omega (arith, more, none, less, ok)

  -- so a run has at most as many failures as the script has lines
  pub few-fails : (log : List Event) → IsRun sys log → fails_in (after sys log).log ≤ length sys.script
  few-fails log run =
      let ok : Fails (after sys log) =
      holds-behind sys Fails (λ log run entry legal ok. step-fails (after sys log) entry legal ok)
      (let all = count-all (length sys.script) in omega (arith, all)) log run in
      omega (arith, ok)
