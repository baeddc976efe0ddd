-- The one failure of a generated deck comes while its pair is up to date, so that no pair is lost.
use Rattle.std.proofs.Common.{◌≡◌, ◌⊎◌, inl, inr, ⊎_elim, ℕ, ◌≤◌, Bool, true, false, cond, List, [], ◌∷◌, ◌++◌, length, Some, None, refl, ap, sym, subst, arith, append_assoc, ◌∙◌}
use Rattle.std.specs.Prelude.{nat_le}
use Rattle.std.proofs.lemmas.Bool.{cases_eq, leb-true, true≢false}
use Rattle.std.proofs.lemmas.Option.{same_Some}
use Rattle.pw_event.specs.Due.{Numbered, due_line, if_due, is_open, owner_entry_count}
use Rattle.pw_event.specs.declared.event.Ending.{Ending}
use Rattle.pw_event.specs.declared.event.Ending.TheVariants as ending
use Rattle.pw_event.specs.declared.event.Event.{Event}
use Rattle.pw_event.specs.declared.event.Event.TheVariants as event
use Rattle.pw_event.specs.declared.script.FailLine.{FailLine}
use Rattle.pw_event.specs.declared.script.FailLine.TheVariants as line
use Rattle.pw_event.specs.declared.script.Owner.TheVariants.{Tcp}
use Rattle.pw_generated_runs.proofs.Raised.{IsYoung, grows, young-few, young-first}
use Rattle.pw_generated_runs.specs.Finished.{one_failure}
use Rattle.pw_laws.proofs.RunSteps.{IsRunFrom-append, run-parts}
use Rattle.pw_laws.proofs.induction.Failed.{end-cases}
use Rattle.pw_laws.proofs.induction.Runs.{holds-behind}
use Rattle.pw_laws.proofs.induction.Served.{file-cases, reply-any}
use Rattle.pw_laws.proofs.restarts.Counting.{weight}
use Rattle.pw_laws.proofs.restarts.Failures.{fails-more, fails_in, few-fails}
use Rattle.pw_laws.proofs.restarts.Few.{log-from}
use Rattle.pw_laws.proofs.steps.Living.{ending-stays}
use Rattle.pw_laws.specs.runs.Losses.{Breaks}
use Rattle.pw_laws.specs.serial.Guarded.{IsGuarded, is_fail}
use Rattle.pw_onecopy.proofs.Update.{upd_elim, upd-same}
use Rattle.pw_onecopy.specs.Behaviour.{Behaviour}
use Rattle.pw_onecopy.specs.Update.{upd}
use Rattle.pw_paired.specs.Failure.{fail_line}
use Rattle.pw_paired.specs.Raising.{settled_mode}
use Rattle.pw_paired.specs.State.{Alone, Down, PairMode, Paired, Raising, State, Term, starting}
use Rattle.pw_paired.specs.Step.{Fits, IsRun, Legal, after, change, effect}

-- ---- a pair that is up to date stays so until a failure

module _ (sys : Behaviour) (p : ℕ) (s : State) (paired : s.modes p ≡ Paired) where
  settled : (q : ℕ) (lacks : Bool) → upd s.modes q (settled_mode (s.modes q) lacks) p ≡ Paired
  settled q lacks =
      upd_elim s.modes q (settled_mode (s.modes q) lacks) p (λ (m : PairMode). m ≡ Paired)
      (λ same. ap (λ (m : PairMode). settled_mode m lacks) (ap s.modes (sym same) ∙ paired)) (λ _. paired)

  raised-not : (q : ℕ) (mode next : PairMode) → s.modes q ≡ mode → (mode ≡ Paired → ⊥) → upd s.modes q next p ≡ Paired
  raised-not q mode next was other =
      upd_elim s.modes q next p (λ (m : PairMode). m ≡ Paired) (λ same. absurd (other (sym was ∙ (ap s.modes (sym same) ∙ paired)))) (λ _. paired)

  stays-paired : (entry : Event) → Fits sys s entry → is_fail entry ≡ false → (change sys s entry).modes p ≡ Paired
  stays-paired (event.Show own stage attempt k) l calm = paired
  stays-paired (event.Key own k) l calm = paired
  stays-paired (event.CheckStart own) l calm = paired
  stays-paired (event.CheckEnd own) l calm = paired
  stays-paired (event.CheckCopy own) l calm = paired
  stays-paired (event.Applied own) l calm = settled (sys.pair_of own) _
  stays-paired (event.Begin own n r) l calm = paired
  stays-paired (event.Send own n c) l calm = paired
  stays-paired (event.Take c i own) l calm = paired
  stays-paired (event.File c i op mode f status) l calm = file-cases sys s c i (λ (x : State). x.modes p ≡ Paired) paired (λ job call works asks. paired)
  stays-paired (event.Reply c i own fault) l calm = reply-any sys s c i own (λ (x : State). x.modes p ≡ Paired) fault (λ reply outside. paired) (λ reply inside. paired) (λ x. paired)
  stays-paired (event.Again own n) l calm = paired
  stays-paired (event.Commit own n) l calm = paired
  stays-paired (event.Back own n) l calm = paired
  stays-paired (event.Restart own n kind) l calm = paired
  stays-paired (event.FailTcp q primary k) l calm = absurd (true≢false calm)
  stays-paired (event.FailServer c i k) l calm = absurd (true≢false calm)
  stays-paired (event.Takeover q) l calm = raised-not q Down Alone l.down (λ is. absurd (cc is))
  stays-paired (event.Raise q) l calm = raised-not q Alone Raising l.alone (λ is. absurd (cc is))
  stays-paired (event.End own e) l calm =
      end-cases sys s (λ (x : State). x.modes p ≡ Paired) own e l (λ _. settled (sys.pair_of own) _) (λ _. settled (sys.pair_of own) _) (λ _. settled (sys.pair_of own) _)

-- the log of a state is the log behind which it is
logged : (sys : Behaviour) (log : List Event) → (after sys log).log ≡ log
logged sys log = log-from sys (starting sys) log

-- before the first failure a pair is up to date, or young
abbrev IsSafe : Behaviour → ℕ → State → Type 0
IsSafe sys p s = fails_in s.log ≡ 0 → (s.modes p ≡ Paired) ⊎ IsYoung sys p s

no-fail : (b : Bool) → weight b ≡ 0 → b ≡ false
no-fail true none = absurd (omega (arith, none))
no-fail false none = refl

safe-more : (sys : Behaviour) (p : ℕ) (s : State) (entry : Event) → Legal sys s entry → IsSafe sys p s → IsSafe sys p (effect sys s entry)
safe-more sys p s entry legal safe none =
    let more = fails-more s.log entry in
    let before : fails_in s.log ≡ 0 = omega (arith, more, none) in
    let here : weight (is_fail entry) ≡ 0 = omega (arith, more, none) in
    let calm : is_fail entry ≡ false = no-fail (is_fail entry) here in
    ⊎_elim (λ paired. inl (stays-paired sys p s paired entry legal.fits calm)) (λ young. grows sys p s young entry legal.fits calm) (safe before)

safe : (sys : Behaviour) (p : ℕ) (log : List Event) → IsRun sys log → IsSafe sys p (after sys log)
safe sys p log run =
    holds-behind sys (IsSafe sys p) (λ log run entry legal now. safe-more sys p (after sys log) entry legal now)
    (λ none. inr (young-first sys p (starting sys) refl refl (λ j. (refl, refl, refl)))) log run

-- ---- when the line is due

record IsDue (pair_of : ℕ → ℕ) (log : List Event) (p k : ℕ) : Type 0 where
  late : 200 ≤ owner_entry_count pair_of (Tcp p) log
  number : k ≡ 1

abbrev first_line : Numbered
first_line = record { number = 1; line = line.Tcp 0 true 200 }

due-reached : (pair_of : ℕ → ℕ) (log : List Event) (p k : ℕ) (b : Bool) → nat_le 200 (owner_entry_count pair_of (Tcp p) log) ≡ b → cond b (Some 1) None ≡ Some k
    → IsDue pair_of log p k
due-reached pair_of log p k true is some = record { late = leb-true 200 (owner_entry_count pair_of (Tcp p) log) is; number = sym (same_Some 1 k some) }
due-reached pair_of log p k false is some = absurd cc

due-open : (pair_of : ℕ → ℕ) (log : List Event) (p k : ℕ) (b : Bool) → if_due (owner_entry_count pair_of (Tcp p) log) (cond b (Some first_line) None) ≡ Some k → IsDue pair_of log p k
due-open pair_of log p k true some = due-reached pair_of log p k (nat_le 200 (owner_entry_count pair_of (Tcp p) log)) refl some
due-open pair_of log p k false some = absurd cc

due-late : (pair_of : ℕ → ℕ) (log : List Event) (p k : ℕ) → due_line pair_of one_failure log (Tcp p) ≡ Some k → IsDue pair_of log p k
due-late pair_of log p k due = due-open pair_of log p k (is_open log (Tcp p) first_line) due

-- the line names the primary
names-primary : (p : ℕ) (primary : Bool) (k late : ℕ) → k ≡ 1 → fail_line one_failure k ≡ Some (line.Tcp p primary late) → primary ≡ true
names-primary p primary k late is names =
    let first : Some (line.Tcp 0 true 200) ≡ Some (line.Tcp p primary late) = ap (fail_line one_failure) (sym is) ∙ names in
    sym (cc first)

-- so each run is guarded
pub guarded : (sys : Behaviour) → sys.script ≡ one_failure → sys.terminals ≤ 64 → (log : List Event) → IsRun sys log → IsGuarded sys log
guarded sys script few log run before behind p primary k is breaks =
    let parts = run-parts sys log before (event.FailTcp p primary k ∷ behind) run is in
    let s : State = after sys before in
    let legal : Legal sys s (event.FailTcp p primary k) = parts.1.0 in
    let due : due_line sys.pair_of one_failure s.log (Tcp p) ≡ Some k = ap (λ (lines : List FailLine). due_line sys.pair_of lines s.log (Tcp p)) (sym script) ∙ legal.due in
    let late = due-late sys.pair_of s.log p k due in
    let first : primary ≡ true = names-primary p primary k legal.fits.after late.number (ap (λ (lines : List FailLine). fail_line lines k) (sym script) ∙ legal.fits.names) in
    let longer : IsRun sys (before ++ event.FailTcp p primary k ∷ []) = IsRunFrom-append sys (starting sys) before (event.FailTcp p primary k ∷ []) parts.0 (legal, tt) in
    let whole = few-fails sys (before ++ event.FailTcp p primary k ∷ []) longer in
    let named = logged sys (before ++ event.FailTcp p primary k ∷ []) in
    let more = fails-more before (event.FailTcp p primary k) in
    let one : length sys.script ≡ 1 = ap (λ (lines : List FailLine). length lines) script in
    let none : fails_in s.log ≡ 0 = let same = ap fails_in named in let own = ap fails_in (logged sys before) in omega (arith, whole, same, own, more, one) in
    let broken : Breaks true (s.modes p) = subst (λ (b : Bool). Breaks b (s.modes p)) first breaks in
    ⊎_elim
    (λ paired. ⊎_elim (λ raising. absurd (cc (paired, raising))) (λ alone. absurd (cc (paired, alone))) broken)
    (λ young. absurd (let count = young-few sys p s young in omega (arith, late.late, count, few)))
    (safe sys p before parts.0 none)

-- ---- an ending has its entry

-- the log has the terminal's END entry
pub record HasEnd (log : List Event) (t : ℕ) (e : Ending) : Type 0 where
  pub before : List Event
  pub behind : List Event
  pub is : log ≡ before ++ event.End t e ∷ behind

is-end : (t : ℕ) (entry : Event) → ((e : Ending) × (entry ≡ event.End t e)) ⊎ ((e : Ending) → entry ≡ event.End t e → ⊥)
is-end t (event.End own e) =
    ⊎_elim (λ same. inl (e, ap (λ (o : ℕ). event.End o e) (sym same))) (λ differ. inr (λ other is. differ (cc is))) (cases_eq t own)
is-end t entry = inr (λ e is. absurd (cc is))

with-ending : (s : State) (t : ℕ) (e : Ending) → (upd s.terms t (record (s.terms t) { pending = None; ending = Some e }) t).ending ≡ Some e
with-ending s t e = ap (λ (x : Term). x.ending) (upd-same s.terms t (record (s.terms t) { pending = None; ending = Some e }) t refl)

pub ends-so : (sys : Behaviour) (s : State) (t : ℕ) (e : Ending) → ((change sys s (event.End t e)).terms t).ending ≡ Some e
ends-so sys s t ending.Stopped = with-ending s t ending.Stopped
ends-so sys s t ending.NoEntries = with-ending s t ending.NoEntries
ends-so sys s t (ending.Fault x) = with-ending s t (ending.Fault x)
ends-so sys s t (ending.Suspended cause) = with-ending s t (ending.Suspended cause)
ends-so sys s t ending.Lost = with-ending s t ending.Lost

abbrev HasEnds : ℕ → State → Type 0
HasEnds t s = (e : Ending) → (s.terms t).ending ≡ Some e → HasEnd s.log t e

ends-more : (sys : Behaviour) (t : ℕ) (s : State) (entry : Event) → Legal sys s entry → HasEnds t s → HasEnds t (effect sys s entry)
ends-more sys t s entry legal has e ended =
    ⊎_elim
    (λ own.
    let now : ((change sys s entry).terms t).ending ≡ Some own.0 = ap (λ (x : Event). ((change sys s x).terms t).ending) own.1 ∙ ends-so sys s t own.0 in
    let same : own.0 ≡ e = cc (now, ended) in
    record { before = s.log; behind = []; is = ap (λ (x : Event). s.log ++ x ∷ []) (own.1 ∙ ap (event.End t) same) })
    (λ other.
    let old = has e (sym (ending-stays sys s t entry legal.fits other) ∙ ended) in
    record {
      before = old.before;
      behind = old.behind ++ entry ∷ [];
      is = ap (λ (l : List Event). l ++ entry ∷ []) old.is ∙ append_assoc old.before (event.End t e ∷ old.behind) (entry ∷ []);
    })
    (is-end t entry)

pub has-end : (sys : Behaviour) (log : List Event) → IsRun sys log → (t : ℕ) (e : Ending) → ((after sys log).terms t).ending ≡ Some e → HasEnd log t e
has-end sys log run t e ended =
    let found = holds-behind sys (HasEnds t) (λ log run entry legal now. ends-more sys t (after sys log) entry legal now) (λ e none. absurd (cc none)) log run e ended in
    subst (λ (l : List Event). HasEnd l t e) (logged sys log) found
