-- A pending cause is one of a running attempt.
use Rattle.std.proofs.Common.{◌≡◌, ℕ, ◌<◌, ⊎_elim, Bool, true, false, if◌then◌else◌, ◌==◌, is_some, List, Option, Some, None, refl, ap, sym, subst, ◌∙◌, arith}
use Rattle.std.proofs.lemmas.Bool.{cases_Bool, cases_lt, cond-false, cond-true, true≢false}
use Rattle.pw_base.proofs.Plain.{and-second}
use Rattle.pw_event.specs.declared.event.Cause.{Cause}
use Rattle.pw_event.specs.declared.event.Cause.TheVariants as cause
use Rattle.pw_event.specs.declared.event.Event.{Event}
use Rattle.pw_event.specs.declared.event.Event.TheVariants.{Show, Key, CheckStart, CheckEnd, CheckCopy, Applied, Begin, Send, Take, File, Reply, Again, Commit, Back, Restart, FailTcp, FailServer, Takeover, Raise, End}
use Rattle.pw_onecopy.proofs.Update.{upd_elim}
use Rattle.pw_onecopy.specs.Behaviour.{Behaviour}
use Rattle.pw_onecopy.specs.IsBehaviour.{IsBehaviour}
use Rattle.pw_onecopy.specs.Path.{PathAnswer}
use Rattle.pw_onecopy.specs.Update.{upd}
use Rattle.pw_paired.specs.Failure.{is_live_of, is_of_pair, resume_terminal, runs_unit, with_start_path}
use Rattle.pw_paired.specs.State.{BackupCopy, OpenUnit, State, Term}
use Rattle.pw_paired.specs.Step.{IsRun, after, effect}
use Rattle.pw_paired.specs.Units.{attempt_of}
use Rattle.pw_laws.specs.progress.Running.{Runs}
use Rattle.pw_laws.proofs.induction.Failed.{end-any, fail-cases, process-cases}
use Rattle.pw_laws.proofs.induction.Moving.{holds-of-view}
use Rattle.pw_laws.proofs.induction.Runs.{holds-behind, kept}
use Rattle.pw_laws.proofs.induction.Served.{file-cases, reply-any}
use Rattle.pw_laws.proofs.induction.Views as move
use Rattle.pw_laws.proofs.induction.Views.{Moves, View, Waits}
use Rattle.pw_laws.proofs.kept.Failing.{out-job}
use Rattle.pw_laws.proofs.kept.Kept.{Inv}

-- a cause that becomes pending
abbrev pub Pends : Cause → Type 0
Pends (cause.Takeover p) = Unit {0}
Pends (cause.Server k) = Unit {0}
Pends (cause.Older o m) = ⊥
Pends cause.Redo = ⊥

-- what is pending is of a running attempt
abbrev PendingOk : View → Type 0
PendingOk v = (kind : Cause) → v.term.pending ≡ Some kind → Runs v.unit × Pends kind

runs-of : (number : ℕ) (unit : Option OpenUnit) → runs_unit number unit ≡ true → Runs unit
runs-of number None is = absurd (true≢false (sym is))
runs-of number (Some unit) is = by unit.running refl (and-second (unit.number == number) (is_some unit.running) is)
  where
    by : (running : Option (List PathAnswer)) → unit.running ≡ running → is_some unit.running ≡ true → Runs (Some unit)
    by None none there = absurd (true≢false (sym there ∙ ap is_some none))
    by (Some q) runs there = record { unit = unit; is_open = refl; start = q; runs = runs }

-- a calm terminal has nothing pending
calm : {pending : Option Cause} {unit : Option OpenUnit} → pending ≡ None → (kind : Cause) → pending ≡ Some kind → Runs unit × Pends kind
calm none kind is = absurd (cc (none, is))

pending-kept : (sys : Behaviour) (t : ℕ) (v w : View) → Moves sys t v w → PendingOk v → PendingOk w
pending-kept sys t v w (move.stays is) ok = subst PendingOk (sym is) ok
pending-kept sys t v w (move.settles lacks has is) ok = subst PendingOk (sym is) ok
pending-kept sys t v w (move.shows able asks is) ok = subst PendingOk (sym is) ok
pending-kept sys t v w (move.enters able screen k asks next exists is) ok = subst PendingOk (sym is) ok
pending-kept sys t v w (move.sends_start able idle begin new lacking free is) ok = subst PendingOk (sym is) ok
pending-kept sys t v w (move.sends_end able a closes lacking free is) ok = subst PendingOk (sym is) ok
pending-kept sys t v w (move.sends_copy going raising lacking free is) ok = subst PendingOk (sym is) ok
pending-kept sys t v w (move.applies message flies has lacks is) ok = subst PendingOk (sym is) ok
pending-kept sys t v w (move.begins able idle begin new held birth is) ok = subst PendingOk (sym is) (calm able.calm)
pending-kept sys t v w (move.is_answered waits reply inside is) ok = subst PendingOk (sym is) ok
pending-kept sys t v w (move.is_served waits reply outside is) ok = subst PendingOk (sym is) (calm waits.calm)
pending-kept sys t v w (move.is_failed waits x is) ok = subst PendingOk (sym is) ok
pending-kept sys t v w (move.is_answered_again able class message asks outside number is) ok = subst PendingOk (sym is) ok
pending-kept sys t v w (move.commits able asks held is) ok = subst PendingOk (sym is) (calm able.calm)
pending-kept sys t v w (move.drops able asks held is) ok = subst PendingOk (sym is) (calm able.calm)
pending-kept sys t v w (move.restarts unit is_open start runs kind few is) ok = subst PendingOk (sym is) (calm refl)
pending-kept sys t v w (move.goes_down paired is) ok = subst PendingOk (sym is) (calm refl)
pending-kept sys t v w (move.is_lost is) ok = subst PendingOk (sym is) (calm refl)
pending-kept sys t v w (move.loses_backup has is) ok = subst PendingOk (sym is) ok
pending-kept sys t v w (move.loses_server waits k is) ok =
    subst PendingOk (sym is) (λ kind pending.
    (record { unit = waits.unit; is_open = waits.is_open; start = waits.start; runs = waits.runs }, subst Pends (let same : cause.Server k ≡ kind = cc pending in same) tt))
pending-kept sys t v w (move.is_taken_over p down live held is_held is) ok =
    subst PendingOk (sym is) (λ kind pending.
    ⊎_elim
    (λ runs.
    let taken : cause.Takeover p ≡ kind = let now = cond-true (runs_unit held.unit v.unit) (Some (cause.Takeover p)) v.term.pending runs in cc (now, pending) in
    (runs-of held.unit v.unit runs, subst Pends taken tt))
    (λ none. ok kind (sym (cond-false (runs_unit held.unit v.unit) (Some (cause.Takeover p)) v.term.pending none) ∙ pending))
    (cases_Bool (runs_unit held.unit v.unit)))
pending-kept sys t v w (move.is_passed_over down e dead is) ok = subst PendingOk (sym is) ok
pending-kept sys t v w (move.is_raised alone calm_is is) ok = subst PendingOk (sym is) ok
pending-kept sys t v w (move.stops e lacks live idle is) ok = subst PendingOk (sym is) (calm refl)
pending-kept sys t v w (move.leaves e lacks is) ok = subst PendingOk (sym is) (calm refl)

-- Nothing is pending for a terminal that is not there.
module _ (sys : Behaviour) (b : IsBehaviour sys) (s : State) (i : Inv sys s) (t : ℕ) (strange : t < sys.terminals → ⊥) (none : (s.terms t).pending ≡ None) where
  abbrev Calm : State → Type 0
  Calm x = (x.terms t).pending ≡ None

  -- a terminal whose pending cause stays, and one that has none
  stays : (own : ℕ) (term : Term) → term.pending ≡ (s.terms own).pending → (upd s.terms own term t).pending ≡ None
  stays own term same = upd_elim s.terms own term t (λ x. x.pending ≡ None) (λ is. same ∙ (ap (λ o. (s.terms o).pending) (sym is) ∙ none)) (λ _. none)

  empty : (own : ℕ) (term : Term) → term.pending ≡ None → (upd s.terms own term t).pending ≡ None
  empty own term is = upd_elim s.terms own term t (λ x. x.pending ≡ None) (λ _. is) (λ _. none)

  either : (test : Bool) (x : Term) → x.pending ≡ None → (if test then x else s.terms t).pending ≡ None
  either true x is = is
  either false x is = none

  resumes : (p : ℕ) (memory : Option BackupCopy) (unit : Option OpenUnit) → s.units t ≡ unit → (resume_terminal p memory unit (s.ended t) (s.terms t)).pending ≡ None
  resumes p None unit is = none
  resumes p (Some memory) None is = none
  resumes p (Some memory) (Some unit) is = absurd (strange (i.known t unit is))

  rests : (own : ℕ) (start : Option (List PathAnswer)) → (upd s.terms own (with_start_path start (s.terms own)) t).pending ≡ None
  rests own None = empty own _ refl
  rests own (Some q) = empty own _ refl

  keeps-calm : (entry : Event) → Calm (effect sys s entry)
  keeps-calm (Show own phase attempt k) = stays own _ refl
  keeps-calm (Key own k) = stays own _ refl
  keeps-calm (CheckStart own) = none
  keeps-calm (CheckEnd own) = none
  keeps-calm (CheckCopy own) = none
  keeps-calm (Applied own) = none
  keeps-calm (Begin own n r) = stays own _ refl
  keeps-calm (Send own n c) = none
  keeps-calm (Take c p own) = none
  keeps-calm (File c p op mode f status) = file-cases sys s c p Calm none (λ job call works asks. none)
  keeps-calm (Reply c p own fault) = reply-any sys s c p own Calm fault (λ reply outside. stays own _ refl) (λ reply inside. stays own _ refl) (λ x. stays own _ refl)
  keeps-calm (Again own n) = stays own _ refl
  keeps-calm (Commit own n) = stays own _ refl
  keeps-calm (Back own n) = stays own _ refl
  keeps-calm (Restart own n kind) = rests own (attempt_of (s.units own))
  keeps-calm (FailTcp p primary k) =
      fail-cases sys s Calm p none (λ paired. either (is_of_pair sys p t) _ refl) (λ member breaks. either (is_of_pair sys p t) _ refl) (λ has. none) primary
  keeps-calm (FailServer c p k) =
      process-cases sys s Calm c p k none
      (λ job works. upd_elim s.terms job.request.terminal _ t (λ x. x.pending ≡ None)
      (λ is. absurd (strange (subst (λ o. o < sys.terminals) (sym is) (out-job sys b s i c p job works).live.known))) (λ _. none))
  keeps-calm (Takeover p) = either (is_live_of sys p s t) _ (resumes p (s.memory t) (s.units t) refl)
  keeps-calm (Raise p) = none
  keeps-calm (End own e) = end-any sys s Calm own e (empty own _ refl) (empty own _ refl)

-- in every run of a deck
known-pending : (sys : Behaviour) → IsBehaviour sys → (log : List Event) → IsRun sys log → (t : ℕ) → t < sys.terminals
    → (kind : Cause) → ((after sys log).terms t).pending ≡ Some kind → Runs ((after sys log).units t) × Pends kind
known-pending sys b log run t known =
    holds-of-view sys b t known PendingOk (λ log run v w is move. pending-kept sys t v w move) (calm refl) log run

-- in every run a pending cause is one of a running attempt, and TAKEOVER or SERVER
pub pending-ok : (sys : Behaviour) → IsBehaviour sys → (log : List Event) → IsRun sys log → (t : ℕ) (kind : Cause)
    → ((after sys log).terms t).pending ≡ Some kind → Runs ((after sys log).units t) × Pends kind
pending-ok sys b log run t kind is =
    ⊎_elim (λ known. known-pending sys b log run t known kind is)
    (λ beyond.
    let strange : t < sys.terminals → ⊥ = λ known. absurd (omega (arith, known, beyond)) in
    let none = holds-behind sys (λ s. (s.terms t).pending ≡ None) (λ log run entry legal calm. keeps-calm sys b (after sys log) (kept sys b log run) t strange calm entry) refl log run in
    absurd (cc (none, is)))
    (cases_lt t sys.terminals)

-- in every run a pending cause is one of a running attempt
pub pending-runs : (sys : Behaviour) → IsBehaviour sys → (log : List Event) → IsRun sys log → (t : ℕ) (kind : Cause)
    → ((after sys log).terms t).pending ≡ Some kind → Runs ((after sys log).units t)
pending-runs sys b log run t kind is = (pending-ok sys b log run t kind is).0
