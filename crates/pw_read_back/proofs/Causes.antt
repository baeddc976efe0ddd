-- In every run a pending SERVER names a failure line of the script.
use Rattle.std.proofs.Common.{◌≡◌, ℕ, zero, suc, ◌≤◌, Bool, true, false, List, [], length, Option, Some, None, if◌then◌else◌, subst, arith}
use Rattle.std.proofs.lemmas.Option.{slice_get_within}
use Rattle.pw_event.specs.declared.event.Cause.{Cause}
use Rattle.pw_event.specs.declared.event.Cause.TheVariants as cause
use Rattle.pw_event.specs.declared.event.Event.{Event}
use Rattle.pw_event.specs.declared.event.Event.TheVariants as event
use Rattle.pw_event.specs.declared.script.FailLine.{FailLine}
use Rattle.pw_onecopy.proofs.Update.{upd_elim}
use Rattle.pw_onecopy.specs.Behaviour.{Behaviour}
use Rattle.pw_onecopy.specs.Path.{PathAnswer}
use Rattle.pw_onecopy.specs.Update.{upd}
use Rattle.pw_paired.specs.Failure.{fail_line, is_live_of, is_of_pair, resume_terminal, runs_unit, with_start_path}
use Rattle.pw_paired.specs.State.{BackupCopy, LastEnded, OpenUnit, State, Term}
use Rattle.pw_paired.specs.Step.{IsRun, after, effect}
use Rattle.pw_paired.specs.Step as step
use Rattle.pw_paired.specs.Units.{attempt_of}
use Rattle.pw_laws.proofs.induction.Failed.{end-any, fail-cases, process-cases}
use Rattle.pw_laws.proofs.induction.Runs as runs
use Rattle.pw_laws.proofs.induction.Served.{file-cases, reply-any}

-- the number is one of the script's lines
abbrev pub IsLineNumber : ℕ → ℕ → Type 0
IsLineNumber n k = (1 ≤ k) × (k ≤ n)

pub line-number : (lines : List FailLine) (k : ℕ) (line : FailLine) → fail_line lines k ≡ Some line
    → IsLineNumber (length lines) k
line-number lines zero line is = absurd (cc is)
line-number lines (suc k) line is = let within = slice_get_within lines k line is in
    (omega arith, omega (arith, within))

-- a cause that names a line names one of so many
abbrev Names : ℕ → Option Cause → Type 0
Names n None = Unit {0}
Names n (Some (cause.Server k)) = IsLineNumber n k
Names n (Some (cause.Takeover p)) = Unit {0}
Names n (Some (cause.Older o m)) = Unit {0}
Names n (Some cause.Redo) = Unit {0}

-- all pending causes are so
abbrev Pending : Behaviour → State → Type 0
Pending sys s = (t : ℕ) → Names (length sys.script) (s.terms t).pending

module _ (sys : Behaviour) (s : State) (ok : Pending sys s) where
  abbrev lines : ℕ
  lines = length sys.script

  -- one terminal has another cause, or the one that it had
  at-one : (own : ℕ) (term : Term) → Names lines term.pending → (t : ℕ)
      → Names lines (upd s.terms own term t).pending
  at-one own term is t = upd_elim s.terms own term t (λ x. Names lines x.pending) (λ _. is) (λ _. ok t)

  -- some terminals have none
  some-none : (test : ℕ → Bool) (paths : ℕ → List PathAnswer) (t : ℕ)
      → Names lines (if test t then record (s.terms t) { path = paths t; pending = None }
      else s.terms t).pending
  some-none test paths t = by (test t)
    where
      by : (b : Bool)
          → Names lines (if b then record (s.terms t) { path = paths t; pending = None }
          else s.terms t).pending
      by true = tt
      by false = ok t

  rests : (own : ℕ) (start : Option (List PathAnswer)) (t : ℕ)
      → Names lines (upd s.terms own (with_start_path start (s.terms own)) t).pending
  rests own None = at-one own _ tt
  rests own (Some q) = at-one own _ tt

  resumes : (p t : ℕ) (memory : Option BackupCopy) (unit : Option OpenUnit) (last : LastEnded)
      → Names lines (resume_terminal p memory unit last (s.terms t)).pending
  resumes p t None unit last = ok t
  resumes p t (Some memory) unit last = by (runs_unit memory.unit unit)
    where
      by : (b : Bool) → Names lines (if b then Some (cause.Takeover p) else (s.terms t).pending)
      by true = tt
      by false = ok t

  taken : (p t : ℕ)
      → Names lines (if is_live_of sys p s t then resume_terminal p (s.memory t) (s.units t)
      (s.ended t) (s.terms t) else s.terms t).pending
  taken p t = by (is_live_of sys p s t)
    where
      by : (b : Bool)
          → Names lines (if b then resume_terminal p (s.memory t) (s.units t) (s.ended t)
          (s.terms t) else s.terms t).pending
      by true = resumes p t (s.memory t) (s.units t) (s.ended t)
      by false = ok t

  keeps : (entry : Event) → step.Fits sys s entry → Pending sys (effect sys s entry)
  keeps (event.Show own phase attempt k) l = at-one own _ (ok own)
  keeps (event.Key own k) l = at-one own _ (ok own)
  keeps (event.CheckStart own) l = ok
  keeps (event.CheckEnd own) l = ok
  keeps (event.CheckCopy own) l = ok
  keeps (event.Applied own) l = ok
  keeps (event.Begin own n r) l = at-one own _ (ok own)
  keeps (event.Send own n c) l = ok
  keeps (event.Take c i own) l = ok
  keeps (event.File c i op mode f status) l =
      file-cases sys s c i (Pending sys) ok (λ job call works asks. ok)
  keeps (event.Reply c i own fault) l =
      reply-any sys s c i own (Pending sys) fault (λ reply outside. at-one own _ (ok own))
      (λ reply inside. at-one own _ (ok own)) (λ x. at-one own _ (ok own))
  keeps (event.Again own n) l = at-one own _ (ok own)
  keeps (event.Commit own n) l = at-one own _ (ok own)
  keeps (event.Back own n) l = at-one own _ (ok own)
  keeps (event.Restart own n kind) l = rests own (attempt_of (s.units own))
  keeps (event.FailTcp p primary k) l =
      fail-cases sys s (Pending sys) p ok (λ paired. some-none (is_of_pair sys p) (λ t. []))
      (λ which breaks. some-none (is_of_pair sys p) (λ t. [])) (λ has. ok) primary
  keeps (event.FailServer c i k) l =
      process-cases sys s (Pending sys) c i k ok
      (λ job works. at-one job.request.terminal _ (line-number sys.script k _ l.names))
  keeps (event.Takeover p) l = taken p
  keeps (event.Raise p) l = ok
  keeps (event.End own e) l = end-any sys s (Pending sys) own e (at-one own _ tt) (at-one own _ tt)

-- in every run
pub pending-names : (sys : Behaviour) (log : List Event) → IsRun sys log → (t k : ℕ)
    → ((after sys log).terms t).pending ≡ Some (cause.Server k) → IsLineNumber (length sys.script) k
pending-names sys log run t k is =
    subst (Names (length sys.script)) is
    (runs.holds-behind sys (Pending sys) (λ log run entry legal ok.
    keeps sys (after sys log) ok entry legal.fits) (λ t. tt) log run t)
