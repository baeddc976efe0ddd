-- In every run a pending TAKEOVER names a pair of the system.
use Rattle.std.proofs.Common.{◌≡◌, ℕ, ◌<◌, Bool, true, false, List, [], Option, Some, None, if◌then◌else◌, refl, sym, subst}
use Rattle.pw_event.specs.declared.event.Cause.{Cause}
use Rattle.pw_event.specs.declared.event.Cause.TheVariants as cause
use Rattle.pw_event.specs.declared.event.Event.{Event}
use Rattle.pw_event.specs.declared.event.Event.TheVariants as event
use Rattle.pw_world_state.proofs.There.{HasBackup, known}
use Rattle.pw_onecopy.proofs.Update.{upd_elim}
use Rattle.pw_onecopy.specs.Behaviour.{Behaviour}
use Rattle.pw_onecopy.specs.IsBehaviour.{IsBehaviour}
use Rattle.pw_onecopy.specs.Path.{PathAnswer}
use Rattle.pw_onecopy.specs.Update.{upd}
use Rattle.pw_paired.specs.Failure.{LegalTakeover, is_live_of, is_of_pair, resume_terminal, runs_unit, with_start_path}
use Rattle.pw_paired.specs.State.{BackupCopy, LastEnded, OpenUnit, State, Term}
use Rattle.pw_paired.specs.Step.{IsRun, after, effect}
use Rattle.pw_paired.specs.Step as step
use Rattle.pw_paired.specs.Units.{attempt_of}
use Rattle.pw_laws.proofs.induction.Failed.{end-any, fail-cases, process-cases}
use Rattle.pw_laws.proofs.induction.Runs as runs
use Rattle.pw_laws.proofs.induction.Served.{file-cases, reply-any}

-- a cause that names a pair names one below n
abbrev Below : ℕ → Option Cause → Type 0
Below n None = Unit {0}
Below n (Some (cause.Takeover p)) = p < n
Below n (Some (cause.Server k)) = Unit {0}
Below n (Some (cause.Older o m)) = Unit {0}
Below n (Some cause.Redo) = Unit {0}

-- all pending causes are so
abbrev Pending : Behaviour → State → Type 0
Pending sys s = (t : ℕ) → Below sys.pairs (s.terms t).pending

module _ (sys : Behaviour) (s : State) (ok : Pending sys s) where
  -- one terminal has another cause, or the one that it had
  at-one : (own : ℕ) (term : Term) → Below sys.pairs term.pending → (t : ℕ) → Below sys.pairs (upd s.terms own term t).pending
  at-one own term is t = upd_elim s.terms own term t (λ x. Below sys.pairs x.pending) (λ _. is) (λ _. ok t)

  -- some terminals have none
  some-none : (test : ℕ → Bool) (paths : ℕ → List PathAnswer) (t : ℕ)
      → Below sys.pairs (if test t then record (s.terms t) { path = paths t; pending = None } else s.terms t).pending
  some-none test paths t = by (test t)
    where
      by : (b : Bool) → Below sys.pairs (if b then record (s.terms t) { path = paths t; pending = None } else s.terms t).pending
      by true = tt
      by false = ok t

  rests : (own : ℕ) (start : Option (List PathAnswer)) (t : ℕ) → Below sys.pairs (upd s.terms own (with_start_path start (s.terms own)) t).pending
  rests own None = at-one own _ tt
  rests own (Some q) = at-one own _ tt

  resumes : (p t : ℕ) → p < sys.pairs → (memory : Option BackupCopy) (unit : Option OpenUnit) (last : LastEnded)
      → Below sys.pairs (resume_terminal p memory unit last (s.terms t)).pending
  resumes p t low None unit last = ok t
  resumes p t low (Some memory) unit last = by (runs_unit memory.unit unit)
    where
      by : (b : Bool) → Below sys.pairs (if b then Some (cause.Takeover p) else (s.terms t).pending)
      by true = low
      by false = ok t

  taken : (p : ℕ) → p < sys.pairs → (t : ℕ)
      → Below sys.pairs (if is_live_of sys p s t then resume_terminal p (s.memory t) (s.units t) (s.ended t) (s.terms t) else s.terms t).pending
  taken p low t = by (is_live_of sys p s t)
    where
      by : (b : Bool) → Below sys.pairs (if b then resume_terminal p (s.memory t) (s.units t) (s.ended t) (s.terms t) else s.terms t).pending
      by true = resumes p t low (s.memory t) (s.units t) (s.ended t)
      by false = ok t

  keeps : (entry : Event) → ((p : ℕ) → entry ≡ event.Takeover p → p < sys.pairs) → Pending sys (effect sys s entry)
  keeps (event.Show own phase attempt k) named = at-one own _ (ok own)
  keeps (event.Key own k) named = at-one own _ (ok own)
  keeps (event.CheckStart own) named = ok
  keeps (event.CheckEnd own) named = ok
  keeps (event.CheckCopy own) named = ok
  keeps (event.Applied own) named = ok
  keeps (event.Begin own n r) named = at-one own _ (ok own)
  keeps (event.Send own n c) named = ok
  keeps (event.Take c i own) named = ok
  keeps (event.File c i op mode f status) named = file-cases sys s c i (Pending sys) ok (λ job call works asks. ok)
  keeps (event.Reply c i own fault) named =
      reply-any sys s c i own (Pending sys) fault (λ reply outside. at-one own _ (ok own)) (λ reply inside. at-one own _ (ok own)) (λ x. at-one own _ (ok own))
  keeps (event.Again own n) named = at-one own _ (ok own)
  keeps (event.Commit own n) named = at-one own _ (ok own)
  keeps (event.Back own n) named = at-one own _ (ok own)
  keeps (event.Restart own n kind) named = rests own (attempt_of (s.units own))
  keeps (event.FailTcp p primary k) named =
      fail-cases sys s (Pending sys) p ok (λ paired. some-none (is_of_pair sys p) (λ t. []))
      (λ which breaks. some-none (is_of_pair sys p) (λ t. [])) (λ has. ok) primary
  keeps (event.FailServer c i k) named = process-cases sys s (Pending sys) c i k ok (λ job works. at-one job.request.terminal _ tt)
  keeps (event.Takeover p) named = taken p (named p refl)
  keeps (event.Raise p) named = ok
  keeps (event.End own e) named = end-any sys s (Pending sys) own e (at-one own _ tt) (at-one own _ tt)

-- a pair that is Down is there
down : (sys : Behaviour) → IsBehaviour sys → (log : List Event) → IsRun sys log → (p : ℕ) → LegalTakeover (after sys log) p → p < sys.pairs
down sys b log run p l = (known sys b log run).modes p (subst HasBackup (sym l.down) tt)

-- in every run of a deck
pub pending-known : (sys : Behaviour) → IsBehaviour sys → (log : List Event) → IsRun sys log → (t p : ℕ)
    → ((after sys log).terms t).pending ≡ Some (cause.Takeover p) → p < sys.pairs
pending-known sys b log run t p is = subst (Below sys.pairs) is (all log run t)
  where
    all : (log : List Event) → IsRun sys log → Pending sys (after sys log)
    all =
        runs.holds-behind sys (Pending sys)
        (λ log run entry legal ok. keeps sys (after sys log) ok entry (λ p here. down sys b log run p (subst (step.Fits sys (after sys log)) here legal.fits)))
        (λ t. tt)
