-- In every run a legal entry has a line.
use Rattle.std.proofs.Common.{◌≡◌, ℕ, ◌<◌, ◌≤◌, List, [], Option, Some, None, refl, sym, ap, subst, length, arith}
use Rattle.std.specs.Prelude.{All, slice_get, slice_index_or}
use Rattle.std.specs.List.{AllByRecursion}
use Rattle.std.proofs.lemmas.Option.{get_or_from_slice_get}
use Rattle.pw_class.specs.declared.request.Request.{Request}
use Rattle.pw_code.specs.Locks.{mode_of}
use Rattle.pw_code.specs.declared.file.FileOp.{FileOp}
use Rattle.pw_code.specs.declared.file.FileOp.TheVariants as op
use Rattle.pw_code.specs.declared.lock.LockMode.{LockMode}
use Rattle.pw_code.specs.declared.lock.LockRule.{LockRule}
use Rattle.pw_code.specs.declared.lock.LockRule.TheVariants.{ReadersShare, AllExclusive}
use Rattle.pw_code.specs.declared.system.ClassInfo.{ClassInfo}
use Rattle.pw_code.specs.declared.system.System.{System}
use Rattle.pw_event.specs.Line.{HasLine, IsNamed, IsPlain, IsTold, LineWord, cause_words, ending_words, event_words, no_class, reply_words, with_mode}
use Rattle.pw_event.specs.Line as line
use Rattle.pw_event.specs.Line.{Plain}
use Rattle.pw_event.specs.declared.event.Cause.{Cause}
use Rattle.pw_event.specs.declared.event.Cause.TheVariants as cause
use Rattle.pw_event.specs.declared.event.Ending.{Ending}
use Rattle.pw_event.specs.declared.event.Ending.TheVariants as ending
use Rattle.pw_event.specs.declared.event.Event.{Event}
use Rattle.pw_event.specs.declared.event.Event.TheVariants as event
use Rattle.pw_event.specs.declared.script.FailLine.{FailLine}
use Rattle.pw_code_meaning.specs.OfSystem.{behaviour, processes_by}
use Rattle.pw_world_state.proofs.OfRuns.{knows-all}
use Rattle.pw_world_state.proofs.There.{legal-there, of-all}
use Rattle.pw_world_state.specs.May.{IsLineThere, IsThere}
use Rattle.pw_world_state.specs.Members.{KnowsAll}
use Rattle.pw_read_back.proofs.Pendings.{pending-known}
use Rattle.pw_onecopy.specs.Behaviour.{Behaviour}
use Rattle.pw_onecopy.specs.IsBehaviour.{IsBehaviour, IsPath}
use Rattle.pw_onecopy.specs.Operation.{plain_op}
use Rattle.pw_paired.specs.End.{LegalEnd}
use Rattle.pw_paired.specs.Failure.{IsCaused}
use Rattle.pw_paired.specs.Server.{LegalFile, LegalReply, LegalTake}
use Rattle.pw_paired.specs.State.{OpenUnit, State, starting}
use Rattle.pw_paired.specs.Step.{IsRun, Legal, after}
use Rattle.pw_paired.specs.Step as step
use Rattle.pw_paired.specs.Terminal.{CanStep, LegalSend, path_of}
use Rattle.pw_laws.proofs.Tests.{all-last}
use Rattle.pw_laws.proofs.induction.Runs as runs
use Rattle.pw_laws.proofs.kept.Kept.{Inv}
use Rattle.pw_laws.proofs.requests.Classes.{found_free}
use Rattle.pw_laws.proofs.terms.KeepsChecks.{path_ok-is}
use Rattle.pw_laws.proofs.terms.TermOk.{IsWorking}
use Rattle.pw_laws.proofs.restarts.Few.{log-from}
use Rattle.pw_paired.specs.Raising.{is_takeover}

pub log-is : (sys : Behaviour) (log : List Event) → (after sys log).log ≡ log
log-is sys log = log-from sys (starting sys) log

-- ---- operations and modes

plain : (one : FileOp) → IsPlain (plain_op one)
plain op.Read = tt
plain op.Next = tt
plain op.Write = tt
plain op.Rewrite = tt
plain op.Delete = tt
plain op.ReadLock = tt
plain op.NextLock = tt

is-told : (rule : LockRule) (one : FileOp) → IsTold rule (mode_of rule one)
is-told ReadersShare one = tt
is-told AllExclusive one = refl

mode-there : (system : System) (rule : LockRule) (mode rest : List ℕ) (words : List LineWord) → AllByRecursion (line.IsWordOfSystem system) words
    → AllByRecursion (line.IsWordOfSystem system) (with_mode rule (Plain mode) words)
mode-there system ReadersShare mode rest words there = (tt, there)
mode-there system AllExclusive mode rest words there = there

module _ (system : System) (script : List FailLine) (b : IsBehaviour (behaviour script system)) (lines : All (IsLineThere system) script) (log : List Event) (run : IsRun (behaviour script system) log) where
  abbrev sys : Behaviour
  sys = behaviour script system

  abbrev state : State
  state = after sys log

  inv : Inv sys state
  inv = runs.kept sys b log run

  knows : KnowsAll sys state
  knows = knows-all sys b log run

  -- a process of a class that is there
  process : (c i : ℕ) → i ≤ processes_by (slice_get system.classes c) → i ≤ (slice_index_or system.classes c no_class).processes
  process c i high = by (slice_get system.classes c) refl high
    where
      by : (at : Option ClassInfo) → slice_get system.classes c ≡ at → i ≤ processes_by at → i ≤ (slice_index_or system.classes c no_class).processes
      by None is high = omega (arith, high)
      by (Some info) is high = subst (λ (x : ClassInfo). i ≤ x.processes) (sym (get_or_from_slice_get system.classes c info no_class is)) high

  -- the path of a terminal that can step is one of its program
  path-is : (t : ℕ) → CanStep sys state t → IsPath sys t (path_of state t)
  path-is t can =
      path_ok-is (state.ended t).number (state.units t)
      ((inv.terms t can.live.known).path_ok can.live.going_on (subst IsWorking (sym can.paired) tt) (ap is_takeover can.calm))

  cause-there : (t n : ℕ) (one : Cause) (unit : OpenUnit) → IsCaused sys state t n one unit → AllByRecursion (line.IsWordOfSystem system) (cause_words one)
  cause-there t n (cause.Older o m) unit caused = (tt, (knows.units o caused.holds.older caused.holds.is_open, (tt, tt)))
  cause-there t n (cause.Takeover p) unit caused = (tt, (pending-known sys b log run t p caused.holds.pending, tt))
  cause-there t n (cause.Server k) unit caused = (tt, (tt, tt))
  cause-there t n cause.Redo unit caused = (tt, tt)

  pub ending-there : (t : ℕ) (e : Ending) → LegalEnd sys state t e → AllByRecursion (line.IsWordOfSystem system) (ending_words e)
  ending-there t ending.Stopped l = (tt, tt)
  ending-there t ending.NoEntries l = (tt, tt)
  ending-there t (ending.Fault x) l = (tt, (tt, tt))
  ending-there t (ending.Suspended one) l = (tt, cause-there t l.unit.number one l.unit l.caused)
  ending-there t ending.Lost l = (tt, tt)

  fault-there : (fault : Option ℕ) → AllByRecursion (line.IsWordOfSystem system) (reply_words fault)
  fault-there None = (tt, tt)
  fault-there (Some x) = (tt, (tt, tt))

  send-there : (t n c : ℕ) → LegalSend sys state t n c → c < length system.classes
  send-there t n c l = b.sends t c l.message (path_of state t) (path-is t l.can) l.asks

  file-there : (c i : ℕ) (one : FileOp) (mode : LockMode) (f status : ℕ) → c < length system.classes → LegalFile sys state c i one mode f status → f < length system.files
  file-there c i one mode f status class l =
      subst (λ n. n < length system.files) (sym l.file_is) (b.calls c l.job.request.message l.job.done l.call class l.asks)

  take-there : (c i t : ℕ) → LegalTake sys state c i t → t < length system.terminals
  take-there c i t l =
      subst (λ n. n < length system.terminals) l.whose
      (of-all (λ (r : Request). r.terminal < sys.terminals) (state.classes c).waiting (knows.waiting c) 0 l.request (ap (λ xs. slice_get xs 0) l.first))

  pub reply-there : (c i t : ℕ) (fault : Option ℕ) → LegalReply sys state c i t fault → t < length system.terminals
  reply-there c i t fault l = subst (λ n. n < length system.terminals) l.whose (knows.busy c i l.job l.at_work)

  has-line : (entry : Event) → step.Fits sys state entry → HasLine system.rule entry
  has-line (event.File c i one mode f status) l = (subst IsPlain (sym l.op_is) (plain l.call.op), subst (IsTold system.rule) (sym l.mode_is) (is-told system.rule l.call.op))
  has-line (event.Show t phase attempt k) l = tt
  has-line (event.Key t k) l = tt
  has-line (event.CheckStart t) l = tt
  has-line (event.CheckEnd t) l = tt
  has-line (event.CheckCopy t) l = tt
  has-line (event.Applied t) l = tt
  has-line (event.Begin t n r) l = tt
  has-line (event.Send t n c) l = tt
  has-line (event.Take c i t) l = tt
  has-line (event.Reply c i t fault) l = tt
  has-line (event.Again t n) l = tt
  has-line (event.Commit t n) l = tt
  has-line (event.Back t n) l = tt
  has-line (event.Restart t n one) l = tt
  has-line (event.FailTcp p primary k) l = tt
  has-line (event.FailServer c i k) l = tt
  has-line (event.Takeover p) l = tt
  has-line (event.Raise p) l = tt
  has-line (event.End t e) l = tt

  words-there : (entry : Event) → IsThere system entry → step.Fits sys state entry → AllByRecursion (line.IsWordOfSystem system) (event_words system.rule entry)
  words-there (event.Show t phase attempt k) low l = (tt, (low, (tt, tt)))
  words-there (event.Key t k) low l = (tt, (low, (tt, tt)))
  words-there (event.CheckStart t) low l = (tt, (low, (tt, tt)))
  words-there (event.CheckEnd t) low l = (tt, (low, (tt, tt)))
  words-there (event.CheckCopy t) low l = (tt, (low, (tt, tt)))
  words-there (event.Applied t) low l = (tt, (low, tt))
  words-there (event.Begin t n r) low l = (tt, (low, (tt, (tt, tt))))
  words-there (event.Send t n c) low l = (tt, (low, (tt, (send-there t n c l, tt))))
  words-there (event.Take c i t) low l =
      let found = found_free (state.classes c).busy 1 (sys.processes c) i l.free in
      (tt, (low, (process c i (omega (arith, found.2)), (take-there c i t l, tt))))
  words-there (event.File c i one mode f status) low l =
      (tt, (low.class, (process c i low.high, (tt, mode-there system system.rule _ [] _ (file-there c i one mode f status low.class l, (tt, tt))))))
  words-there (event.Reply c i t fault) low l = (tt, (low.class, (process c i low.high, (reply-there c i t fault l, fault-there fault))))
  words-there (event.Again t n) low l = (tt, (low, (tt, tt)))
  words-there (event.Commit t n) low l = (tt, (low, (tt, tt)))
  words-there (event.Back t n) low l = (tt, (low, (tt, tt)))
  words-there (event.Restart t n one) low l = (tt, (low, (tt, cause-there t n one l.unit l.caused)))
  words-there (event.FailTcp p primary k) low l = (tt, (tt, (low, (tt, (tt, tt)))))
  words-there (event.FailServer c i k) low l = (tt, (tt, (low.class, (process c i low.high, (tt, tt)))))
  words-there (event.Takeover p) low l = (tt, (low, tt))
  words-there (event.Raise p) low l = (tt, (low, tt))
  words-there (event.End t e) low l = (tt, (low, ending-there t e l))

  pub named : (entry : Event) → Legal sys state entry → IsNamed system entry
  named entry legal = record {
    line = has-line entry legal.fits;
    there = words-there entry (legal-there system script log entry b lines run legal) legal.fits;
  }

module _ (system : System) (script : List FailLine) (b : IsBehaviour (behaviour script system)) (lines : All (IsLineThere system) script) where
  -- each entry of a run
  pub log-named : (log : List Event) → IsRun (behaviour script system) log → AllByRecursion (IsNamed system) log
  log-named log run =
      subst (AllByRecursion (IsNamed system)) (log-is (behaviour script system) log)
      (runs.holds-behind (behaviour script system) (λ s. AllByRecursion (IsNamed system) s.log)
      (λ before was entry legal all. all-last (IsNamed system) (after (behaviour script system) before).log entry all (named system script b lines before was entry legal))
      tt log run)
