-- The locks of a run: whose they are, and that no two of them conflict.
use Rattle.std.proofs.Common.{◌≡◌, ℕ, Bool, true, false, not, cond, List, [], ◌∷◌, ◌++◌, filter, Option, Some, None, if◌then◌else◌, refl, ap, sym, subst, ◌∙◌}
use Rattle.std.specs.List.{list_any, AllByRecursion}
use Rattle.std.proofs.lemmas.Bool.{eqb-false, cond-false, or_parts, not-true}
use Rattle.pw_base.proofs.Plain.{all-weaker}
use Rattle.pw_code.specs.declared.file.FileCall.{FileCall}
use Rattle.pw_event.specs.declared.event.Event.{Event}
use Rattle.pw_event.specs.declared.event.Event.TheVariants.{Show, Key, CheckStart, CheckEnd, CheckCopy, Applied, Begin, Send, Take, File, Reply, Again, Commit, Back, Restart, FailTcp, FailServer, Takeover, Raise, End}
use Rattle.pw_laws.proofs.records.OperationKept.{none-holds}
use Rattle.pw_laws.specs.locking.Held.{AreCompatibleLocks, IsHeld}
use Rattle.pw_locks.proofs.Overlaps.{conflict-comm}
use Rattle.pw_locks.specs.Conflicts.{conflict, holders}
use Rattle.pw_locks.specs.declared.lock.Lock.{Lock}
use Rattle.pw_onecopy.proofs.Update.{upd-other}
use Rattle.pw_onecopy.specs.Behaviour.{Behaviour}
use Rattle.pw_onecopy.specs.IsBehaviour.{IsBehaviour}
use Rattle.pw_onecopy.specs.Update.{upd}
use Rattle.pw_paired.specs.Failure.{is_of_pair}
use Rattle.pw_paired.specs.Server.{do_operation, lock_of_job}
use Rattle.pw_paired.specs.State.{Job, OpenUnit, State}
use Rattle.pw_paired.specs.Step.{Fits, IsRun, after, effect}
use Rattle.pw_paired.specs.Terminal.{IsIdle}
use Rattle.pw_paired.specs.Units.{attempt_of, only}
use Rattle.pw_laws.proofs.Tests.{all-last}
use Rattle.pw_laws.proofs.induction.Failed.{end-any, fail-cases, process-cases}
use Rattle.pw_laws.proofs.induction.Runs.{holds-behind, kept}
use Rattle.pw_laws.proofs.induction.Served.{file-is, reply-any}
use Rattle.pw_laws.proofs.kept.Failing.{out-job}
use Rattle.pw_laws.proofs.kept.Kept.{Inv}

-- both at once
pub record LocksOk (units : ℕ → Option OpenUnit) (locks : List Lock) : Type 0 where
  pub held : AllByRecursion (IsHeld units) locks
  pub apart : AreCompatibleLocks locks

-- lists of locks
all-passing : {X : Type 0} (P Q : X → Type 0) (q : X → Bool) → ((x : X) → q x ≡ true → P x → Q x) → (xs : List X) → AllByRecursion P xs → AllByRecursion Q (filter q xs)
all-passing P Q q more [] all = all
all-passing P Q q more (x ∷ xs) all = by_test (q x) refl (all-passing P Q q more xs all.1)
  where
    by_test : (b : Bool) → q x ≡ b → AllByRecursion Q (filter q xs) → AllByRecursion Q (cond b (x ∷ filter q xs) (filter q xs))
    by_test true is rest = (more x is all.0, rest)
    by_test false is rest = rest

apart-filter : (q : Lock → Bool) (locks : List Lock) → AreCompatibleLocks locks → AreCompatibleLocks (filter q locks)
apart-filter q [] apart = apart
apart-filter q (lock ∷ locks) apart = by_test (q lock) (apart-filter q locks apart.1)
  where
    by_test : (b : Bool) → AreCompatibleLocks (filter q locks) → AreCompatibleLocks (cond b (lock ∷ filter q locks) (filter q locks))
    by_test true rest = (all-passing (λ held. conflict lock held ≡ false) (λ held. conflict lock held ≡ false) q (λ x _ p. p) locks apart.0, rest)
    by_test false rest = rest

none-all : (lock : Lock) (locks : List Lock) → list_any (conflict lock) locks ≡ false → AllByRecursion (λ held. conflict lock held ≡ false) locks
none-all lock [] none = tt
none-all lock (held ∷ locks) none = let parts = or_parts (conflict lock held) (list_any (conflict lock) locks) none in (parts.0, none-all lock locks parts.1)

apart-last : (lock : Lock) (locks : List Lock) → AreCompatibleLocks locks → AllByRecursion (λ held. conflict lock held ≡ false) locks → AreCompatibleLocks (locks ++ lock ∷ [])
apart-last lock [] apart none = (tt, tt)
apart-last lock (held ∷ locks) apart none =
    (all-last (λ later. conflict held later ≡ false) locks lock apart.0 (conflict-comm held lock ∙ none.0), apart-last lock locks apart.1 none.1)

-- a lock stays held where its terminal's unit stays
held-same : {units after : ℕ → Option OpenUnit} (lock : Lock) → after lock.unit.terminal ≡ units lock.unit.terminal → IsHeld units lock → IsHeld after lock
held-same lock same held = record { unit = held.unit; is_open = same ∙ held.is_open; number = held.number; start = held.start; runs = held.runs }

module _ (sys : Behaviour) (b : IsBehaviour sys) (s : State) (i : Inv sys s) (ok : LocksOk s.units s.locks) where
  same : LocksOk s.units s.locks
  same = ok

  -- the locks of some terminals are released, and only their units change
  without : (whose : ℕ → Bool) (units : ℕ → Option OpenUnit) → ((t : ℕ) → whose t ≡ false → units t ≡ s.units t)
      → LocksOk units (filter (λ lock. not (whose lock.unit.terminal)) s.locks)
  without whose units others = record {
    held = all-passing (IsHeld s.units) (IsHeld units) (λ lock. not (whose lock.unit.terminal))
        (λ lock spared held. held-same lock (others lock.unit.terminal (not-true (whose lock.unit.terminal) spared)) held) s.locks ok.held;
    apart = apart-filter (λ lock. not (whose lock.unit.terminal)) s.locks ok.apart;
  }

  only-other : (t : ℕ) (unit : Option OpenUnit) (j : ℕ) → only t j ≡ false → upd s.units t unit j ≡ s.units j
  only-other t unit j spared = upd-other s.units t unit j (eqb-false j t spared)

  -- a unit begins: an idle one has no locks
  begins : (t : ℕ) (unit : Option OpenUnit) → IsIdle s t → LocksOk (upd s.units t unit) s.locks
  begins t unit idle = record {
    held = all-weaker (IsHeld s.units) (IsHeld (upd s.units t unit))
        (λ lock held. held-same lock (upd-other s.units t unit lock.unit.terminal
        (λ mine. absurd (cc (ap attempt_of (sym (ap s.units mine) ∙ held.is_open), held.runs, idle)))) held) s.locks ok.held;
    apart = ok.apart;
  }

  -- an operation whose lock conflicts with none
  pub operation-locks : (c p : ℕ) (job : Job) → (s.classes c).busy p ≡ Some job → (call : FileCall)
      → holders (lock_of_job sys s job call) s.locks ≡ [] → LocksOk (do_operation sys c p job call s).units (do_operation sys c p job call s).locks
  operation-locks c p job works call free =
      let out = out-job sys b s i c p job works in
      record {
        held = all-last (IsHeld s.units) s.locks (lock_of_job sys s job call) ok.held
            (record { unit = out.unit; is_open = out.is_open; number = out.number; start = out.start; runs = out.runs });
        apart = apart-last (lock_of_job sys s job call) s.locks ok.apart
            (none-all (lock_of_job sys s job call) s.locks (none-holds (lock_of_job sys s job call) s.locks free));
      }

  pair-other : (p : ℕ) (j : ℕ) → is_of_pair sys p j ≡ false → (if is_of_pair sys p j then None else s.units j) ≡ s.units j
  pair-other p j spared = cond-false (is_of_pair sys p j) None (s.units j) spared

  left-other : (t j : ℕ) → only t j ≡ false → (if only t j then None else s.units j) ≡ s.units j
  left-other t j spared = cond-false (only t j) None (s.units j) spared

  abbrev Kept : State → Type 0
  Kept x = LocksOk x.units x.locks

  -- each entry keeps locks in order
  pub keeps-locks : (entry : Event) → Fits sys s entry → LocksOk (effect sys s entry).units (effect sys s entry).locks
  keeps-locks (Show t phase attempt k) l = ok
  keeps-locks (Key t k) l = ok
  keeps-locks (CheckStart t) l = ok
  keeps-locks (CheckEnd t) l = ok
  keeps-locks (CheckCopy t) l = ok
  keeps-locks (Applied t) l = ok
  keeps-locks (Begin t n r) l = begins t _ l.idle
  keeps-locks (Send t n c) l = ok
  keeps-locks (Take c p t) l = ok
  keeps-locks (File c p op mode f status) l =
      subst Kept (sym (file-is sys s c p op mode f status l)) (operation-locks c p l.job l.at_work l.call l.free)
  keeps-locks (Reply c p t fault) l =
      reply-any sys s c p t Kept fault (λ reply outside. without (only t) (upd s.units t None) (only-other t None)) (λ reply inside. ok) (λ x. ok)
  keeps-locks (Again t n) l = ok
  keeps-locks (Commit t n) l = without (only t) (upd s.units t None) (only-other t None)
  keeps-locks (Back t n) l = without (only t) (upd s.units t None) (only-other t None)
  keeps-locks (Restart t n cause) l = without (only t) _ (only-other t _)
  keeps-locks (FailTcp p primary k) l =
      fail-cases sys s Kept p ok (λ paired. ok)
      (λ member breaks. without (is_of_pair sys p) (λ j. if is_of_pair sys p j then None else s.units j) (pair-other p)) (λ has. ok) primary
  keeps-locks (FailServer c p k) l = process-cases sys s Kept c p k ok (λ job works. ok)
  keeps-locks (Takeover p) l = ok
  keeps-locks (Raise p) l = ok
  keeps-locks (End t e) l = end-any sys s Kept t e ok (without (only t) (λ j. if only t j then None else s.units j) (left-other t))

-- locks are in order behind every run
pub locks-ok : (sys : Behaviour) → IsBehaviour sys → (log : List Event) → IsRun sys log → LocksOk (after sys log).units (after sys log).locks
locks-ok sys b log run =
    holds-behind sys (λ s. LocksOk s.units s.locks) (λ log run entry legal ok. keeps-locks sys b (after sys log) (kept sys b log run) ok entry legal.fits)
    (record { held = tt; apart = tt }) log run

-- in every run locks are held
pub held : (sys : Behaviour) → IsBehaviour sys → (log : List Event) → IsRun sys log → AllByRecursion (IsHeld (after sys log).units) (after sys log).locks
held sys b log run = (locks-ok sys b log run).held

-- and no two conflict
pub apart : (sys : Behaviour) → IsBehaviour sys → (log : List Event) → IsRun sys log → AreCompatibleLocks (after sys log).locks
apart sys b log run = (locks-ok sys b log run).apart
