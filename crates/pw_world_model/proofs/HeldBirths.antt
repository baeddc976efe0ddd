-- A lock has the birth of the open unit that holds it, and an awaited unit is one of a started terminal.
use Rattle.std.proofs.Common.{◌≡◌, ℕ, ◌<◌, List, [], ◌∷◌, filter, not, cond, Option, Some, None, Bool, true, false, refl, sym, ap, subst, ◌∙◌}
use Rattle.std.specs.List.{AllByRecursion}
use Rattle.pw_base.proofs.Plain.{all-last}
use Rattle.pw_event.specs.declared.event.Cause.{Cause}
use Rattle.pw_event.specs.declared.event.Cause.TheVariants as cause
use Rattle.pw_event.specs.declared.event.Event.{Event}
use Rattle.pw_event.specs.declared.event.Event.TheVariants.{Show, Key, CheckStart, CheckEnd, CheckCopy, Applied, Begin, Send, Take, File, Reply, Again, Commit, Back, Restart, FailTcp, FailServer, Takeover, Raise, End}
use Rattle.pw_laws.specs.locking.Held.{IsHeld}
use Rattle.pw_laws.proofs.Holding.{held}
use Rattle.pw_locks.specs.declared.lock.Lock.{Lock}
use Rattle.pw_onecopy.specs.Behaviour.{Behaviour}
use Rattle.pw_onecopy.specs.IsBehaviour.{IsBehaviour}
use Rattle.pw_onecopy.proofs.Update.{upd_elim}
use Rattle.pw_paired.specs.Failure.{Holds, awaited_after, is_of_pair, with_restart}
use Rattle.pw_paired.specs.Server.{do_operation, lock_of_job}
use Rattle.pw_paired.specs.State.{Awaited, OpenUnit, State}
use Rattle.pw_paired.specs.Step.{Fits, IsRun, after, change, effect}
use Rattle.pw_paired.specs.Terminal.{awaited_of}
use Rattle.pw_paired.specs.Units.{birth_of, only, without_locks}
use Rattle.pw_laws.proofs.induction.Failed.{end-any, fail-cases, process-cases}
use Rattle.pw_laws.proofs.induction.Runs.{holds-behind, kept}
use Rattle.pw_laws.proofs.induction.Served.{file-is, reply-any}
use Rattle.pw_laws.proofs.kept.Kept.{Inv}
use Rattle.pw_laws.proofs.steps.Awaiting.{UnitMoves, ends, opens, runs, stays, unit-moves}

-- ---- locks

-- the lock has the birth of the open unit of its terminal
abbrev pub HasBirth : State → Lock → Type 0
HasBirth s lock = (u : OpenUnit) → s.units lock.unit.terminal ≡ Some u → lock.unit.birth ≡ u.birth

abbrev BirthsOk : State → Type 0
BirthsOk s = AllByRecursion (HasBirth s) s.locks

module _ (sys : Behaviour) (b : IsBehaviour sys) (s : State) (i : Inv sys s) where
  -- the open unit of a terminal keeps its birth at any entry
  restarted : (kind : Cause) (o : Option OpenUnit) (u : OpenUnit) → with_restart kind o ≡ Some u → (was : OpenUnit) → o ≡ Some was → u.birth ≡ was.birth
  restarted kind None u is was e = absurd (cc e)
  restarted kind (Some own) u is was e = sym (ap (λ (o : Option OpenUnit). birth_of o) is) ∙ ap (λ (o : Option OpenUnit). birth_of o) e

  born-other : (entry : Event) → Fits sys s entry → ((own n : ℕ) (kind : Cause) → entry ≡ Restart own n kind → ⊥) → (t : ℕ) (was now : OpenUnit) → s.units t ≡ Some was → (change sys s entry).units t ≡ Some now → now.birth ≡ was.birth
  born-other entry l other t was now before behind = by (unit-moves sys b s i t entry l other)
    where
      by : UnitMoves s (change sys s entry) t → now.birth ≡ was.birth
      by (stays units last) = ap birth_of (sym behind ∙ (units ∙ before))
      by (runs a c was_is now_is birth number awaits last restarts over) = ap birth_of (sym behind ∙ now_is) ∙ (birth ∙ ap birth_of (sym was_is ∙ before))
      by (opens a none now_is awaits last live restarts birth) = absurd (cc (none, before))
      by (ends none number rises) = absurd (cc (none, behind))

  born : (entry : Event) → Fits sys s entry → (t : ℕ) (was now : OpenUnit) → s.units t ≡ Some was → (change sys s entry).units t ≡ Some now → now.birth ≡ was.birth
  born (Restart own n kind) l t was now before behind =
      upd_elim s.units own (with_restart kind (s.units own)) t (λ (o : Option OpenUnit). o ≡ Some now → now.birth ≡ was.birth)
      (λ same is. restarted kind (s.units own) now is was (ap s.units (sym same) ∙ before)) (λ differ is. ap birth_of (sym is ∙ before)) behind
  born (Show own phase attempt k) l t was now before behind = born-other (Show own phase attempt k) l (λ o m k e. absurd (cc e)) t was now before behind
  born (Key own k) l t was now before behind = born-other (Key own k) l (λ o m k e. absurd (cc e)) t was now before behind
  born (CheckStart own) l t was now before behind = born-other (CheckStart own) l (λ o m k e. absurd (cc e)) t was now before behind
  born (CheckEnd own) l t was now before behind = born-other (CheckEnd own) l (λ o m k e. absurd (cc e)) t was now before behind
  born (CheckCopy own) l t was now before behind = born-other (CheckCopy own) l (λ o m k e. absurd (cc e)) t was now before behind
  born (Applied own) l t was now before behind = born-other (Applied own) l (λ o m k e. absurd (cc e)) t was now before behind
  born (Begin own n r) l t was now before behind = born-other (Begin own n r) l (λ o m k e. absurd (cc e)) t was now before behind
  born (Send own n d) l t was now before behind = born-other (Send own n d) l (λ o m k e. absurd (cc e)) t was now before behind
  born (Take d j own) l t was now before behind = born-other (Take d j own) l (λ o m k e. absurd (cc e)) t was now before behind
  born (File d j op mode f status) l t was now before behind = born-other (File d j op mode f status) l (λ o m k e. absurd (cc e)) t was now before behind
  born (Reply d j own fault) l t was now before behind = born-other (Reply d j own fault) l (λ o m k e. absurd (cc e)) t was now before behind
  born (Again own n) l t was now before behind = born-other (Again own n) l (λ o m k e. absurd (cc e)) t was now before behind
  born (Commit own n) l t was now before behind = born-other (Commit own n) l (λ o m k e. absurd (cc e)) t was now before behind
  born (Back own n) l t was now before behind = born-other (Back own n) l (λ o m k e. absurd (cc e)) t was now before behind
  born (FailTcp q primary k) l t was now before behind = born-other (FailTcp q primary k) l (λ o m k e. absurd (cc e)) t was now before behind
  born (FailServer d j k) l t was now before behind = born-other (FailServer d j k) l (λ o m k e. absurd (cc e)) t was now before behind
  born (Takeover q) l t was now before behind = born-other (Takeover q) l (λ o m k e. absurd (cc e)) t was now before behind
  born (Raise q) l t was now before behind = born-other (Raise q) l (λ o m k e. absurd (cc e)) t was now before behind
  born (End own ending) l t was now before behind = born-other (End own ending) l (λ o m k e. absurd (cc e)) t was now before behind

  -- a lock that is left has it still
  still : (entry : Event) → Fits sys s entry → (lock : Lock) → IsHeld s.units lock → HasBirth s lock → HasBirth (change sys s entry) lock
  still entry l lock h old now is = old h.unit h.is_open ∙ sym (born entry l lock.unit.terminal h.unit now h.is_open is)

  all-still : (entry : Event) → Fits sys s entry → (locks : List Lock) → AllByRecursion (IsHeld s.units) locks → AllByRecursion (HasBirth s) locks → AllByRecursion (HasBirth (change sys s entry)) locks
  all-still entry l [] h old = tt
  all-still entry l (lock ∷ locks) h old = (still entry l lock h.0 old.0, all-still entry l locks h.1 old.1)

filtered : (P : Lock → Type 0) (keep : Lock → Bool) (locks : List Lock) → AllByRecursion P locks → AllByRecursion P (filter keep locks)
filtered P keep [] all = tt
filtered P keep (lock ∷ locks) all = by (keep lock) (filtered P keep locks all.1)
  where
    by : (b : Bool) → AllByRecursion P (filter keep locks) → AllByRecursion P (cond b (lock ∷ filter keep locks) (filter keep locks))
    by true later = (all.0, later)
    by false later = later

module _ (sys : Behaviour) (b : IsBehaviour sys) (s : State) (i : Inv sys s) (h : AllByRecursion (IsHeld s.units) s.locks) (ok : BirthsOk s) where
  -- the locks of some terminals go
  left : (entry : Event) → Fits sys s entry → (whose : ℕ → Bool) → AllByRecursion (HasBirth (change sys s entry)) (without_locks whose s.locks)
  left entry l whose = filtered (HasBirth (change sys s entry)) (λ lock. not (whose lock.unit.terminal)) s.locks (all-still sys b s i entry l s.locks h ok)

  same : (entry : Event) → Fits sys s entry → AllByRecursion (HasBirth (change sys s entry)) s.locks
  same entry l = all-still sys b s i entry l s.locks h ok

  births-kept : (entry : Event) → Fits sys s entry → BirthsOk (effect sys s entry)
  births-kept (File c p op mode f status) l =
      let to = file-is sys s c p op mode f status l in
      subst (λ (x : State). AllByRecursion (HasBirth x) x.locks) (sym to)
      (all-last (HasBirth (do_operation sys c p l.job l.call s)) s.locks (lock_of_job sys s l.job l.call) (subst (λ (x : State). AllByRecursion (HasBirth x) s.locks) to (same (File c p op mode f status) l)) (λ u is. ap birth_of is))
  births-kept (Commit t n) l = left (Commit t n) l (only t)
  births-kept (Back t n) l = left (Back t n) l (only t)
  births-kept (Restart t n kind) l = left (Restart t n kind) l (only t)
  births-kept (Reply c p t fault) l =
      reply-any sys s c p t (λ x. x ≡ change sys s (Reply c p t fault) → AllByRecursion (HasBirth (change sys s (Reply c p t fault))) x.locks) fault
      (λ reply outside is. left (Reply c p t fault) l (only t)) (λ reply inside is. same (Reply c p t fault) l) (λ x is. same (Reply c p t fault) l) refl
  births-kept (FailServer c p k) l =
      process-cases sys s (λ x. AllByRecursion (HasBirth (change sys s (FailServer c p k))) x.locks) c p k (same (FailServer c p k) l) (λ job works. same (FailServer c p k) l)
  births-kept (FailTcp p primary k) l =
      fail-cases sys s (λ x. AllByRecursion (HasBirth (change sys s (FailTcp p primary k))) x.locks) p (same (FailTcp p primary k) l) (λ paired. same (FailTcp p primary k) l)
      (λ member breaks. left (FailTcp p primary k) l (is_of_pair sys p)) (λ has. same (FailTcp p primary k) l) primary
  births-kept (End t ending) l =
      end-any sys s (λ x. AllByRecursion (HasBirth (change sys s (End t ending))) x.locks) t ending (same (End t ending) l) (left (End t ending) l (only t))
  births-kept (Show own phase attempt k) l = same (Show own phase attempt k) l
  births-kept (Key own k) l = same (Key own k) l
  births-kept (CheckStart own) l = same (CheckStart own) l
  births-kept (CheckEnd own) l = same (CheckEnd own) l
  births-kept (CheckCopy own) l = same (CheckCopy own) l
  births-kept (Applied own) l = same (Applied own) l
  births-kept (Begin own n r) l = same (Begin own n r) l
  births-kept (Send own n d) l = same (Send own n d) l
  births-kept (Take d j own) l = same (Take d j own) l
  births-kept (Again own n) l = same (Again own n) l
  births-kept (Takeover q) l = same (Takeover q) l
  births-kept (Raise q) l = same (Raise q) l

-- in every run
pub lock-births : (sys : Behaviour) → IsBehaviour sys → (log : List Event) → IsRun sys log → BirthsOk (after sys log)
lock-births sys b = holds-behind sys BirthsOk (λ log run entry legal ok. births-kept sys b (after sys log) (kept sys b log run) (held sys b log run) ok entry legal.fits) tt

-- ---- awaited units

abbrev AwaitsOk : Behaviour → State → Type 0
AwaitsOk sys s = (t : ℕ) (u : OpenUnit) (a : Awaited) → s.units t ≡ Some u → u.awaits ≡ Some a → a.terminal < sys.terminals

module _ (sys : Behaviour) (b : IsBehaviour sys) (s : State) (i : Inv sys s) (ok : AwaitsOk sys s) where
  other-kept : (entry : Event) → Fits sys s entry → ((own n : ℕ) (kind : Cause) → entry ≡ Restart own n kind → ⊥) → AwaitsOk sys (effect sys s entry)
  other-kept entry l other = λ t u a is some. by t u a is some (unit-moves sys b s i t entry l other)
    where
      by : (t : ℕ) (u : OpenUnit) (a : Awaited) → (change sys s entry).units t ≡ Some u → u.awaits ≡ Some a → UnitMoves s (change sys s entry) t → a.terminal < sys.terminals
      by t u a is some (stays units last) = ok t u a (sym units ∙ is) some
      by t u a is some (runs was now was_is now_is birth number awaits last restarts over) = ok t was a was_is (sym awaits ∙ (ap awaited_of (sym now_is ∙ is) ∙ some))
      by t u a is some (opens now none now_is awaits last live restarts birth) = let same : now.awaits ≡ u.awaits = ap awaited_of (sym now_is ∙ is) in absurd (cc (awaits, same, some))
      by t u a is some (ends none number rises) = absurd (cc (none, is))

  awaits-kept : (entry : Event) → Fits sys s entry → AwaitsOk sys (effect sys s entry)
  awaits-kept (Restart own n kind) l = λ t u a is.
      upd_elim s.units own (with_restart kind (s.units own)) t (λ (o : Option OpenUnit). o ≡ Some u → u.awaits ≡ Some a → a.terminal < sys.terminals)
      (λ same there. by u a kind l.caused.holds (ap (λ o. awaited_of (with_restart kind o)) (sym l.caused.is_open) ∙ ap awaited_of there)) (λ differ there. ok t u a there) is
    where
      by : (u : OpenUnit) (a : Awaited) (kind : Cause) → Holds sys s own l.unit kind → awaited_after kind l.unit.awaits ≡ u.awaits → u.awaits ≡ Some a → a.terminal < sys.terminals
      by u a (cause.Older o m) h e some = let same : record { terminal = o; number = m } ≡ a = cc (e, some) in subst (λ (x : Awaited). x.terminal < sys.terminals) same (i.known o h.older h.is_open)
      by u a (cause.Takeover p) h e some = ok own l.unit a l.caused.is_open (e ∙ some)
      by u a (cause.Server k) h e some = ok own l.unit a l.caused.is_open (e ∙ some)
      by u a cause.Redo h e some = ok own l.unit a l.caused.is_open (e ∙ some)
  awaits-kept (Show own phase attempt k) l = other-kept (Show own phase attempt k) l (λ o m k e. absurd (cc e))
  awaits-kept (Key own k) l = other-kept (Key own k) l (λ o m k e. absurd (cc e))
  awaits-kept (CheckStart own) l = other-kept (CheckStart own) l (λ o m k e. absurd (cc e))
  awaits-kept (CheckEnd own) l = other-kept (CheckEnd own) l (λ o m k e. absurd (cc e))
  awaits-kept (CheckCopy own) l = other-kept (CheckCopy own) l (λ o m k e. absurd (cc e))
  awaits-kept (Applied own) l = other-kept (Applied own) l (λ o m k e. absurd (cc e))
  awaits-kept (Begin own n r) l = other-kept (Begin own n r) l (λ o m k e. absurd (cc e))
  awaits-kept (Send own n d) l = other-kept (Send own n d) l (λ o m k e. absurd (cc e))
  awaits-kept (Take d j own) l = other-kept (Take d j own) l (λ o m k e. absurd (cc e))
  awaits-kept (File d j op mode f status) l = other-kept (File d j op mode f status) l (λ o m k e. absurd (cc e))
  awaits-kept (Reply d j own fault) l = other-kept (Reply d j own fault) l (λ o m k e. absurd (cc e))
  awaits-kept (Again own n) l = other-kept (Again own n) l (λ o m k e. absurd (cc e))
  awaits-kept (Commit own n) l = other-kept (Commit own n) l (λ o m k e. absurd (cc e))
  awaits-kept (Back own n) l = other-kept (Back own n) l (λ o m k e. absurd (cc e))
  awaits-kept (FailTcp q primary k) l = other-kept (FailTcp q primary k) l (λ o m k e. absurd (cc e))
  awaits-kept (FailServer d j k) l = other-kept (FailServer d j k) l (λ o m k e. absurd (cc e))
  awaits-kept (Takeover q) l = other-kept (Takeover q) l (λ o m k e. absurd (cc e))
  awaits-kept (Raise q) l = other-kept (Raise q) l (λ o m k e. absurd (cc e))
  awaits-kept (End own ending) l = other-kept (End own ending) l (λ o m k e. absurd (cc e))

pub awaits-ok : (sys : Behaviour) → IsBehaviour sys → (log : List Event) → IsRun sys log → AwaitsOk sys (after sys log)
awaits-ok sys b = holds-behind sys (AwaitsOk sys) (λ log run entry legal ok. awaits-kept sys b (after sys log) (kept sys b log run) ok entry legal.fits) (λ t u a is. absurd (cc is))
