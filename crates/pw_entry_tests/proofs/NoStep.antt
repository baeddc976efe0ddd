-- An actor of whom no kind of entry passes has no step.
use Rattle.std.proofs.Common.{◌≡◌, ℕ, zero, suc, Bool, true, false, [], Option, refl, ap, sym, subst, ◌∙◌}
use Rattle.pw_base.proofs.Plain.{refutes}
use Rattle.pw_code.specs.declared.file.FileOp.{FileOp}
use Rattle.pw_code.specs.declared.lock.LockMode.{LockMode}
use Rattle.pw_code.specs.declared.system.System.{System}
use Rattle.pw_event.specs.declared.event.Ending.TheVariants.{Fault, Lost, NoEntries, Stopped, Suspended}
use Rattle.pw_event.specs.declared.event.Event.{Event}
use Rattle.pw_event.specs.declared.event.Event.TheVariants.{Show, Key, CheckStart, CheckEnd, CheckCopy, Applied, Begin, Send, Take, File, Reply, Again, Commit, Back, Restart, FailTcp, FailServer, Takeover, Raise, End}
use Rattle.pw_code_meaning.specs.OfSystem.{behaviour}
use Rattle.pw_world_state.specs.CauseTests.{may_restart, may_suspend}
use Rattle.pw_world_state.specs.ClassTests.{may_file, may_reply}
use Rattle.pw_world_state.specs.Kept.{Kept}
use Rattle.pw_world_state.specs.PairTests.{may_apply, may_copy, may_lose, may_raise, may_take_over}
use Rattle.pw_world_state.specs.Read.{IsServerRead}
use Rattle.pw_world_state.specs.TerminalTests.{may_again, may_back, may_begin, may_check_end, may_check_start, may_commit, may_end_entries, may_fault, may_key, may_send, may_show, may_stop}
use Rattle.pw_laws.specs.legal.Pairs.{is_legal_fail_tcp}
use Rattle.pw_actor_queue.specs.declared.actor.Actor.TheVariants.{Terminal, Process, Pair}
use Rattle.pw_entry_tests.specs.Members.{IsMember}
use Rattle.pw_entry_tests.specs.Steps.{HasNoCausedStep, IsStepOf}
use Rattle.pw_world_state.specs.NextSteps.{HasNoVerbStep}

-- no line of an empty script
no-tcp-line : (system : System) (p : ℕ) (primary : Bool) (k : ℕ) → is_legal_fail_tcp (behaviour [] system) p primary k ≡ false
no-tcp-line system p primary zero = refl
no-tcp-line system p primary (suc k) = refl

-- the terminal of a terminal's step
terminal-is : {t o : ℕ} → Terminal o ≡ Terminal t → o ≡ t
terminal-is e = cc e

module _ (system : System) (kept : Kept) where
  -- ---- a terminal
  module _ (t : ℕ) (none : HasNoVerbStep system kept t) (lives : may_lose system kept t ≡ false) (calm : HasNoCausedStep system kept t) where
    at : (test : ℕ → Bool) → test t ≡ false → (o : ℕ) → o ≡ t → test o ≡ true → ⊥
    at test fails o is passes = refutes (sym (ap test is) ∙ passes) fails

    pub no-step-of-terminal : (entry : Event) → IsStepOf system kept (Terminal t) entry → ⊥
    no-step-of-terminal (Show o phase attempt k) h =
        at (λ j. may_show system kept j phase attempt k) (none.show phase attempt k) o (terminal-is h.own) h.passes
    no-step-of-terminal (Key o k) h = at (λ j. may_key system kept j k) (none.key k) o (terminal-is h.own) h.passes
    no-step-of-terminal (CheckStart o) h = at (may_check_start system kept) none.check_start o (terminal-is h.own) h.passes
    no-step-of-terminal (CheckEnd o) h = at (may_check_end system kept) none.check_end o (terminal-is h.own) h.passes
    no-step-of-terminal (CheckCopy o) h = cc h.own
    no-step-of-terminal (Applied o) h = cc h.own
    no-step-of-terminal (Begin o n r) h = at (λ j. may_begin system kept j n r) (none.begin n r) o (terminal-is h.own) h.passes
    no-step-of-terminal (Send o n c) h = at (λ j. may_send system kept j n c) (none.send n c) o (terminal-is h.own) h.passes
    no-step-of-terminal (Take c i o) h = cc h.own
    no-step-of-terminal (File c i op mode f status) h = cc h.own
    no-step-of-terminal (Reply c i o fault) h = cc h.own
    no-step-of-terminal (Again o n) h = at (λ j. may_again system kept j n) (none.again n) o (terminal-is h.own) h.passes
    no-step-of-terminal (Commit o n) h = at (λ j. may_commit system kept j n) (none.commit n) o (terminal-is h.own) h.passes
    no-step-of-terminal (Back o n) h = at (λ j. may_back system kept j n) (none.back n) o (terminal-is h.own) h.passes
    no-step-of-terminal (Restart o n cause) h =
        at (λ j. may_restart system kept j n cause) (calm.restart n cause) o (terminal-is h.own) h.passes
    no-step-of-terminal (FailTcp p primary k) h = cc h.own
    no-step-of-terminal (FailServer c i k) h = cc h.own
    no-step-of-terminal (Takeover p) h = cc h.own
    no-step-of-terminal (Raise p) h = cc h.own
    no-step-of-terminal (End o Stopped) h = at (may_stop system kept) none.stop o (terminal-is h.own) h.passes
    no-step-of-terminal (End o NoEntries) h = at (may_end_entries system kept) none.entries o (terminal-is h.own) h.passes
    no-step-of-terminal (End o (Fault x)) h = at (λ j. may_fault system kept j x) (none.fault x) o (terminal-is h.own) h.passes
    no-step-of-terminal (End o (Suspended cause)) h =
        at (λ j. may_suspend system kept j cause) (calm.suspend cause) o (terminal-is h.own) h.passes
    no-step-of-terminal (End o Lost) h = at (may_lose system kept) lives o (terminal-is h.own) h.passes

  -- ---- a process
  module _ (c i : ℕ)
      (files : IsServerRead kept c i → (op : FileOp) (mode : LockMode) (f status : ℕ) → may_file system kept c i op mode f status ≡ false)
      (replies : IsServerRead kept c i → (t : ℕ) (fault : Option ℕ) → may_reply system kept c i t fault ≡ false) where
    pub no-step-of-process : (entry : Event) → IsStepOf system kept (Process c i) entry → ⊥
    no-step-of-process (Show o phase attempt k) h = cc h.own
    no-step-of-process (Key o k) h = cc h.own
    no-step-of-process (CheckStart o) h = cc h.own
    no-step-of-process (CheckEnd o) h = cc h.own
    no-step-of-process (CheckCopy o) h = cc h.own
    no-step-of-process (Applied o) h = cc h.own
    no-step-of-process (Begin o n r) h = cc h.own
    no-step-of-process (Send o n d) h = cc h.own
    no-step-of-process (Take d j o) h = cc h.own
    no-step-of-process (File d j op mode f status) h =
        let class : d ≡ c = cc h.own in
        let process : j ≡ i = cc h.own in
        let read : IsServerRead kept c i = subst (λ x. IsServerRead kept c x) process (subst (λ x. IsServerRead kept x j) class h.read) in
        refutes
        (subst (λ x. may_file system kept c x op mode f status ≡ true) process
        (subst (λ x. may_file system kept x j op mode f status ≡ true) class h.passes))
        (files read op mode f status)
    no-step-of-process (Reply d j o fault) h =
        let class : d ≡ c = cc h.own in
        let process : j ≡ i = cc h.own in
        let read : IsServerRead kept c i = subst (λ x. IsServerRead kept c x) process (subst (λ x. IsServerRead kept x j) class h.read) in
        refutes
        (subst (λ x. may_reply system kept c x o fault ≡ true) process
        (subst (λ x. may_reply system kept x j o fault ≡ true) class h.passes))
        (replies read o fault)
    no-step-of-process (Again o n) h = cc h.own
    no-step-of-process (Commit o n) h = cc h.own
    no-step-of-process (Back o n) h = cc h.own
    no-step-of-process (Restart o n cause) h = cc h.own
    no-step-of-process (FailTcp p primary k) h = cc h.own
    no-step-of-process (FailServer d j k) h = cc h.own
    no-step-of-process (Takeover p) h = cc h.own
    no-step-of-process (Raise p) h = cc h.own
    no-step-of-process (End o ending) h = cc h.own

  -- ---- a pair: what its steps are
  module _ (p : ℕ) (taken : may_take_over kept p ≡ false) (raised : may_raise system kept p ≡ false) (C : Event → Type 0)
      (copies : (t : ℕ) → IsMember system p t → may_copy system kept t ≡ true → C (CheckCopy t))
      (applies : (t : ℕ) → IsMember system p t → may_apply system kept t ≡ true → C (Applied t)) where
    pub step-of-pair : (entry : Event) → IsStepOf system kept (Pair p) entry → C entry
    step-of-pair (Show o phase attempt k) h = cc h.own
    step-of-pair (Key o k) h = cc h.own
    step-of-pair (CheckStart o) h = cc h.own
    step-of-pair (CheckEnd o) h = cc h.own
    step-of-pair (CheckCopy o) h = copies o (record { there = h.there; of_pair = cc h.own }) h.passes
    step-of-pair (Applied o) h = applies o (record { there = h.there; of_pair = cc h.own }) h.passes
    step-of-pair (Begin o n r) h = cc h.own
    step-of-pair (Send o n d) h = cc h.own
    step-of-pair (Take d j o) h = cc h.own
    step-of-pair (File d j op mode f status) h = cc h.own
    step-of-pair (Reply d j o fault) h = cc h.own
    step-of-pair (Again o n) h = cc h.own
    step-of-pair (Commit o n) h = cc h.own
    step-of-pair (Back o n) h = cc h.own
    step-of-pair (Restart o n cause) h = cc h.own
    step-of-pair (FailTcp q primary k) h = absurd (refutes h.passes (no-tcp-line system q primary k))
    step-of-pair (FailServer d j k) h = cc h.own
    step-of-pair (Takeover q) h =
        let same : q ≡ p = cc h.own in absurd (refutes (subst (λ x. may_take_over kept x ≡ true) same h.passes) taken)
    step-of-pair (Raise q) h =
        let same : q ≡ p = cc h.own in absurd (refutes (subst (λ x. may_raise system kept x ≡ true) same h.passes) raised)
    step-of-pair (End o ending) h = cc h.own
