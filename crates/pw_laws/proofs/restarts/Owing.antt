-- A failure gives a unit one restart more: by a cause that is pending, or by its lost primary.
use Rattle.std.proofs.Common.{◌≡◌, ℕ, ◌==◌, Bool, true, false, is_some, is_none, List, Option, Some, None, if◌then◌else◌, refl, ap, sym, subst, ◌∙◌}
use Rattle.std.proofs.lemmas.Bool.{eqb-true, true≢false}
use Rattle.pw_base.proofs.Plain.{and-first, and-second}
use Rattle.pw_event.specs.declared.event.Cause.{Cause}
use Rattle.pw_event.specs.declared.event.Cause.TheVariants as cause
use Rattle.pw_event.specs.declared.event.Event.{Event}
use Rattle.pw_event.specs.declared.event.Event.TheVariants as event
use Rattle.pw_onecopy.proofs.Update.{upd_elim}
use Rattle.pw_onecopy.specs.Behaviour.{Behaviour}
use Rattle.pw_onecopy.specs.Path.{PathAnswer}
use Rattle.pw_onecopy.specs.Update.{upd}
use Rattle.pw_paired.specs.Failure.{LegalTakeover, is_live_of, is_of_pair, resume_terminal, runs_unit, with_restart, with_start_path}
use Rattle.pw_paired.specs.Raising.{settled_mode}
use Rattle.pw_paired.specs.State.{Alone, BackupCopy, Down, Gone, LastEnded, PairMode, OpenUnit, Paired, Raising, State, Term}
use Rattle.pw_paired.specs.Step.{Fits, change, effect}
use Rattle.pw_paired.specs.Units.{attempt_of, only}
use Rattle.pw_laws.proofs.induction.Failed.{end-cases}
use Rattle.pw_laws.proofs.induction.Served.{file-is, reply-cases}
use Rattle.pw_laws.specs.serial.Guarded.{is_fail}

-- a cause is pending for the terminal, or its attempt runs while its pair is Down
pub data Owes (sys : Behaviour) (s : State) (t : ℕ) : Type 0 where
  pends : (kind : Cause) → (s.terms t).pending ≡ Some kind → Owes sys s t
  sinks : (u : OpenUnit) (q : List PathAnswer) → s.modes (sys.pair_of t) ≡ Down → s.units t ≡ Some u → u.running ≡ Some q → Owes sys s t

settled-down : (mode : PairMode) (lacks : Bool) → settled_mode mode lacks ≡ Down → mode ≡ Down
settled-down Raising false is = absurd (cc is)
settled-down Raising true is = is
settled-down Alone lacks is = is
settled-down Paired lacks is = is
settled-down Down lacks is = is
settled-down Gone lacks is = is

-- an attempt of the unit that a backup copy names
attempts-of : (number : ℕ) (unit : Option OpenUnit) → runs_unit number unit ≡ true → (u : OpenUnit) × (q : List PathAnswer) × (unit ≡ Some u) × (u.running ≡ Some q)
attempts-of number None is = absurd (true≢false (sym is))
attempts-of number (Some u) is = by u.running refl (and-second (u.number == number) (is_some u.running) is)
  where
    by : (running : Option (List PathAnswer)) → u.running ≡ running → is_some u.running ≡ true → (v : OpenUnit) × (q : List PathAnswer) × (Some u ≡ Some v) × (v.running ≡ Some q)
    by None none there = absurd (true≢false (sym there ∙ ap is_some none))
    by (Some q) runs there = (u, q, refl, runs)

module _ (sys : Behaviour) (s : State) (t : ℕ) where
  -- what the terminal owes in the new state it owed before
  abbrev pub Owed : State → Type 0
  Owed x = Owes sys x t → Owes sys s t

  make : {x : State} → ((k : Cause) → (x.terms t).pending ≡ Some k → (s.terms t).pending ≡ Some k)
      → (x.modes (sys.pair_of t) ≡ Down → s.modes (sys.pair_of t) ≡ Down)
      → ((u : OpenUnit) (q : List PathAnswer) → x.modes (sys.pair_of t) ≡ Down → x.units t ≡ Some u → u.running ≡ Some q → s.units t ≡ Some u)
      → Owed x
  make pending mode unit (pends k is) = pends k (pending k is)
  make pending mode unit (sinks u q down is runs) = sinks u q (mode down) (unit u q down is runs) runs

  -- a terminal is changed that has the same pending, or none
  same-pending : (own : ℕ) (x : Term) → x.pending ≡ (s.terms own).pending → (k : Cause) → (upd s.terms own x t).pending ≡ Some k → (s.terms t).pending ≡ Some k
  same-pending own x same k =
      upd_elim s.terms own x t (λ (y : Term). y.pending ≡ Some k → (s.terms t).pending ≡ Some k)
      (λ at is. ap (λ (o : ℕ). (s.terms o).pending) at ∙ (sym same ∙ is)) (λ _ is. is)

  none-pending : (own : ℕ) (x : Term) → x.pending ≡ None → (k : Cause) → (upd s.terms own x t).pending ≡ Some k → (s.terms t).pending ≡ Some k
  none-pending own x none k =
      upd_elim s.terms own x t (λ (y : Term). y.pending ≡ Some k → (s.terms t).pending ≡ Some k) (λ at is. absurd (cc (none, is))) (λ _ is. is)

  back-none : (start : Option (List PathAnswer)) (x : Term) → (with_start_path start x).pending ≡ None
  back-none None x = refl
  back-none (Some q) x = refl

  -- its unit ends, or that of another terminal
  no-unit : (own : ℕ) (u : OpenUnit) → upd s.units own None t ≡ Some u → s.units t ≡ Some u
  no-unit own u = upd_elim s.units own None t (λ (y : Option OpenUnit). y ≡ Some u → s.units t ≡ Some u) (λ at is. absurd (cc is)) (λ _ is. is)

  rests : (kind : Cause) (unit : Option OpenUnit) → attempt_of (with_restart kind unit) ≡ None
  rests kind None = refl
  rests kind (Some u) = refl

  -- another mode than Down
  other-mode : (p : ℕ) (mode : PairMode) → (mode ≡ Down → s.modes p ≡ Down) → upd s.modes p mode (sys.pair_of t) ≡ Down → s.modes (sys.pair_of t) ≡ Down
  other-mode p mode from =
      upd_elim s.modes p mode (sys.pair_of t) (λ (y : PairMode). y ≡ Down → s.modes (sys.pair_of t) ≡ Down) (λ at is. ap s.modes at ∙ from is) (λ _ is. is)

  left-was : (own : ℕ) (u : OpenUnit) → (if only own t then None else s.units t) ≡ Some u → s.units t ≡ Some u
  left-was own u = by (only own t)
    where
      by : (is : Bool) → (if is then None else s.units t) ≡ Some u → s.units t ≡ Some u
      by true there = absurd (cc there)
      by false there = there

  -- a takeover: what becomes pending was owed for the lost primary
  resumed : (p : ℕ) (m : Option BackupCopy) (last : LastEnded) → sys.pair_of t ≡ p → s.modes p ≡ Down → (k : Cause)
      → (resume_terminal p m (s.units t) last (s.terms t)).pending ≡ Some k → Owes sys s t
  resumed p None last of down k is = pends k is
  resumed p (Some m) last of down k is = by (runs_unit m.unit (s.units t)) refl is
    where
      by : (b : Bool) → runs_unit m.unit (s.units t) ≡ b → (if b then Some (cause.Takeover p) else (s.terms t).pending) ≡ Some k → Owes sys s t
      by true runs there = let it = attempts-of m.unit (s.units t) runs in sinks it.0 it.1 (ap s.modes of ∙ down) it.2 it.3
      by false rest there = pends k there

  taken-over : (p : ℕ) → LegalTakeover s p → Owed (change sys s (event.Takeover p))
  taken-over p l (pends k is) = by (is_live_of sys p s t) refl is
    where
      by : (b : Bool) → is_live_of sys p s t ≡ b → (if b then resume_terminal p (s.memory t) (s.units t) (s.ended t) (s.terms t) else s.terms t).pending ≡ Some k → Owes sys s t
      by true live there = resumed p (s.memory t) (s.ended t) (eqb-true (sys.pair_of t) p (and-first (is_of_pair sys p t) (is_none (s.terms t).ending) live)) l.down k there
      by false other there = pends k there
  taken-over p l (sinks u q down is runs) = sinks u q (other-mode p Alone (λ e. absurd (cc e)) down) is runs

  -- an entry that is no failure makes nothing owed
  pub owed : (entry : Event) → Fits sys s entry → is_fail entry ≡ false → Owed (change sys s entry)
  owed (event.Show own phase attempt k) l none = make (same-pending own _ refl) (λ d. d) (λ u q d is r. is)
  owed (event.Key own k) l none = make (same-pending own _ refl) (λ d. d) (λ u q d is r. is)
  owed (event.CheckStart own) l none = make (λ k is. is) (λ d. d) (λ u q d is r. is)
  owed (event.CheckEnd own) l none = make (λ k is. is) (λ d. d) (λ u q d is r. is)
  owed (event.CheckCopy own) l none = make (λ k is. is) (λ d. d) (λ u q d is r. is)
  owed (event.Applied own) l none = make (λ k is. is) (other-mode (sys.pair_of own) _ (settled-down (s.modes (sys.pair_of own)) _)) (λ u q d is r. is)
  owed (event.Begin own n r) l none =
      make (same-pending own _ refl) (λ d. d)
      (λ u q d is r. upd_elim s.units own _ t (λ (y : Option OpenUnit). y ≡ Some u → s.units t ≡ Some u)
      (λ at there. absurd (let paired = l.can.paired in let down = ap (λ (o : ℕ). s.modes (sys.pair_of o)) (sym at) ∙ d in cc (paired, down))) (λ _ there. there) is)
  owed (event.Send own n c) l none = make (λ k is. is) (λ d. d) (λ u q d is r. is)
  owed (event.Take c p own) l none = make (λ k is. is) (λ d. d) (λ u q d is r. is)
  owed (event.File c p op mode f status) l none = subst Owed (sym (file-is sys s c p op mode f status l)) (make (λ k is. is) (λ d. d) (λ u q d is r. is))
  owed (event.Reply c p own fault) l none =
      reply-cases sys s c p own Owed fault l
      (λ reply ok asks outside. make (same-pending own _ refl) (λ d. d) (λ u q d is r. no-unit own u is))
      (λ reply ok asks inside. make (same-pending own _ refl) (λ d. d) (λ u q d is r. is))
      (λ x is asks. make (same-pending own _ refl) (λ d. d) (λ u q d is r. is))
  owed (event.Again own n) l none = make (same-pending own _ refl) (λ d. d) (λ u q d is r. is)
  owed (event.Commit own n) l none = make (same-pending own _ refl) (λ d. d) (λ u q d is r. no-unit own u is)
  owed (event.Back own n) l none = make (same-pending own _ refl) (λ d. d) (λ u q d is r. no-unit own u is)
  owed (event.Restart own n kind) l none =
      make (none-pending own _ (back-none (attempt_of (s.units own)) (s.terms own))) (λ d. d)
      (λ u q d is r. upd_elim s.units own _ t (λ (y : Option OpenUnit). y ≡ Some u → s.units t ≡ Some u)
      (λ at there. absurd (let stopped = rests kind (s.units own) in let runs = ap attempt_of there in cc (stopped, runs, r))) (λ _ there. there) is)
  owed (event.FailTcp p primary k) l none = absurd (true≢false none)
  owed (event.FailServer c i k) l none = absurd (true≢false none)
  owed (event.Takeover p) l none = taken-over p l
  owed (event.Raise p) l none = make (λ k is. is) (other-mode p Raising (λ e. absurd (cc e))) (λ u q d is r. is)
  owed (event.End own e) l none =
      end-cases sys s Owed own e l
      (λ stopped. make (none-pending own _ refl) (other-mode (sys.pair_of own) _ (settled-down (s.modes (sys.pair_of own)) _)) (λ u q d is r. is))
      (λ lost. make (none-pending own _ refl) (other-mode (sys.pair_of own) _ (settled-down (s.modes (sys.pair_of own)) _)) (λ u q d is r. is))
      (λ leaves. make (none-pending own _ refl) (other-mode (sys.pair_of own) _ (settled-down (s.modes (sys.pair_of own)) _)) (λ u q d is r. left-was own u is))

  -- and with the entry in the log
  pub owed-behind : (entry : Event) → Fits sys s entry → is_fail entry ≡ false → Owed (effect sys s entry)
  owed-behind entry l none (pends k is) = owed entry l none (pends k is)
  owed-behind entry l none (sinks u q down is runs) = owed entry l none (sinks u q down is runs)
