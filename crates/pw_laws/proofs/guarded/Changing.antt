-- Each entry that is no failure changes more of the state than its log.
use Rattle.std.proofs.Common.{◌≡◌, ◌≢◌, ℕ, false, List, [], ◌∷◌, ◌++◌, length, Option, Some, None, refl, ap, sym, length-append, arith, ◌∙◌}
use Rattle.pw_event.specs.declared.event.Ending.{Ending}
use Rattle.pw_event.specs.declared.event.Ending.TheVariants as ending
use Rattle.pw_event.specs.declared.event.Event.{Event}
use Rattle.pw_event.specs.declared.event.Event.TheVariants as event
use Rattle.pw_locks.specs.declared.lock.Lock.{Lock}
use Rattle.pw_class.specs.declared.request.Request.{Request}
use Rattle.pw_onecopy.proofs.Update.{upd-same}
use Rattle.pw_onecopy.specs.Behaviour.{Behaviour}
use Rattle.pw_onecopy.specs.IsBehaviour.{IsBehaviour}
use Rattle.pw_onecopy.specs.Path.{PathAnswer}
use Rattle.pw_paired.specs.End.{LegalEnd}
use Rattle.pw_paired.specs.Failure.{with_restart}
use Rattle.pw_paired.specs.Server.{LegalReply, lock_of_job, with_first_taken}
use Rattle.pw_paired.specs.State.{Class, OpenUnit, State, Term}
use Rattle.pw_paired.specs.Step.{Fits, IsRun, after, change}
use Rattle.pw_paired.specs.Terminal.{message_of, next_verb, path_of, unit_with_attempt}
use Rattle.pw_paired.specs.Units.{attempt_of}
use Rattle.pw_laws.proofs.induction.Served.{file-is, reply-cases}
use Rattle.pw_laws.proofs.RunSteps.{IsRunFrom-split}
use Rattle.pw_laws.proofs.blocks.Fold.{Fold, fold_after}
use Rattle.pw_laws.proofs.blocks.Known.{Known, known}
use Rattle.pw_laws.specs.serial.Guarded.{is_fail}
use Rattle.pw_paired.specs.State.{starting}

module _ (sys : Behaviour) (b : IsBehaviour sys) (s : State) (f : Fold) (k : Known sys b s f) where
  -- a longer path is another one
  grows : (t : ℕ) (a : PathAnswer) (x : State) → path_of x t ≡ path_of s t ++ a ∷ [] → x ≢ s
  grows t a x path same =
      let sum = length-append (path_of s t) (a ∷ []) in
      let longer = ap (λ (p : List PathAnswer). length p) (sym path ∙ ap (λ (y : State). path_of y t) same) in
      absurd (omega (arith, sum, longer))

  got : (t : ℕ) (a : PathAnswer) (x : State) → x.terms t ≡ record (s.terms t) { path = path_of s t ++ a ∷ [] } → x ≢ s
  got t a x term = grows t a x (ap (λ (y : Term). y.path) term)

  begun-runs : (n birth : ℕ) (p : List PathAnswer) (unit : Option OpenUnit) → (unit_with_attempt n birth p unit).running ≡ Some p
  begun-runs n birth p None = refl
  begun-runs n birth p (Some u) = refl

  -- what a REPLY puts on the path
  reply-path : (c i t : ℕ) (fault : Option ℕ) → LegalReply sys s c i t fault → (a : PathAnswer) × (path_of (change sys s (event.Reply c i t fault)) t ≡ path_of s t ++ a ∷ [])
  reply-path c i t fault l =
      reply-cases sys s c i t (λ (x : State). (a : PathAnswer) × (path_of x t ≡ path_of s t ++ a ∷ [])) fault l
      (λ reply none asks outside. (_, ap (λ (y : Term). y.path) (upd-same s.terms t _ t refl)))
      (λ reply none asks inside. (_, ap (λ (y : Term). y.path) (upd-same s.terms t _ t refl)))
      (λ x is asks. (_, ap (λ (y : Term). y.path) (upd-same s.terms t _ t refl)))

  -- a terminal ends that was live
  end-live : (t : ℕ) (e : Ending) → LegalEnd sys s t e → (s.terms t).ending ≡ None
  end-live t ending.Stopped l = l.can.live.going_on
  end-live t ending.NoEntries l = l.can.live.going_on
  end-live t (ending.Fault x) l = l.can.live.going_on
  end-live t (ending.Suspended cause) l = (k.alone t l.unit l.caused.start l.caused.is_open l.caused.runs).going
  end-live t ending.Lost l = l.live.going_on

  end-set : (t : ℕ) (e : Ending) → LegalEnd sys s t e → ((change sys s (event.End t e)).terms t).ending ≡ Some e
  end-set t ending.Stopped l = ap (λ (y : Term). y.ending) (upd-same s.terms t _ t refl)
  end-set t ending.NoEntries l = ap (λ (y : Term). y.ending) (upd-same s.terms t _ t refl)
  end-set t (ending.Fault x) l = ap (λ (y : Term). y.ending) (upd-same s.terms t _ t refl)
  end-set t (ending.Suspended cause) l = ap (λ (y : Term). y.ending) (upd-same s.terms t _ t refl)
  end-set t ending.Lost l = ap (λ (y : Term). y.ending) (upd-same s.terms t _ t refl)

  changes : (entry : Event) → Fits sys s entry → is_fail entry ≡ false → change sys s entry ≢ s
  changes (event.Show t phase attempt n) l plain same = got t _ (change sys s (event.Show t phase attempt n)) (upd-same s.terms t _ t refl) same
  changes (event.Key t n) l plain same = got t _ (change sys s (event.Key t n)) (upd-same s.terms t _ t refl) same
  changes (event.CheckStart t) l plain same =
      absurd (let sent = sym (upd-same s.flight t _ t refl) ∙ ap (λ (x : State). x.flight t) same in let free = l.free in cc (sent, free))
  changes (event.CheckEnd t) l plain same =
      absurd (let sent = sym (upd-same s.flight t _ t refl) ∙ ap (λ (x : State). x.flight t) same in let free = l.free in cc (sent, free))
  changes (event.CheckCopy t) l plain same =
      absurd (let sent = sym (upd-same s.flight t _ t refl) ∙ ap (λ (x : State). x.flight t) same in let free = l.free in cc (sent, free))
  changes (event.Applied t) l plain same =
      absurd (let taken = sym (upd-same s.flight t None t refl) ∙ ap (λ (x : State). x.flight t) same in let flies = l.flies in cc (taken, flies))
  changes (event.Begin t n r) l plain same =
      absurd
      (let now = ap attempt_of (sym (upd-same s.units t _ t refl) ∙ ap (λ (x : State). x.units t) same) in
      let runs = begun-runs n s.births (path_of s t) (s.units t) in
      let idle = l.idle in cc (now, runs, idle))
  changes (event.Send t n c) l plain same =
      let now = sym (ap (λ (x : Class). x.waiting) (upd-same s.classes c _ c refl)) ∙ ap (λ (x : State). (x.classes c).waiting) same in
      let sum = length-append (s.classes c).waiting (record { terminal = t; unit = n; message = message_of (next_verb sys s t) } ∷ []) in
      let longer = ap (λ (x : List Request). length x) now in
      absurd (omega (arith, sum, longer))
  changes (event.Take c i t) l plain same =
      let now = ap (λ (x : State). (x.classes c).waiting) same in
      let taken = ap (λ (x : Class). x.waiting) (upd-same s.classes c _ c refl) in
      let others = ap (λ (w : List Request). (with_first_taken i w (s.classes c)).waiting) l.first in
      let shorter = ap (λ (x : List Request). length x) (sym others ∙ (sym taken ∙ (now ∙ l.first))) in
      absurd (omega (arith, shorter))
  changes (event.File c i op mode file status) l plain same =
      let now = ap (λ (x : State). x.locks) (sym (file-is sys s c i op mode file status l) ∙ same) in
      let sum = length-append s.locks (lock_of_job sys s l.job l.call ∷ []) in
      let longer = ap (λ (x : List Lock). length x) now in
      absurd (omega (arith, sum, longer))
  changes (event.Reply c i t fault) l plain same = let got_it = reply-path c i t fault l in grows t got_it.0 (change sys s (event.Reply c i t fault)) got_it.1 same
  changes (event.Again t n) l plain same = got t _ (change sys s (event.Again t n)) (upd-same s.terms t _ t refl) same
  changes (event.Commit t n) l plain same = got t _ (change sys s (event.Commit t n)) (upd-same s.terms t _ t refl) same
  changes (event.Back t n) l plain same = got t _ (change sys s (event.Back t n)) (upd-same s.terms t _ t refl) same
  changes (event.Restart t n kind) l plain same =
      absurd
      (let now = ap attempt_of (sym (upd-same s.units t _ t refl ∙ ap (with_restart kind) l.caused.is_open) ∙ ap (λ (x : State). x.units t) same) in
      let was = ap attempt_of l.caused.is_open in
      let runs = l.caused.runs in cc (now, was, runs))
  changes (event.FailTcp p primary n) l plain same = absurd (cc plain)
  changes (event.FailServer c i n) l plain same = absurd (cc plain)
  changes (event.Takeover p) l plain same = absurd (let now = sym (upd-same s.modes p _ p refl) ∙ ap (λ (x : State). x.modes p) same in let down = l.down in cc (now, down))
  changes (event.Raise p) l plain same = absurd (let now = sym (upd-same s.modes p _ p refl) ∙ ap (λ (x : State). x.modes p) same in let alone = l.alone in cc (now, alone))
  changes (event.End t e) l plain same = absurd (let now = sym (end-set t e l) ∙ ap (λ (x : State). (x.terms t).ending) same in let live = end-live t e l in cc (now, live))

-- an entry that is no failure changes the state
pub entry-changes : (sys : Behaviour) → IsBehaviour sys → (log : List Event) (entry : Event) → IsRun sys (log ++ entry ∷ []) → is_fail entry ≡ false
    → change sys (after sys log) entry ≢ after sys log
entry-changes sys b log entry run plain =
    let parts = IsRunFrom-split sys (starting sys) log (entry ∷ []) run in
    changes sys b (after sys log) (fold_after sys log) (known sys b log parts.0) entry parts.1.0.fits plain
