-- An open unit is one of a live terminal.
use Rattle.std.proofs.Common.{◌≡◌, ◌≢◌, ℕ, ⊎_elim, Bool, true, false, List, Option, Some, None, if◌then◌else◌, refl, ap, sym, subst, ◌∙◌}
use Rattle.std.proofs.lemmas.Bool.{cases_Bool, cases_eq, cond-false, cond-true, eq-eqb}
use Rattle.pw_code.specs.declared.verb.Verb.{Verb}
use Rattle.pw_event.specs.declared.event.Ending.{Ending}
use Rattle.pw_event.specs.declared.event.Ending.TheVariants as ending
use Rattle.pw_event.specs.declared.event.Event.{Event}
use Rattle.pw_event.specs.declared.event.Event.TheVariants as event
use Rattle.pw_onecopy.proofs.Update.{upd_elim, upd-other}
use Rattle.pw_onecopy.specs.Attempt.{BeginsUnit}
use Rattle.pw_onecopy.specs.Behaviour.{Behaviour}
use Rattle.pw_onecopy.specs.IsBehaviour.{IsBehaviour}
use Rattle.pw_onecopy.specs.Path.{PathAnswer}
use Rattle.pw_onecopy.specs.Update.{upd}
use Rattle.pw_paired.specs.End.{LegalStopped, end_terminal}
use Rattle.pw_paired.specs.Failure.{is_live_of, resume_terminal, with_start_path}
use Rattle.pw_paired.specs.Raising.{is_takeover}
use Rattle.pw_paired.specs.State.{BackupCopy, LastEnded, OpenUnit, State, Term}
use Rattle.pw_paired.specs.Step.{Fits, IsRun, after, change, effect}
use Rattle.pw_paired.specs.Terminal.{path_of}
use Rattle.pw_paired.specs.Units.{attempt_of, leave_units, only}
use Rattle.pw_laws.proofs.ends.EndsOnce.{stopped-idle}
use Rattle.pw_laws.proofs.induction.Failed.{end-any, end-cases, fail-cases, process-cases}
use Rattle.pw_laws.proofs.induction.Runs.{holds-behind}
use Rattle.pw_laws.proofs.induction.Served.{file-is, reply-cases}
use Rattle.pw_laws.proofs.induction.Views.{view_of}
use Rattle.pw_laws.proofs.terms.KeepsPairs.{not-of-pair, of-pair}
use Rattle.pw_laws.proofs.blocks.Fold.{Fold, fold_after}
use Rattle.pw_laws.proofs.blocks.Known.{Known, known}
use Rattle.pw_laws.proofs.frontier.Frontier.{FrontierOk}
use Rattle.pw_laws.proofs.frontier.Standing.{Where, closed, running, waiting, where-of}
use Rattle.pw_laws.proofs.steps.Awaiting.{UnitMoves, ends, unit-moves, opens, runs, stays}

module _ (sys : Behaviour) (s : State) (t : ℕ) where
  abbrev SameEnding : State → Type 0
  SameEnding x = (x.terms t).ending ≡ (s.terms t).ending

  -- a terminal is changed that keeps its ending
  one-term : (own : ℕ) (x : Term) → x.ending ≡ (s.terms own).ending → (upd s.terms own x t).ending ≡ (s.terms t).ending
  one-term own x same =
      upd_elim s.terms own x t (λ (y : Term). y.ending ≡ (s.terms t).ending) (λ at. same ∙ ap (λ (o : ℕ). (s.terms o).ending) (sym at)) (λ _. refl)

  back-ending : (start : Option (List PathAnswer)) (x : Term) → (with_start_path start x).ending ≡ x.ending
  back-ending None x = refl
  back-ending (Some q) x = refl

  resumed-ending : (p : ℕ) (m : Option BackupCopy) (u : Option OpenUnit) (last : LastEnded) (x : Term) → (resume_terminal p m u last x).ending ≡ x.ending
  resumed-ending p None u last x = refl
  resumed-ending p (Some m) u last x = refl

  -- every entry but an END of the terminal keeps its ending
  pub ending-stays : (entry : Event) → Fits sys s entry → ((e : Ending) → entry ≡ event.End t e → ⊥) → SameEnding (change sys s entry)
  ending-stays (event.Show own phase attempt k) l other = one-term own _ refl
  ending-stays (event.Key own k) l other = one-term own _ refl
  ending-stays (event.CheckStart own) l other = refl
  ending-stays (event.CheckEnd own) l other = refl
  ending-stays (event.CheckCopy own) l other = refl
  ending-stays (event.Applied own) l other = refl
  ending-stays (event.Begin own n r) l other = one-term own _ refl
  ending-stays (event.Send own n c) l other = refl
  ending-stays (event.Take c p own) l other = refl
  ending-stays (event.File c p op mode f status) l other = subst SameEnding (sym (file-is sys s c p op mode f status l)) refl
  ending-stays (event.Reply c p own fault) l other =
      reply-cases sys s c p own SameEnding fault l (λ reply none asks outside. one-term own _ refl) (λ reply none asks inside. one-term own _ refl) (λ x is asks. one-term own _ refl)
  ending-stays (event.Again own n) l other = one-term own _ refl
  ending-stays (event.Commit own n) l other = one-term own _ refl
  ending-stays (event.Back own n) l other = one-term own _ refl
  ending-stays (event.Restart own n kind) l other = one-term own _ (back-ending (attempt_of (s.units own)) (s.terms own))
  ending-stays (event.FailTcp p primary k) l other =
      fail-cases sys s SameEnding p refl
      (λ paired. ⊎_elim (λ of. ap (λ (x : Term). x.ending) (of-pair sys p t _ (s.terms t) of)) (λ differ. ap (λ (x : Term). x.ending) (not-of-pair sys p t _ (s.terms t) differ)) (cases_eq (sys.pair_of t) p))
      (λ which breaks. ⊎_elim (λ of. ap (λ (x : Term). x.ending) (of-pair sys p t _ (s.terms t) of)) (λ differ. ap (λ (x : Term). x.ending) (not-of-pair sys p t _ (s.terms t) differ)) (cases_eq (sys.pair_of t) p))
      (λ has. refl) primary
  ending-stays (event.FailServer c p k) l other = process-cases sys s SameEnding c p k refl (λ job works. one-term job.request.terminal _ refl)
  ending-stays (event.Takeover p) l other =
      ⊎_elim
      (λ live. ap (λ (x : Term). x.ending) (cond-true (is_live_of sys p s t) _ (s.terms t) live) ∙ resumed-ending p (s.memory t) (s.units t) (s.ended t) (s.terms t))
      (λ dead. ap (λ (x : Term). x.ending) (cond-false (is_live_of sys p s t) _ (s.terms t) dead))
      (cases_Bool (is_live_of sys p s t))
  ending-stays (event.Raise p) l other = refl
  ending-stays (event.End own e) l other =
      ⊎_elim
      (λ same. absurd (other e (ap (λ (o : ℕ). event.End o e) (sym same))))
      (λ differ.
      let stays : SameEnding (end_terminal own e s) = ap (λ (x : Term). x.ending) (upd-other s.terms own _ t differ) in
      end-any sys s SameEnding own e stays stays)
      (cases_eq t own)

-- the terminal of an open unit has no ending
abbrev pub LiveOk : State → Type 0
LiveOk s = (t : ℕ) (u : OpenUnit) → s.units t ≡ Some u → (s.terms t).ending ≡ None

module _ (sys : Behaviour) (b : IsBehaviour sys) (s : State) (f : Fold) (k : Known sys b s f) (ok : LiveOk s) where
  -- the units that an entry leaves open
  by-goes : (x : State) (t : ℕ) (u : OpenUnit) → UnitMoves s x t → x.units t ≡ Some u → (s.terms t).ending ≡ None
  by-goes x t u (stays units last) is = ok t u (sym units ∙ is)
  by-goes x t u (runs was now was_is now_is a c d e f g) is = ok t was was_is
  by-goes x t u (opens now none now_is awaits last live restarts birth_is) is = live
  by-goes x t u (ends none number rises) is = absurd (cc (none, is))

  -- a terminal that stops at its program's end has no open unit
  stopped-none : (t : ℕ) → LegalStopped sys s t → s.units t ≡ None
  stopped-none t l = by (where-of (s.units t) (frontier.stands (rw l.can.paired tt) (ap is_takeover l.can.calm)))
    where
      frontier : FrontierOk sys t (view_of sys s t) (f.frontier t)
      frontier = k.frontiers t l.can.live.known l.can.live.going_on (λ gone. absurd (let paired = l.can.paired in cc (paired, gone)))

      by : Where sys t (s.ended t) (s.units t) (path_of s t) (f.frontier t) → s.units t ≡ None
      by (closed none leads) = none
      by (waiting u is idle same) =
          absurd (subst (λ (v : Verb). BeginsUnit v (path_of s t)) l.asks (subst (λ (p : List PathAnswer). BeginsUnit (sys.ask t p) p) (sym same) (frontier.base.begins u is)))
      by (running u q is runs_q at) = absurd (let idle = stopped-idle sys b s k.inv 0 0 f.reading t l in cc (idle, is, runs_q))

  over-live : (own : ℕ) (e : Ending) (x : State) → x.units own ≡ None → ((t : ℕ) → t ≢ own → x.terms t ≡ s.terms t) → ((t : ℕ) (u : OpenUnit) → x.units t ≡ Some u → (s.terms t).ending ≡ None)
      → (t : ℕ) (u : OpenUnit) → x.units t ≡ Some u → (upd x.terms own (record (x.terms own) { pending = None; ending = Some e }) t).ending ≡ None
  over-live own e x none terms open_then t u is =
      ⊎_elim (λ same. absurd (let there = ap x.units (sym same) ∙ is in cc (there, none)))
      (λ differ. ap (λ (y : Term). y.ending) (upd-other x.terms own _ t differ ∙ terms t differ) ∙ open_then t u is)
      (cases_eq t own)

  -- a unit that is not left was open
  left-was : (own o : ℕ) (w : OpenUnit) → (if only own o then None else s.units o) ≡ Some w → s.units o ≡ Some w
  left-was own o w = by (only own o)
    where
      by : (is : Bool) → (if is then None else s.units o) ≡ Some w → s.units o ≡ Some w
      by true there = absurd (cc there)
      by false there = there

  keeps-live : (entry : Event) → Fits sys s entry → LiveOk (effect sys s entry)
  keeps-live (event.End own e) l =
      λ t u. end-cases sys s (λ (x : State). x.units t ≡ Some u → (x.terms t).ending ≡ None) own e l
      (λ stopped is. over-live own ending.Stopped s (stopped-none own stopped) (λ o differ. refl) (λ o w there. ok o w there) t u is)
      (λ lost is. over-live own ending.Lost s ((k.inv.terms own lost.live.known).lost lost.lost) (λ o differ. refl) (λ o w there. ok o w there) t u is)
      (λ leaves is.
      over-live own e (leave_units sys (only own) s) (cond-true (only own own) None (s.units own) (eq-eqb own own refl)) (λ o differ. refl)
      (λ o w there. ok o w (left-was own o w there)) t u is)
  keeps-live (event.Restart own n kind) l =
      λ t u. upd_elim s.units own _ t (λ (x : Option OpenUnit). x ≡ Some u → ((effect sys s (event.Restart own n kind)).terms t).ending ≡ None)
      (λ same is.
      ending-stays sys s t (event.Restart own n kind) l (λ e e_is. absurd (cc e_is)) ∙ ok t l.unit (ap s.units same ∙ l.caused.is_open))
      (λ differ is. ending-stays sys s t (event.Restart own n kind) l (λ e e_is. absurd (cc e_is)) ∙ ok t u is)
  keeps-live entry l =
      λ t u is. ending-stays sys s t entry l (λ e e_is. absurd (cc e_is)) ∙ by-goes (change sys s entry) t u (unit-moves sys b s k.inv t entry l (λ o n kind e_is. absurd (cc e_is))) is

-- it is so behind every run
pub live-ok : (sys : Behaviour) → IsBehaviour sys → (log : List Event) → IsRun sys log → LiveOk (after sys log)
live-ok sys b =
    holds-behind sys LiveOk (λ log run entry legal ok. keeps-live sys b (after sys log) (fold_after sys log) (known sys b log run) ok entry legal.fits) (λ t u is. absurd (cc is))
