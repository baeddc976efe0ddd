-- Where the restarts that a deck allows are enough for its terminals and failures, no unit uses them up.
use Rattle.std.proofs.Common.{◌≡◌, ◌≢◌, ℕ, ◌+◌, ◌-◌, ◌<◌, ◌≤◌, ⊎_elim, ◌⊎◌, inl, inr, Bool, true, false, List, ◌∷◌, ◌++◌, length, Option, Some, None, refl, ap, sym, subst, arith, ◌∙◌}
use Rattle.std.proofs.lemmas.Bool.{cases_eq}
use Rattle.pw_code.specs.declared.verb.Verb.TheVariants as verb
use Rattle.pw_event.specs.declared.event.Cause.{Cause}
use Rattle.pw_event.specs.declared.event.Cause.TheVariants as cause
use Rattle.pw_event.specs.declared.event.Ending.TheVariants as ending
use Rattle.pw_event.specs.declared.event.Event.{Event}
use Rattle.pw_event.specs.declared.event.Event.TheVariants as event
use Rattle.pw_onecopy.proofs.Update.{upd-other, upd-same}
use Rattle.pw_onecopy.specs.Behaviour.{Behaviour}
use Rattle.pw_onecopy.specs.IsBehaviour.{IsBehaviour, IsPath}
use Rattle.pw_onecopy.specs.Path.{PathAnswer}
use Rattle.pw_paired.specs.End.{LegalSuspended}
use Rattle.pw_paired.specs.Failure.{Holds, LegalRedoCause, LegalRestart, awaited_after, with_start_path}
use Rattle.pw_paired.specs.State.{OpenUnit, State, Term, starting}
use Rattle.pw_paired.specs.Step.{Fits, IsRun, Legal, after, effect}
use Rattle.pw_paired.specs.Terminal.{path_of}
use Rattle.pw_paired.specs.Units.{attempt_of}
use Rattle.pw_laws.proofs.Pending.{pending-runs}
use Rattle.pw_laws.proofs.RunSteps.{IsRunFrom-split}
use Rattle.pw_laws.proofs.induction.Runs.{holds-behind, kept}
use Rattle.pw_laws.proofs.kept.Kept.{Inv}
use Rattle.pw_laws.proofs.terms.KeepsChecks.{can_path, path_ok-is}
use Rattle.pw_laws.proofs.restarts.Counting.{weight}
use Rattle.pw_laws.proofs.restarts.Failures.{fails-more, fails_in, few-fails}
use Rattle.pw_laws.proofs.restarts.Few.{CountsOk, counts-ok, logged}
use Rattle.pw_laws.proofs.restarts.Older.{free, free-less, free-other, free-room, free-same, free-stays, free-there, now-is}
use Rattle.pw_laws.proofs.restarts.Owing.{Owes, owed-behind, pends, sinks}
use Rattle.pw_laws.proofs.steps.Awaiting.{UnitMoves, ends, unit-moves, opens, runs, stays}
use Rattle.pw_laws.specs.serial.Guarded.{is_fail}

-- Restarts are paid by older units and failures: what a unit has had, the older units that it may still restart for, and
-- one that it owes, are fewer than the terminals and failures.
pub record Paid (sys : Behaviour) (t : ℕ) (s : State) : Type 0 where
  pub low : (u : OpenUnit) → s.units t ≡ Some u → u.restarts + free sys s u + 1 ≤ sys.terminals + fails_in s.log
  pub owing : (u : OpenUnit) → s.units t ≡ Some u → Owes sys s t → u.restarts + free sys s u + 2 ≤ sys.terminals + fails_in s.log

-- no program ever asks to restart
abbrev pub NoRedo : Behaviour → Type 0
NoRedo sys = (t : ℕ) (path : List PathAnswer) → IsPath sys t path → sys.ask t path ≢ verb.Redo

module _ (sys : Behaviour) (b : IsBehaviour sys) (never : NoRedo sys) (t : ℕ) (known : t < sys.terminals) where
  -- a terminal that asks to restart
  redo-never : (s : State) → Inv sys s → (own : ℕ) → ¬ LegalRedoCause sys s own
  redo-never s i own l = never own (path_of s own) (path_ok-is _ (s.units own) (can_path sys b s i.terms own l.can)) l.asks

  -- behind an entry that is no restart
  module _ (s : State) (entry : Event) (births : CountsOk sys t s) (goes_at : (o : ℕ) → UnitMoves s (effect sys s entry) o)
      (pending : (kind : Cause) → (s.terms t).pending ≡ Some kind → s.units t ≢ None)
      (back : (Owes sys (effect sys s entry) t → Owes sys s t) ⊎ (is_fail entry ≡ true)) (ok : Paid sys t s) where
    abbrev x : State
    x = effect sys s entry

    more : fails_in x.log ≡ fails_in s.log + weight (is_fail entry)
    more = fails-more s.log entry

    -- what is owed behind it was owed before, or it is a failure's
    owing-by : (was now : OpenUnit) → s.units t ≡ Some was → now.restarts ≡ was.restarts → free sys x now ≤ free sys s was → Owes sys x t
        → now.restarts + free sys x now + 2 ≤ sys.terminals + fails_in x.log
    owing-by was now was_is same less owes =
        ⊎_elim
        (λ before. let had = ok.owing was was_is (before owes) in let m = more in omega (arith, had, same, less, m))
        (λ fail. let had = ok.low was was_is in let m = more in let one = ap weight fail in omega (arith, had, same, less, m, one))
        back

    none-owing : (now : OpenUnit) → s.units t ≡ None → now.restarts ≡ 0 → free sys x now + 1 ≤ sys.terminals → Owes sys x t
        → now.restarts + free sys x now + 2 ≤ sys.terminals + fails_in x.log
    none-owing now none zero room owes =
        ⊎_elim (λ before. by (before owes)) (λ fail. let m = more in let one = ap weight fail in omega (arith, zero, room, m, one)) back
      where
        by : Owes sys s t → now.restarts + free sys x now + 2 ≤ sys.terminals + fails_in x.log
        by (pends kind is) = absurd (pending kind is none)
        by (sinks u q down is runs_q) = absurd (cc (is, none))

    paid-kept : Paid sys t x
    paid-kept = by (goes_at t)
      where
        by : UnitMoves s x t → Paid sys t x
        by (stays units last) = record {
          low = λ u is.
              let less = free-stays sys s x births.births t u u (sym units ∙ is) refl refl goes_at in
              let had = ok.low u (sym units ∙ is) in let m = more in omega (arith, less, had, m);
          owing = λ u is owes. owing-by u u (sym units ∙ is) refl (free-stays sys s x births.births t u u (sym units ∙ is) refl refl goes_at) owes;
        }
        by (runs was now was_is now_is birth number awaits last restarts over) = record {
          low = λ u is.
              let same : now ≡ u = cc (now_is, is) in
              let less = free-stays sys s x births.births t was now was_is birth awaits goes_at in
              let had = ok.low was was_is in
              let m = more in
              subst (λ (w : OpenUnit). w.restarts + free sys x w + 1 ≤ sys.terminals + fails_in x.log) same (omega (arith, less, had, m, restarts));
          owing = λ u is owes.
              let same : now ≡ u = cc (now_is, is) in
              subst (λ (w : OpenUnit). w.restarts + free sys x w + 2 ≤ sys.terminals + fails_in x.log) same
              (owing-by was now was_is restarts (free-stays sys s x births.births t was now was_is birth awaits goes_at) owes);
        }
        by (opens now none now_is awaits last live restarts birth) = record {
          low = λ u is.
              let same : now ≡ u = cc (now_is, is) in
              let room = free-room sys x t now known now_is in
              subst (λ (w : OpenUnit). w.restarts + free sys x w + 1 ≤ sys.terminals + fails_in x.log) same (omega (arith, room, restarts));
          owing = λ u is owes.
              let same : now ≡ u = cc (now_is, is) in
              subst (λ (w : OpenUnit). w.restarts + free sys x w + 2 ≤ sys.terminals + fails_in x.log) same
              (none-owing now none restarts (free-room sys x t now known now_is) owes);
        }
        by (ends none number next) = record { low = λ u is. absurd (cc (none, is)); owing = λ u is owes. absurd (cc (none, is)) }

  -- behind a restart
  module _ (s : State) (i : Inv sys s) (own n : ℕ) (kind : Cause) (l : LegalRestart sys s own n kind) (births : CountsOk sys t s) (ok : Paid sys t s) where
    abbrev y : State
    y = effect sys s (event.Restart own n kind)

    same-fails : fails_in y.log ≡ fails_in s.log
    same-fails = let more = fails-more s.log (event.Restart own n kind) in omega (arith, more)

    abbrev now : OpenUnit
    now = record l.unit { restarts = l.unit.restarts + 1; awaits = awaited_after kind l.unit.awaits; running = None }

    -- the restart is paid by an older unit or by what was owed
    own-paid : own ≡ t → l.unit.restarts + 1 + free sys y now + 1 ≤ sys.terminals + fails_in y.log
    own-paid same = by kind l
      where
        by : (kind : Cause) → (l : LegalRestart sys s own n kind)
            → l.unit.restarts + 1 + free sys (effect sys s (event.Restart own n kind)) (record l.unit { restarts = l.unit.restarts + 1; awaits = awaited_after kind l.unit.awaits; running = None }) + 1
            ≤ sys.terminals + fails_in (effect sys s (event.Restart own n kind)).log
        by (cause.Older o m) l =
            let less = free-less sys s i own n o m l (λ a some. births.over own l.unit l.caused.start a l.caused.is_open l.caused.runs some) in
            let had = ok.low l.unit (ap s.units (sym same) ∙ l.caused.is_open) in
            let more = fails-more s.log (event.Restart own n (cause.Older o m)) in
            omega (arith, less, had, more)
        by (cause.Takeover p) l =
            let less = free-same sys s i own n (cause.Takeover p) l refl in
            let had = ok.owing l.unit (ap s.units (sym same) ∙ l.caused.is_open) (pends (cause.Takeover p) (ap (λ (j : ℕ). (s.terms j).pending) (sym same) ∙ l.caused.holds.pending)) in
            let more = fails-more s.log (event.Restart own n (cause.Takeover p)) in
            omega (arith, less, had, more)
        by (cause.Server k) l =
            let less = free-same sys s i own n (cause.Server k) l refl in
            let had = ok.owing l.unit (ap s.units (sym same) ∙ l.caused.is_open) (pends (cause.Server k) (ap (λ (j : ℕ). (s.terms j).pending) (sym same) ∙ l.caused.holds.pending)) in
            let more = fails-more s.log (event.Restart own n (cause.Server k)) in
            omega (arith, less, had, more)
        by cause.Redo l = absurd (redo-never s i own l.caused.holds)

    -- nothing is owed by a terminal whose unit restarts
    calm : own ≡ t → ¬ Owes sys y t
    calm same owes = by owes
      where
        dropped : (start : Option (List PathAnswer)) → (with_start_path start (s.terms own)).pending ≡ None
        dropped None = refl
        dropped (Some q) = refl

        none : (y.terms t).pending ≡ None
        none = ap (λ (x : Term). x.pending) (upd-same s.terms own _ t (sym same)) ∙ dropped (attempt_of (s.units own))

        by : Owes sys y t → ⊥
        by (pends k is) = cc (none, is)
        by (sinks u q down is runs_q) = absurd (let mine = ap attempt_of (now-is sys s i own n kind l) in let there = ap attempt_of (ap y.units same ∙ is) in cc (mine, there, runs_q))

    paid-restarted : Paid sys t y
    paid-restarted = record {
      low = λ u is.
          ⊎_elim
          (λ same.
          let mine = now-is sys s i own n kind l in
          let there = ap y.units same ∙ is in
          let one : now ≡ u = cc (mine, there) in
          let paid = own-paid same in
          subst (λ (w : OpenUnit). w.restarts + free sys y w + 1 ≤ sys.terminals + fails_in y.log) one (omega (arith, paid)))
          (λ differ.
          let less = free-other sys s i own n kind l u in
          let had = ok.low u (sym (upd-other s.units own _ t (λ e. differ (sym e))) ∙ is) in
          let m = same-fails in
          omega (arith, less, had, m))
          (cases_eq own t);
      owing = λ u is owes.
          ⊎_elim (λ same. absurd (calm same owes))
          (λ differ.
          let less = free-other sys s i own n kind l u in
          let had = ok.owing u (sym (upd-other s.units own _ t (λ e. differ (sym e))) ∙ is) (owed-behind sys s t (event.Restart own n kind) l refl owes) in
          let m = same-fails in
          omega (arith, less, had, m))
          (cases_eq own t);
    }

  -- behind every run
  step-paid : (log : List Event) → IsRun sys log → (entry : Event) → Legal sys (after sys log) entry → Paid sys t (after sys log) → Paid sys t (effect sys (after sys log) entry)
  step-paid log run entry legal ok = by entry legal.fits
    where
      s : State
      s = after sys log

      i : Inv sys s
      i = kept sys b log run

      births : CountsOk sys t s
      births = counts-ok sys b t known log run

      back : (entry : Event) → Fits sys s entry → (fail : Bool) → is_fail entry ≡ fail → (Owes sys (effect sys s entry) t → Owes sys s t) ⊎ (is_fail entry ≡ true)
      back entry l true is = inr is
      back entry l false is = inl (owed-behind sys s t entry l is)

      by : (entry : Event) → Fits sys s entry → Paid sys t (effect sys s entry)
      by (event.Restart own n kind) l = paid-restarted s i own n kind l births ok
      by entry l =
          paid-kept s entry births (λ o. logged sys s entry o (unit-moves sys b s i o entry l (λ own n kind is. absurd (cc is))))
          (λ kind is none. let runs_now = pending-runs sys b log run t kind is in absurd (let there = runs_now.is_open in cc (there, none)))
          (back entry l (is_fail entry) refl) ok

  -- it is so behind every run
  pub paid-ok : (log : List Event) → IsRun sys log → Paid sys t (after sys log)
  paid-ok = holds-behind sys (Paid sys t) step-paid (record { low = λ u is. absurd (cc is); owing = λ u is owes. absurd (cc is) })

-- the restarts of no unit are used up where a cause to restart holds
pub enough : (sys : Behaviour) → IsBehaviour sys → ((t : ℕ) → t < sys.terminals → sys.terminals - 1 + length sys.script ≤ sys.max_restarts t) → NoRedo sys
    → (before behind : List Event) (t : ℕ) (kind : Cause) → ¬ IsRun sys (before ++ event.End t (ending.Suspended kind) ∷ behind)
enough sys b many never before behind t kind run =
    let parts = IsRunFrom-split sys (starting sys) before (event.End t (ending.Suspended kind) ∷ behind) run in by parts.0 kind parts.1.0.fits
  where
    s : State
    s = after sys before

    by : IsRun sys before → (kind : Cause) → LegalSuspended sys s t kind → ⊥
    by run_before kind l = of kind l.caused.holds
      where
        i : Inv sys s
        i = kept sys b before run_before

        known : t < sys.terminals
        known = i.known t l.unit l.caused.is_open

        paid : Paid sys t s
        paid = paid-ok sys b never t known before run_before

        -- with one cause more its restarts would be more than the terminals and failures allow
        full : l.unit.restarts + 2 ≤ sys.terminals + fails_in s.log → ⊥
        full less = let fails = few-fails sys before run_before in let most = many t known in let is = l.full in let there = known in omega (arith, less, fails, most, is, there)

        owing : (pending : Cause) → (s.terms t).pending ≡ Some pending → ⊥
        owing pending is = full (let had = paid.owing l.unit l.caused.is_open (pends pending is) in omega (arith, had))

        of : (kind : Cause) → Holds sys s t l.unit kind → ⊥
        of (cause.Older o m) older =
            let over = (counts-ok sys b t known before run_before).over in
            let there = free-there sys s i l.unit (λ a some. over t l.unit l.caused.start a l.caused.is_open l.caused.runs some) o older.older older.is_open older.is_older in
            full (let had = paid.low l.unit l.caused.is_open in omega (arith, had, there))
        of (cause.Takeover p) holds = owing (cause.Takeover p) holds.pending
        of (cause.Server k) holds = owing (cause.Server k) holds.pending
        of cause.Redo holds = redo-never sys b never t known s i t holds
