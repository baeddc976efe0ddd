-- The machine follows BACK and RESTART.
use Rattle.std.proofs.Common.{◌≡◌, inl, inr, ⊎_elim, ℕ, suc, ◌+◌, ◌*◌, ◌<◌, ◌≤◌, true, false, is_none, List, [], ◌∷◌, ◌++◌, length, Option, Some, None, refl, ap, sym, subst, append-nil, arith, ◌∙◌}
use Rattle.pw_code.specs.declared.verb.Verb.{Verb}
use Rattle.pw_code.specs.declared.verb.Verb.TheVariants as verb
use Rattle.pw_event.specs.declared.event.Cause.{Cause}
use Rattle.pw_event.specs.declared.event.Event.{Event}
use Rattle.pw_event.specs.declared.event.Event.TheVariants as event
use Rattle.pw_laws.proofs.terms.KeepsChecks as checks
use Rattle.pw_laws.proofs.terms.TermOk.{IsWorking, PathOk}
use Rattle.pw_onecopy.proofs.Update.{upd-other, upd-same}
use Rattle.pw_onecopy.specs.IsBehaviour.{IsBehaviour}
use Rattle.pw_onecopy.specs.declared.refresh.Refresh.{Refresh}
use Rattle.pw_paired.specs.Failure.{LegalRestart, awaited_after, with_start_path, with_restart}
use Rattle.pw_onecopy.specs.Attempt.{Attempt, attempt, attempt_with as attempt_given, answer_verb}
use Rattle.pw_onecopy.specs.OneCopy.{Machine, Single, one_copy}
use Rattle.pw_onecopy.specs.Path.{PathAnswer, Standing, Dropped, is_outside, standing, unit_number}
use Rattle.pw_paired.specs.Raising.{is_takeover}
use Rattle.pw_onecopy.specs.Blocks.{Aborted, Attempted, Restarted}
use Rattle.pw_paired.specs.State.{LastEnded, OpenUnit, State, Term}
use Rattle.pw_paired.specs.Step.{Fits, effect}
use Rattle.pw_onecopy.specs.Behaviour.{Behaviour}
use Rattle.pw_paired.specs.Terminal.{LegalBack, path_of}
use Rattle.pw_paired.specs.Units.{attempt_of, committed_files, restarts_of}
use Rattle.pw_laws.proofs.blocks.Fold.{Fold, fold_on}
use Rattle.pw_laws.proofs.blocks.Following.{Follows, FollowsAll}
use Rattle.pw_laws.proofs.blocks.Keys.{stands-at}
use Rattle.pw_laws.proofs.blocks.Known.{Known}
use Rattle.pw_laws.proofs.blocks.Others.{frontier-stays, shown-none}
use Rattle.pw_laws.proofs.blocks.Own.{own-follows, plain-follows}
use Rattle.pw_laws.proofs.blocks.Running.{AtWork, at-work, block-legal, next-is, numbered-at, running-idle}
use Rattle.pw_laws.proofs.blocks.Units.{legal-last, machine-last, over-follows-unit, so-running, taken-is}
use Rattle.pw_laws.proofs.screens.Numbers.{AreBounded}
use Rattle.pw_laws.proofs.screens.Once.{in-left, in-parts}
use Rattle.pw_laws.specs.locking.Records.{commits_at}

module _ (sys : Behaviour) (b : IsBehaviour sys) (s : State) (f : Fold) (known : Known sys b s f) (all : FollowsAll sys s f)
    (stay : (entry : Event) → commits_at s entry ≡ false → Fits sys s entry → committed_files sys (effect sys s entry) ≡ committed_files sys s) where
  abbrev machine : Machine
  machine = one_copy sys f.order

  -- BACK
  module _ (t n : ℕ) (l : LegalBack sys s t n) (known' : Known sys b (effect sys s (event.Back t n)) (fold_on sys s (event.Back t n) f)) where
    abbrev back : Event
    back = event.Back t n

    abbrev path-is : PathOk sys t (s.ended t).number (s.units t) (path_of s t)
    path-is = checks.can_path sys b s known.inv.terms t l.can

    abbrev who : checks.Within sys t (s.ended t).number (s.units t) (path_of s t)
    who = checks.within (s.units t) (b.drops t (path_of s t) (checks.path_ok-is _ (s.units t) path-is) l.asks) path-is

    abbrev final : Attempt
    final = attempt sys t who.start (committed_files sys s) who.open_unit.restarts (suc (f.reading.answers t))

    abbrev before_it : Attempt
    before_it = attempt sys t who.start (committed_files sys s) who.open_unit.restarts (f.reading.answers t)

    works : IsWorking (s.modes (sys.pair_of t))
    works = rw l.can.paired tt

    untaken : is_takeover (s.terms t).pending ≡ false
    untaken = ap is_takeover l.can.calm

    stands : path_of s t ≡ before_it.path
    stands = stands-at sys b s f known all stay t who.open_unit who.start (at-work sys b s f known all t who.open_unit who.start who.is_open who.runs) works untaken

    final_is : final ≡ record (attempt_given Dropped before_it) { files = committed_files sys s }
    final_is = ap (λ (x : Verb). answer_verb sys t who.open_unit.restarts (committed_files sys s) x before_it) (ap (sys.ask t) (sym stands) ∙ l.asks)

    new-path : path_of (effect sys s back) t ≡ final.path
    new-path = ap (λ (x : Term). x.path) (upd-same s.terms t _ t refl) ∙ (ap (λ (p : List PathAnswer). p ++ Dropped ∷ []) stands ∙ ap (λ (x : Attempt). x.path) (sym final_is))

    ended_is : ((effect sys s back).ended t).number ≡ unit_number (path_of s t)
    ended_is = ap (λ (x : LastEnded). x.number) (upd-same s.ended t _ t refl) ∙ l.number

    -- the machine follows a BACK
    pub follows-back : FollowsAll sys (effect sys s back) (fold_on sys s back f)
    follows-back =
        let is_last = machine-last sys b s f known all stay back known' t who.open_unit who.start who.is_open who.runs works untaken verb.Drop l.asks tt (λ e. absurd (cc e)) (upd-same s.units t None t refl) ended_is refl (ap (λ (x : Term). x.ending) (upd-same s.terms t _ t refl)) in
        own-follows sys b s f known all back t l.can.live.known (Attempted t n Aborted (f.reading.answers t + 1) ∷ []) refl
        (legal-last sys b s f known all stay back known' t who.open_unit who.start who.is_open who.runs works untaken verb.Drop l.asks tt (λ e. absurd (cc e)) (upd-same s.units t None t refl) ended_is refl (ap (λ (x : Term). x.ending) (upd-same s.terms t _ t refl))
        n Aborted l.number (ap (λ (x : Attempt). x.last) final_is))
        (all.files ∙ sym (stay back refl l))
        (λ o differ. upd-other machine.terms t _ o differ)
        (λ o differ. upd-other s.terms t _ o differ) (λ o differ. upd-other s.units t None o differ) refl (λ o differ. upd-other f.reading.answers t _ o differ)
        (λ o differ. shown-none sys b s f back refl o)
        (λ o differ u q is runs. ap (λ (x : ℕ → List (List ℕ)). (attempt sys o q x u.restarts (f.reading.answers o)).refreshes) (stay back refl l))
        (subst (λ (x : Single). Follows sys (effect sys s back) (fold_on sys s back f) t x) (sym (taken-is sys b s f known all stay t n Aborted (f.reading.answers t + 1) final is_last))
        (over-follows-unit sys b s f known all stay back known' t who.open_unit who.start who.is_open who.runs works untaken verb.Drop l.asks tt (λ e. absurd (cc e)) (upd-same s.units t None t refl) ended_is refl (ap (λ (x : Term). x.ending) (upd-same s.terms t _ t refl))
        new-path (shown-none sys b s f back refl t)))

  -- RESTART
  module _ (t n : ℕ) (kind : Cause) (l : LegalRestart sys s t n kind) where
    abbrev restart : Event
    restart = event.Restart t n kind

    abbrev u : OpenUnit
    u = l.unit

    abbrev q : List PathAnswer
    q = l.caused.start

    abbrev w : AtWork sys b s f known all t u q
    w = at-work sys b s f known all t u q l.caused.is_open l.caused.runs

    abbrev at : Attempt
    at = attempt sys t q (committed_files sys s) u.restarts (f.reading.answers t)

    abbrev single : Single
    single = machine.terms t

    abbrev again : Single
    again = record single { restarts = single.restarts + 1; refreshes = single.refreshes ++ at.refreshes }

    now-units : (effect sys s restart).units t ≡ Some (record u { restarts = u.restarts + 1; awaits = awaited_after kind u.awaits; running = None })
    now-units = upd-same s.units t _ t refl ∙ ap (with_restart kind) l.caused.is_open

    start-path : path_of (effect sys s restart) t ≡ q
    start-path =
        ap (λ (x : Term). x.path)
        (upd-same s.terms t _ t refl ∙ ap (λ (p : Option (List PathAnswer)). with_start_path p (s.terms t)) (ap attempt_of l.caused.is_open ∙ l.caused.runs))

    ending-same : (effect sys s restart).terms t ≡ record (s.terms t) { path = q; pending = None }
    ending-same = upd-same s.terms t _ t refl ∙ ap (λ (p : Option (List PathAnswer)). with_start_path p (s.terms t)) (ap attempt_of l.caused.is_open ∙ l.caused.runs)

    -- the attempt's refreshes are of an earlier attempt now
    bounded : AreBounded (single.restarts + 1) (standing single.path) (single.refreshes ++ at.refreshes)
    bounded x there =
        ⊎_elim
        (λ old. ⊎_elim (λ low. inl low) (λ earlier. let less = earlier.2 in inr (earlier.0, earlier.1, omega (arith, less))) (w.goes.bounded x old))
        (λ own.
        let mine = (numbered-at sys b s f known all t u q w l.caused.is_open (f.reading.answers t) w.at.alone.is_attempt).own x own in
        let attempt_is = mine.1 in
        let r = w.restarts_is in
        inr (
          outside (standing single.path).within (ap is_outside w.goes.path ∙ w.frontier.base.rest.outside),
          mine.0 ∙ ap (λ (p : List PathAnswer). 2 * (standing p).ended + 1) (sym w.path_is),
          omega (arith, attempt_is, r),
        ))
        (in-parts x single.refreshes at.refreshes there)
      where
        outside : (o : Option ℕ) → is_none o ≡ true → o ≡ None
        outside None is = refl
        outside (Some m) is = absurd (cc is)

    -- the machine follows a RESTART
    pub follows-restart : FollowsAll sys (effect sys s restart) (fold_on sys s restart f)
    follows-restart =
        let next_at_it = next-is sys b s f known all t u q w (f.reading.answers t) in
        let few = l.few in
        let r = w.restarts_is in
        own-follows sys b s f known all restart t w.here (Attempted t n Restarted (f.reading.answers t) ∷ []) refl
        (block-legal sys b s f known all t u q w n (f.reading.answers t) Restarted (sym l.caused.number) w.at.alone.is_attempt (let low : single.restarts < sys.max_restarts t = omega (arith, few, r) in low), tt)
        (all.files ∙ sym (stay restart refl l))
        (λ o differ. upd-other machine.terms t _ o differ)
        (λ o differ. upd-other s.terms t _ o differ) (λ o differ. upd-other s.units t _ o differ) refl (λ o differ. refl)
        (λ o differ. shown-none sys b s f restart refl o)
        (λ o differ x p is runs. ap (λ (y : ℕ → List (List ℕ)). (attempt sys o p y x.restarts (f.reading.answers o)).refreshes) (stay restart refl l))
        (subst (λ (x : Single). Follows sys (effect sys s restart) (fold_on sys s restart f) t x) (sym (taken-is sys b s f known all stay t n Restarted (f.reading.answers t) at next_at_it))
        (plain-follows sys b s f known all restart t w.here again
        ((all.terms t w.here).ending ∙ ap (λ (x : Term). x.ending) (sym ending-same))
        (λ live there. record {
          path = w.goes.path
              ∙ sym (frontier-stays sys b s f restart t
              (λ idle. subst (λ (p : List PathAnswer). length p ≤ length (f.frontier t)) (sym start-path) (let same = ap (λ (p : List PathAnswer). length p) (sym w.path_is ∙ w.goes.path) in omega (arith, same))));
          restarts = ap (λ (m : ℕ). m + 1) r ∙ sym (ap restarts_of now-units);
          not_left = w.goes.not_left;
          bounded = bounded;
          covers = λ x there_in. in-left x single.refreshes at.refreshes (w.goes.covers x there_in);
        })
        (ap (λ (x : List Refresh). (single.refreshes ++ at.refreshes) ++ x)
        (running-idle sys t (committed_files sys (effect sys s restart)) (f.reading.answers t) ((effect sys s restart).units t) (ap attempt_of now-units))
        ∙ (append-nil (single.refreshes ++ at.refreshes) ∙ sym (so-running sys b s f known all stay t u q l.caused.is_open l.caused.runs)))
        (shown-none sys b s f restart refl t)))
