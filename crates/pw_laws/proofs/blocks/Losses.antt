-- The machine follows where a pair is lost, and where a terminal ends.
use Rattle.std.proofs.Common.{◌≡◌, ◌≢◌, inl, inr, ⊎_elim, ℕ, ◌<◌, ◌≤◌, Bool, true, false, not, ◌&&◌, List, [], ◌++◌, length, None, if◌then◌else◌, refl, ap, sym, subst, append-nil, arith, ◌∙◌}
use Rattle.std.proofs.lemmas.Bool.{and_from, cases_eq, cond-true, eq-eqb, ne_eqb}
use Rattle.pw_event.specs.declared.event.Event.{Event}
use Rattle.pw_event.specs.declared.event.Event.TheVariants as event
use Rattle.pw_laws.proofs.terms.KeepsPairs.{mode-of-other, mode-of-pair, not-of-pair, of-pair}
use Rattle.pw_onecopy.proofs.Update.{upd-same}
use Rattle.pw_onecopy.specs.IsBehaviour.{IsBehaviour}
use Rattle.pw_onecopy.specs.declared.refresh.Refresh.{Refresh}
use Rattle.pw_paired.specs.Failure.{do_fail_tcp, lose_pair, is_of_pair}
use Rattle.pw_onecopy.specs.OneCopy.{Machine, Single, one_copy, run_blocks}
use Rattle.pw_onecopy.specs.Attempt.{attempt}
use Rattle.pw_onecopy.specs.Refreshes.{once, refreshes_of}
use Rattle.pw_paired.specs.Serial.{is_gone, left_blocks}
use Rattle.pw_paired.specs.State.{Gone, PairMode, State, Term}
use Rattle.pw_paired.specs.Step.{Fits, effect}
use Rattle.pw_onecopy.specs.Behaviour.{Behaviour}
use Rattle.pw_paired.specs.Units.{attempt_of, committed_files}
use Rattle.pw_laws.proofs.blocks.Fold.{Fold, fold_on}
use Rattle.pw_laws.proofs.blocks.Following.{Follows, FollowsAll, IsStranger, refreshes_so_far, running_refreshes}
use Rattle.pw_laws.proofs.blocks.Known.{Known}
use Rattle.pw_laws.proofs.blocks.Lefts.{LeftAll, left-all, left-ending, left-refreshes, left_term}
use Rattle.pw_laws.proofs.blocks.Others.{follow-by, frontier-stays, longest-kept, other-follows, shown-none, stranger-follows}
use Rattle.pw_laws.proofs.blocks.Running.{at-work, ready, running-idle}
use Rattle.pw_laws.proofs.induction.Views.{view_of}
use Rattle.pw_laws.proofs.screens.Once.{IsIn}
use Rattle.pw_laws.specs.locking.Records.{commits_at}
use Rattle.pw_laws.specs.runs.Losses.{Breaks}

module _ (sys : Behaviour) (b : IsBehaviour sys) (s : State) (f : Fold) (known : Known sys b s f) (all : FollowsAll sys s f)
    (stay : (entry : Event) → commits_at s entry ≡ false → Fits sys s entry → committed_files sys (effect sys s entry) ≡ committed_files sys s) where
  abbrev machine : Machine
  machine = one_copy sys f.order

  -- the refreshes of a terminal whose attempt, if any, is left
  pub refreshes-left : (t : ℕ)
      → (left_term sys t machine.files (f.reading.answers t) (s.units t) (machine.terms t)).refreshes ≡ refreshes_so_far sys s f t (machine.terms t)
  refreshes-left t =
      left-refreshes sys t machine.files (f.reading.answers t) (s.units t) (machine.terms t)
      (λ u q is runs. let w = at-work sys b s f known all t u q is runs in (w.path_is, w.restarts_is))
      ∙ ap (λ (x : ℕ → List (List ℕ)). (machine.terms t).refreshes ++ running_refreshes sys t x (f.reading.answers t) (s.units t)) all.files

  -- a terminal that is over, with its attempt left
  module _ (entry : Event) where
    abbrev next : State
    next = effect sys s entry

    abbrev now : Fold
    now = fold_on sys s entry f

    -- a terminal that goes on no more is followed by its ending and refreshes alone
    pub over-follows : (t : ℕ) → t < sys.terminals → (single : Single) → single.ending ≡ (next.terms t).ending
        → ((next.terms t).ending ≡ None → next.modes (sys.pair_of t) ≢ Gone → ⊥)
        → attempt_of (next.units t) ≡ None → refreshes_of t now.shown ≡ refreshes_of t f.shown
        → single.refreshes ≡ refreshes_so_far sys s f t (machine.terms t) → Follows sys next now t single
    over-follows t here single ending over idle shown refreshes =
        let ok = all.terms t here in
        let so_far : refreshes_so_far sys next now t single ≡ refreshes_so_far sys s f t (machine.terms t) =
        ap (λ (l : List Refresh). single.refreshes ++ l) (running-idle sys t (committed_files sys next) (now.reading.answers t) (next.units t) idle) ∙ (append-nil single.refreshes ∙ refreshes) in
        record {
          ending = ending;
          goes = λ live there. absurd (over live there);
          longest = longest-kept (view_of sys s t) (view_of sys next t) (f.reading.longest t) (f.frontier t) ok.longest;
          screens = ap once shown ∙ (ok.screens ∙ sym so_far);
          each = λ x there. subst (IsIn x) (sym so_far) (ok.each x (subst (IsIn x) shown there));
        }

  breaks-there : (primary : Bool) (mode : PairMode) → Breaks primary mode → is_gone mode ≡ false
  breaks-there true mode (inl is) = ap is_gone is
  breaks-there true mode (inr is) = ap is_gone is
  breaks-there false mode is = ap is_gone is

  -- a pair is lost: each running attempt of it is left
  pub follows-lost : (p : ℕ) (primary : Bool) (k : ℕ) → Fits sys s (event.FailTcp p primary k) → (which : Bool) → Breaks which (s.modes p) → do_fail_tcp sys p primary s ≡ lose_pair sys p s
      → FollowsAll sys (effect sys s (event.FailTcp p primary k)) (fold_on sys s (event.FailTcp p primary k) f)
  follows-lost p primary k l which breaks is =
      follow-by sys b s f entry (left_blocks s f.reading (is_of_pair sys p) sys.terminals) blocks all.serial some.serial (some.files ∙ (all.files ∙ sym (stay entry refl l)))
      (λ t here. ⊎_elim (λ of. of-it t here of) (λ differ. others t here differ) (cases_eq (sys.pair_of t) p))
      (λ t unknown.
      subst (λ (x : Single). IsStranger (effect sys s entry) (fold_on sys s entry f) t x) (sym (some.above t (let high : sys.terminals ≤ t = omega (arith, unknown) in high)))
      (stranger-follows sys b s f entry t (machine.terms t) (ending-same t) (shown-none sys b s f entry refl t) (all.strangers t unknown)))
    where
      entry : Event
      entry = event.FailTcp p primary k

      after : State
      after = effect sys s entry

      some : LeftAll sys s f.reading machine (is_of_pair sys p) sys.terminals
      some = left-all sys s f.reading machine (is_of_pair sys p) (ready sys b s f known all) sys.terminals

      blocks : (if is_gone (after.modes p) && not (is_gone (s.modes p)) then left_blocks s f.reading (is_of_pair sys p) sys.terminals else []) ≡ left_blocks s f.reading (is_of_pair sys p) sys.terminals
      blocks =
          cond-true (is_gone (after.modes p) && not (is_gone (s.modes p))) (left_blocks s f.reading (is_of_pair sys p) sys.terminals) []
          (and_from (is_gone (after.modes p)) (not (is_gone (s.modes p))) (ap (λ (x : State). is_gone (x.modes p)) is ∙ ap is_gone (upd-same s.modes p Gone p refl))
          (ap not (breaks-there which (s.modes p) breaks)))

      ending-same : (t : ℕ) → (after.terms t).ending ≡ (s.terms t).ending
      ending-same t =
          ap (λ (x : State). (x.terms t).ending) is
          ∙ ⊎_elim (λ of. ap (λ (x : Term). x.ending) (of-pair sys p t _ (s.terms t) of)) (λ differ. ap (λ (x : Term). x.ending) (not-of-pair sys p t _ (s.terms t) differ)) (cases_eq (sys.pair_of t) p)

      of-it : (t : ℕ) → t < sys.terminals → sys.pair_of t ≡ p → Follows sys after (fold_on sys s entry f) t ((run_blocks sys machine (left_blocks s f.reading (is_of_pair sys p) sys.terminals)).terms t)
      of-it t here of =
          let own = some.own t here (eq-eqb (sys.pair_of t) p of) in
          over-follows entry t here ((run_blocks sys machine (left_blocks s f.reading (is_of_pair sys p) sys.terminals)).terms t)
          (ap (λ (x : Single). x.ending) own ∙ (left-ending sys t machine.files (f.reading.answers t) (s.units t) (machine.terms t) ∙ ((all.terms t here).ending ∙ sym (ending-same t))))
          (λ live there. there (ap (λ (x : State). x.modes (sys.pair_of t)) is ∙ mode-of-pair sys s p t Gone of))
          (ap (λ (x : State). attempt_of (x.units t)) is ∙ ap attempt_of (of-pair sys p t None (s.units t) of))
          (shown-none sys b s f entry refl t)
          (ap (λ (x : Single). x.refreshes) own ∙ refreshes-left t)

      others : (t : ℕ) → t < sys.terminals → sys.pair_of t ≢ p → Follows sys after (fold_on sys s entry f) t ((run_blocks sys machine (left_blocks s f.reading (is_of_pair sys p) sys.terminals)).terms t)
      others t here differ =
          let spared : is_of_pair sys p t ≡ false = ne_eqb (sys.pair_of t) p differ in
          let modes : after.modes (sys.pair_of t) ≡ s.modes (sys.pair_of t) = ap (λ (x : State). x.modes (sys.pair_of t)) is ∙ mode-of-other sys s p t Gone differ in
          let units : after.units t ≡ s.units t = ap (λ (x : State). x.units t) is ∙ not-of-pair sys p t None (s.units t) differ in
          let term : after.terms t ≡ s.terms t = ap (λ (x : State). x.terms t) is ∙ not-of-pair sys p t _ (s.terms t) differ in
          subst (λ (x : Single). Follows sys after (fold_on sys s entry f) t x) (sym (some.spared t spared))
          (other-follows sys b s f entry t (machine.terms t) (ending-same t) (λ there was. there (modes ∙ was)) units
          (λ live there.
          frontier-stays sys b s f entry t
          (λ idle. subst (λ (x : Term). length x.path ≤ length (f.frontier t)) (sym term) ((known.frontiers t here (sym (ending-same t) ∙ live) (λ was. there (modes ∙ was))).short (ap attempt_of (sym units) ∙ idle))))
          refl (shown-none sys b s f entry refl t)
          (λ u q is_u runs. ap (λ (x : ℕ → List (List ℕ)). (attempt sys t q x u.restarts (f.reading.answers t)).refreshes) (stay entry refl l))
          (all.terms t here))
