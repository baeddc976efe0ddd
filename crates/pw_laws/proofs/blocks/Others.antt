-- The machine follows terminals that an entry leaves as they were.
use Rattle.std.proofs.Common.{◌≡◌, ◌≢◌, ℕ, ◌<◌, ◌≤◌, Bool, true, false, ◌&&◌, is_none, max, List, [], ◌++◌, length, Option, Some, None, if◌then◌else◌, refl, ap, sym, subst, append-nil, arith, ◌∙◌}
use Rattle.std.specs.Prelude.{nat_lt}
use Rattle.std.proofs.lemmas.Bool.{ltb-false, ltb-true}
use Rattle.pw_event.specs.declared.event.Event.{Event}
use Rattle.pw_onecopy.specs.declared.refresh.Refresh.{Refresh}
use Rattle.pw_onecopy.specs.IsBehaviour.{IsBehaviour}
use Rattle.pw_onecopy.specs.OneCopy.{IsSerial, IsSerialFrom, Machine, Single, beginning, one_copy, run_blocks}
use Rattle.pw_onecopy.specs.Attempt.{attempt}
use Rattle.pw_onecopy.specs.Path.{PathAnswer}
use Rattle.pw_onecopy.specs.Refreshes.{once, refreshes_of}
use Rattle.pw_paired.specs.Shown.{refresh_of}
use Rattle.pw_onecopy.specs.Blocks.{SerialBlock}
use Rattle.pw_paired.specs.Serial.{answers_behind, blocks_of}
use Rattle.pw_paired.specs.State.{Gone, OpenUnit, State}
use Rattle.pw_paired.specs.Step.{effect}
use Rattle.pw_onecopy.specs.Behaviour.{Behaviour}
use Rattle.pw_paired.specs.Terminal.{path_of}
use Rattle.pw_paired.specs.Units.{attempt_of, committed_files, restarts_of}
use Rattle.pw_laws.proofs.blocks.Fold.{Fold, fold_on, run_blocks-append, serial-append}
use Rattle.pw_laws.proofs.blocks.Following.{Follows, FollowsAll, IsStranger, attempt_refreshes, refreshes_so_far, running_refreshes}
use Rattle.pw_laws.proofs.blocks.Known.{Known}
use Rattle.pw_laws.proofs.frontier.Frontier.{frontier_behind}
use Rattle.pw_laws.proofs.frontier.Standing.{stays-put}
use Rattle.pw_laws.proofs.induction.Views.{View, path_in, view_of}
use Rattle.pw_laws.proofs.screens.Once.{IsIn}

-- the reading's longest paths are those of the frontiers
pub longest-kept : (v w : View) (longest : ℕ) (frontier : List PathAnswer) → longest ≡ length frontier
    → (if is_none (attempt_of w.unit) then max longest (length (path_in w)) else longest) ≡ length (frontier_behind v w frontier)
longest-kept v w longest frontier same = by (is_none (attempt_of w.unit)) (nat_lt (length frontier) (length (path_in w))) refl
  where
    by : (idle less : Bool) → nat_lt (length frontier) (length (path_in w)) ≡ less
        → (if idle then max longest (length (path_in w)) else longest) ≡ length (if idle && less then path_in w else frontier)
    by true true is = let low = ltb-true (length frontier) (length (path_in w)) is in omega (arith, same, low)
    by true false is = let high = ltb-false (length frontier) (length (path_in w)) is in omega (arith, same, high)
    by false less is = same

-- the refreshes of a running attempt stay where its attempt does
pub running-same : (sys : Behaviour) (t : ℕ) (files others : ℕ → List (List ℕ)) (j n : ℕ) (unit : Option OpenUnit) → n ≡ j
    → ((u : OpenUnit) (q : List PathAnswer) → unit ≡ Some u → u.running ≡ Some q → (attempt sys t q others u.restarts j).refreshes ≡ (attempt sys t q files u.restarts j).refreshes)
    → running_refreshes sys t others n unit ≡ running_refreshes sys t files j unit
running-same sys t files others j n None same each = refl
running-same sys t files others j n (Some u) same each = ap (λ (m : ℕ). running_refreshes sys t others m (Some u)) same ∙ by u.running refl
  where
    by : (running : Option (List PathAnswer)) → u.running ≡ running → attempt_refreshes sys t others j u.restarts running ≡ attempt_refreshes sys t files j u.restarts running
    by None is = refl
    by (Some q) is = each u q refl is

module _ (sys : Behaviour) (b : IsBehaviour sys) (s : State) (f : Fold) (entry : Event) where
  abbrev next : State
  next = effect sys s entry

  abbrev now : Fold
  now = fold_on sys s entry f

  -- a terminal that an entry leaves as it was
  pub other-follows : (t : ℕ) (single : Single) → (next.terms t).ending ≡ (s.terms t).ending
      → (next.modes (sys.pair_of t) ≢ Gone → s.modes (sys.pair_of t) ≢ Gone) → next.units t ≡ s.units t
      → ((next.terms t).ending ≡ None → next.modes (sys.pair_of t) ≢ Gone → now.frontier t ≡ f.frontier t)
      → now.reading.answers t ≡ f.reading.answers t → refreshes_of t now.shown ≡ refreshes_of t f.shown
      → ((u : OpenUnit) (q : List PathAnswer) → s.units t ≡ Some u → u.running ≡ Some q
      → (attempt sys t q (committed_files sys next) u.restarts (f.reading.answers t)).refreshes ≡ (attempt sys t q (committed_files sys s) u.restarts (f.reading.answers t)).refreshes)
      → Follows sys s f t single → Follows sys next now t single
  other-follows t single ending there units frontier answers shown same ok =
      let running : running_refreshes sys t (committed_files sys next) (now.reading.answers t) (next.units t) ≡ running_refreshes sys t (committed_files sys s) (f.reading.answers t) (s.units t) =
      ap (running_refreshes sys t (committed_files sys next) (now.reading.answers t)) units
      ∙ running-same sys t (committed_files sys s) (committed_files sys next) (f.reading.answers t) (now.reading.answers t) (s.units t) answers same in
      let so_far : refreshes_so_far sys next now t single ≡ refreshes_so_far sys s f t single = ap (λ (l : List Refresh). single.refreshes ++ l) running in
      record {
        ending = ok.ending ∙ sym ending;
        goes = λ live here.
            let g = ok.goes (sym ending ∙ live) (there here) in
            record {
              path = g.path ∙ sym (frontier live here);
              restarts = g.restarts ∙ ap restarts_of (sym units);
              not_left = g.not_left;
              bounded = g.bounded;
              covers = g.covers;
            };
        longest = longest-kept (view_of sys s t) (view_of sys next t) (f.reading.longest t) (f.frontier t) ok.longest;
        screens = ap once shown ∙ (ok.screens ∙ sym so_far);
        each = λ x there_in. subst (IsIn x) (sym so_far) (ok.each x (subst (IsIn x) shown there_in));
      }

  -- a terminal that is not started
  pub stranger-follows : (t : ℕ) (single : Single) → (next.terms t).ending ≡ (s.terms t).ending → refreshes_of t now.shown ≡ refreshes_of t f.shown
      → IsStranger s f t single → IsStranger next now t single
  stranger-follows t single ending shown ok = record { going_on = ending ∙ ok.going_on; live = ok.live; none = shown ∙ ok.none; refreshes = ok.refreshes }

  -- the machine runs the blocks of the entry
  pub follow-by : (more : List SerialBlock) → blocks_of sys s f.reading entry ≡ more → IsSerial sys f.order
      → IsSerialFrom sys (one_copy sys f.order) more
      → (run_blocks sys (one_copy sys f.order) more).files ≡ committed_files sys next
      → ((t : ℕ) → t < sys.terminals → Follows sys next now t ((run_blocks sys (one_copy sys f.order) more).terms t))
      → ((t : ℕ) → (¬ (t < sys.terminals)) → IsStranger next now t ((run_blocks sys (one_copy sys f.order) more).terms t))
      → FollowsAll sys next now
  follow-by more blocks before serial files terms strangers =
      let order : now.order ≡ f.order ++ more = ap (λ (l : List SerialBlock). f.order ++ l) blocks in
      let machine : one_copy sys now.order ≡ run_blocks sys (one_copy sys f.order) more = ap (one_copy sys) order ∙ run_blocks-append sys (beginning sys) f.order more in
      record {
        serial = subst (IsSerial sys) (sym order) (serial-append sys (beginning sys) f.order more before serial);
        files = ap (λ (m : Machine). m.files) machine ∙ files;
        terms = λ t known. subst (λ (m : Machine). Follows sys next now t (m.terms t)) (sym machine) (terms t known);
        strangers = λ t unknown. subst (λ (m : Machine). IsStranger next now t (m.terms t)) (sym machine) (strangers t unknown);
      }

  -- nothing is shown
  pub shown-none : refresh_of sys s entry ≡ [] → (t : ℕ) → refreshes_of t now.shown ≡ refreshes_of t f.shown
  shown-none none t = ap (λ (l : List Refresh). refreshes_of t (f.shown ++ l)) none ∙ ap (refreshes_of t) (append-nil f.shown)

  -- a path that is no longer than the frontier leaves it
  pub frontier-stays : (t : ℕ) → (attempt_of (next.units t) ≡ None → length (path_of next t) ≤ length (f.frontier t)) → now.frontier t ≡ f.frontier t
  frontier-stays t short = stays-put (view_of sys s t) (view_of sys next t) (f.frontier t) short

  -- An entry that reads as nothing, shows nothing and puts no answer: paths do not grow past their frontiers.
  pub quiet-follows : blocks_of sys s f.reading entry ≡ [] → refresh_of sys s entry ≡ [] → answers_behind sys s entry f.reading.answers ≡ f.reading.answers
      → committed_files sys next ≡ committed_files sys s
      → ((t : ℕ) → (next.terms t).ending ≡ (s.terms t).ending) → ((t : ℕ) → next.modes (sys.pair_of t) ≢ Gone → s.modes (sys.pair_of t) ≢ Gone)
      → next.units ≡ s.units
      → ((t : ℕ) → t < sys.terminals → (next.terms t).ending ≡ None → next.modes (sys.pair_of t) ≢ Gone → attempt_of (next.units t) ≡ None → length (path_of next t) ≤ length (f.frontier t))
      → FollowsAll sys s f → FollowsAll sys next now
  quiet-follows blocks none answers files ending there units short all =
      follow-by [] blocks all.serial tt (all.files ∙ sym files)
      (λ t known.
      other-follows t ((one_copy sys f.order).terms t) (ending t) (there t) (ap (λ (u : ℕ → Option OpenUnit). u t) units)
      (λ live here. frontier-stays t (short t known live here))
      (ap (λ (a : ℕ → ℕ). a t) answers) (shown-none none t)
      (λ u q is runs. ap (λ (x : ℕ → List (List ℕ)). (attempt sys t q x u.restarts (f.reading.answers t)).refreshes) files)
      (all.terms t known))
      (λ t unknown. stranger-follows t ((one_copy sys f.order).terms t) (ending t) (shown-none none t) (all.strangers t unknown))

  -- the same where no path moves
  pub still-follows : Known sys b s f → blocks_of sys s f.reading entry ≡ [] → refresh_of sys s entry ≡ [] → answers_behind sys s entry f.reading.answers ≡ f.reading.answers
      → committed_files sys next ≡ committed_files sys s
      → ((t : ℕ) → (next.terms t).ending ≡ (s.terms t).ending) → ((t : ℕ) → path_of next t ≡ path_of s t)
      → ((t : ℕ) → next.modes (sys.pair_of t) ≢ Gone → s.modes (sys.pair_of t) ≢ Gone)
      → next.units ≡ s.units → FollowsAll sys s f → FollowsAll sys next now
  still-follows known blocks none answers files ending path there units all =
      quiet-follows blocks none answers files ending there units
      (λ t is_known live here idle.
      subst (λ (p : List PathAnswer). length p ≤ length (f.frontier t)) (sym (path t))
      ((known.frontiers t is_known (sym (ending t) ∙ live) (there t here)).short (ap (λ (u : ℕ → Option OpenUnit). attempt_of (u t)) (sym units) ∙ idle)))
      all
