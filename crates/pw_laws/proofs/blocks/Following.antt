-- How the one-copy machine follows the paired state.
use Rattle.std.proofs.Common.{◌≡◌, ◌≢◌, ℕ, ◌<◌, false, List, [], ◌++◌, length, Option, Some, None}
use Rattle.pw_onecopy.specs.declared.refresh.Refresh.{Refresh}
use Rattle.pw_onecopy.specs.OneCopy.{IsSerial, Single, one_copy}
use Rattle.pw_onecopy.specs.Attempt.{attempt}
use Rattle.pw_onecopy.specs.Path.{PathAnswer, standing}
use Rattle.pw_onecopy.specs.Refreshes.{once, refreshes_of}
use Rattle.pw_paired.specs.State.{Gone, OpenUnit, State}
use Rattle.pw_onecopy.specs.Behaviour.{Behaviour}
use Rattle.pw_paired.specs.Units.{committed_files, restarts_of}
use Rattle.pw_laws.proofs.blocks.Fold.{Fold}
use Rattle.pw_laws.proofs.screens.Numbers.{AreBounded, Covers}
use Rattle.pw_laws.proofs.screens.Once.{IsIn}

-- the refreshes of the attempt that runs on these files with so many answers, if one does
abbrev pub attempt_refreshes : Behaviour → ℕ → (ℕ → List (List ℕ)) → ℕ → ℕ → Option (List PathAnswer) → List Refresh
attempt_refreshes sys t files j r None = []
attempt_refreshes sys t files j r (Some start) = (attempt sys t start files r j).refreshes

-- the same of an open unit, if there is one
abbrev pub running_refreshes : Behaviour → ℕ → (ℕ → List (List ℕ)) → ℕ → Option OpenUnit → List Refresh
running_refreshes sys t files j None = []
running_refreshes sys t files j (Some unit) = attempt_refreshes sys t files j unit.restarts unit.running

-- a terminal of the machine that goes on: its path is the frontier, its r the recorded restarts, and its refreshes lie before
-- the next one and hold each screen of its path
pub record GoesOn (sys : Behaviour) (t : ℕ) (single : Single) (frontier : List PathAnswer) (unit : Option OpenUnit) : Type 0 where
  pub path : single.path ≡ frontier
  pub restarts : single.restarts ≡ restarts_of unit
  pub not_left : single.is_left ≡ false
  pub bounded : AreBounded single.restarts (standing single.path) single.refreshes
  pub covers : Covers sys t single.path single.refreshes

-- the refreshes of a terminal so far: those of the machine, and those of its running attempt
abbrev pub refreshes_so_far : Behaviour → State → Fold → ℕ → Single → List Refresh
refreshes_so_far sys s f t single = single.refreshes ++ running_refreshes sys t (committed_files sys s) (f.reading.answers t) (s.units t)

-- a terminal of the machine follows the terminal
pub record Follows (sys : Behaviour) (s : State) (f : Fold) (t : ℕ) (single : Single) : Type 0 where
  pub ending : single.ending ≡ (s.terms t).ending
  pub goes : (s.terms t).ending ≡ None → s.modes (sys.pair_of t) ≢ Gone → GoesOn sys t single (f.frontier t) (s.units t)
  pub longest : f.reading.longest t ≡ length (f.frontier t)
  pub screens : once (refreshes_of t f.shown) ≡ refreshes_so_far sys s f t single
  pub each : (x : Refresh) → IsIn x (refreshes_of t f.shown) → IsIn x (refreshes_so_far sys s f t single)

-- a terminal that is not started
pub record IsStranger (s : State) (f : Fold) (t : ℕ) (single : Single) : Type 0 where
  pub going_on : (s.terms t).ending ≡ None
  pub live : single.ending ≡ None
  pub none : refreshes_of t f.shown ≡ []
  pub refreshes : single.refreshes ≡ []

-- the machine follows: the blocks so far are legal, and behind them it has the committed records
pub record FollowsAll (sys : Behaviour) (s : State) (f : Fold) : Type 0 where
  pub serial : IsSerial sys f.order
  pub files : (one_copy sys f.order).files ≡ committed_files sys s
  pub terms : (t : ℕ) → t < sys.terminals → Follows sys s f t ((one_copy sys f.order).terms t)
  pub strangers : (t : ℕ) → (¬ (t < sys.terminals)) → IsStranger s f t ((one_copy sys f.order).terms t)
