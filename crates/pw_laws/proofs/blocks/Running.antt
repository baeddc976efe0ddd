-- A running attempt in the machine that follows: its block is legal.
use Rattle.std.proofs.Common.{◌≡◌, ◌≢◌, ℕ, ◌<◌, List, [], Option, Some, None, refl, ap, sym, subst, subst₂, ◌∙◌}
use Rattle.pw_onecopy.specs.IsBehaviour.{IsBehaviour}
use Rattle.pw_onecopy.specs.Attempt.{IsAttempt, attempt, BeginsUnit}
use Rattle.pw_onecopy.specs.OneCopy.{LegalAttempted, Machine, MayBe, next_attempt, one_copy}
use Rattle.pw_onecopy.specs.Path.{PathAnswer, standing, unit_number}
use Rattle.pw_onecopy.specs.Blocks.{AttemptEnding, Left}
use Rattle.pw_paired.specs.State.{Gone, OpenUnit, State}
use Rattle.pw_onecopy.specs.Behaviour.{Behaviour}
use Rattle.pw_paired.specs.Units.{attempt_of, committed_files, restarts_of}
use Rattle.pw_laws.proofs.alone.AloneEntries.{AloneAt}
use Rattle.pw_laws.proofs.records.Images.{restored-file}
use Rattle.pw_laws.proofs.blocks.Fold.{Fold}
use Rattle.pw_laws.proofs.blocks.Following.{FollowsAll, GoesOn, attempt_refreshes, running_refreshes}
use Rattle.pw_laws.proofs.blocks.Known.{Known}
use Rattle.pw_laws.proofs.frontier.Frontier.{FrontierOk}
use Rattle.pw_laws.proofs.induction.Views.{view_of}
use Rattle.pw_laws.proofs.screens.Attempts.{Numbered, numbered}
use Rattle.pw_laws.proofs.screens.Numbers.{AreBounded, Covers}

-- an idle terminal has no attempt
pub running-idle : (sys : Behaviour) (t : ℕ) (files : ℕ → List (List ℕ)) (j : ℕ) (unit : Option OpenUnit) → attempt_of unit ≡ None → running_refreshes sys t files j unit ≡ []
running-idle sys t files j None idle = refl
running-idle sys t files j (Some u) idle = ap (attempt_refreshes sys t files j u.restarts) idle

-- the refreshes of a running attempt are those of the attempt alone
pub running-is : (sys : Behaviour) (t : ℕ) (files : ℕ → List (List ℕ)) (j : ℕ) (unit : Option OpenUnit) (u : OpenUnit) (q : List PathAnswer) → unit ≡ Some u → u.running ≡ Some q
    → running_refreshes sys t files j unit ≡ (attempt sys t q files u.restarts j).refreshes
running-is sys t files j unit u q is runs = ap (running_refreshes sys t files j) is ∙ ap (attempt_refreshes sys t files j u.restarts) runs

module _ (sys : Behaviour) (b : IsBehaviour sys) (s : State) (f : Fold) (known : Known sys b s f) (all : FollowsAll sys s f) where
  abbrev machine : Machine
  machine = one_copy sys f.order

  -- what is known of a running attempt
  pub record AtWork (t : ℕ) (u : OpenUnit) (q : List PathAnswer) : Type 0 where
    pub here : t < sys.terminals
    pub going_on : (s.terms t).ending ≡ None
    pub there : s.modes (sys.pair_of t) ≢ Gone
    pub frontier : FrontierOk sys t (view_of sys s t) (f.frontier t)
    pub goes : GoesOn sys t (machine.terms t) (f.frontier t) (s.units t)
    pub at : AloneAt sys b s f.reading.answers t u q
    pub path_is : (machine.terms t).path ≡ q
    pub restarts_is : (machine.terms t).restarts ≡ u.restarts
    pub number_is : u.number ≡ unit_number (machine.terms t).path

  -- a running attempt has all of this
  pub at-work : (t : ℕ) (u : OpenUnit) (q : List PathAnswer) → s.units t ≡ Some u → u.running ≡ Some q → AtWork t u q
  at-work t u q is runs =
      let here : t < sys.terminals = known.inv.known t u is in
      let at = known.alone t u q is runs in
      let there : s.modes (sys.pair_of t) ≢ Gone = λ gone. absurd (let none = (known.inv.terms t here).lost gone in cc (none, is)) in
      let frontier = known.frontiers t here at.going there in
      let goes = (all.terms t here).goes at.going there in
      record {
        here = here;
        going_on = at.going;
        there = there;
        frontier = frontier;
        goes = goes;
        at = at;
        path_is = goes.path ∙ sym (frontier.base.start q (ap attempt_of is ∙ runs));
        restarts_is = goes.restarts ∙ ap restarts_of is;
        number_is = ((known.inv.terms t here).unit_ok u is).number ∙ (sym frontier.base.number ∙ ap unit_number (sym goes.path));
      }

  -- its attempt is the machine's next one
  pub next-is : (t : ℕ) (u : OpenUnit) (q : List PathAnswer) → (w : AtWork t u q) → (j : ℕ) → next_attempt sys machine t j ≡ attempt sys t q (committed_files sys s) u.restarts j
  next-is t u q w j =
      ap (λ (p : List PathAnswer). attempt sys t p machine.files (machine.terms t).restarts j) w.path_is
      ∙ (ap (λ (x : ℕ → List (List ℕ)). attempt sys t q x (machine.terms t).restarts j) all.files ∙ ap (λ (r : ℕ). attempt sys t q (committed_files sys s) r j) w.restarts_is)

  -- what is an attempt on the committed records is one on the files of the machine
  pub attempt-is : (t : ℕ) (u : OpenUnit) (q : List PathAnswer) → (w : AtWork t u q) → (j : ℕ) → IsAttempt sys t q (committed_files sys s) u.restarts j
      → IsAttempt sys t (machine.terms t).path machine.files (machine.terms t).restarts j
  attempt-is t u q w j is =
      subst (λ (p : List PathAnswer). IsAttempt sys t p machine.files (machine.terms t).restarts j) (sym w.path_is)
      (subst (λ (x : ℕ → List (List ℕ)). IsAttempt sys t q x (machine.terms t).restarts j) (sym all.files)
      (subst (λ (r : ℕ). IsAttempt sys t q (committed_files sys s) r j) (sym w.restarts_is) is))

  -- a block of it is legal where it is over so
  pub block-legal : (t : ℕ) (u : OpenUnit) (q : List PathAnswer) → (w : AtWork t u q) → (n j : ℕ) (how : AttemptEnding) → n ≡ u.number → IsAttempt sys t q (committed_files sys s) u.restarts j
      → MayBe sys t (machine.terms t) (next_attempt sys machine t j) how → LegalAttempted sys machine t n how j
  block-legal t u q w n j how number is may_be = record {
    live = record { known = w.here; live = (all.terms t w.here).ending ∙ w.going_on };
    not_left = w.goes.not_left;
    number = number ∙ w.number_is;
    is_attempt = attempt-is t u q w j is;
    may_be = may_be;
  }

  -- it may be left
  pub ready : (t : ℕ) (u : OpenUnit) (q : List PathAnswer) → s.units t ≡ Some u → u.running ≡ Some q → LegalAttempted sys machine t u.number Left (f.reading.answers t)
  ready t u q is runs = let w = at-work t u q is runs in block-legal t u q w u.number (f.reading.answers t) Left refl w.at.alone.is_attempt tt

  -- the refreshes of the machine's terminal and of the attempt
  pub numbered-at : (t : ℕ) (u : OpenUnit) (q : List PathAnswer) → (w : AtWork t u q) → s.units t ≡ Some u → (j : ℕ) → IsAttempt sys t q (committed_files sys s) u.restarts j
      → Numbered sys t u.restarts q (machine.terms t).refreshes (attempt sys t q (committed_files sys s) u.restarts j)
  numbered-at t u q w is j attempt_is =
      numbered sys b t u.restarts q w.at.start
      (subst (λ (p : List PathAnswer). BeginsUnit (sys.ask t p) p) (sym w.goes.path ∙ w.path_is) (w.frontier.base.begins u is))
      (machine.terms t).refreshes (committed_files sys s) (restored-file sys s.before known.records.images s.files known.records.are_files)
      (subst₂ (λ (n : ℕ) (p : List PathAnswer). AreBounded n (standing p) (machine.terms t).refreshes) w.restarts_is w.path_is w.goes.bounded)
      (subst (λ (p : List PathAnswer). Covers sys t p (machine.terms t).refreshes) w.path_is w.goes.covers)
      j attempt_is
