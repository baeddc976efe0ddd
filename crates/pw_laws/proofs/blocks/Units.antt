-- The machine follows REPLY, COMMIT, BACK and RESTART.
use Rattle.std.proofs.Common.{◌≡◌, ◌≢◌, ◌⊎◌, inl, inr, ⊎_elim, ℕ, suc, ◌+◌, Bool, true, false, ◌&&◌, is_none, List, [], ◌∷◌, ◌++◌, length, Some, None, if◌then◌else◌, refl, ap, sym, subst, append-nil, arith, ◌∙◌}
use Rattle.std.specs.Prelude.{nat_lt}
use Rattle.std.proofs.lemmas.Bool.{ne_eqb}
use Rattle.pw_code.specs.declared.verb.Verb.{Verb}
use Rattle.pw_code.specs.declared.verb.Verb.TheVariants as verb
use Rattle.pw_event.specs.declared.event.Event.{Event}
use Rattle.pw_event.specs.declared.event.Event.TheVariants as event
use Rattle.pw_laws.proofs.terms.KeepsChecks as checks
use Rattle.pw_laws.proofs.terms.TermOk.{IsWorking, PathOk}
use Rattle.pw_onecopy.proofs.Update.{upd-other, upd-same}
use Rattle.pw_onecopy.specs.IsBehaviour.{IsBehaviour}
use Rattle.pw_onecopy.specs.declared.refresh.Refresh.{Refresh}
use Rattle.pw_onecopy.specs.Attempt.{Attempt, IsAttempt, TakesAnswer, attempt, attempt_with as attempt_given, answer_verb}
use Rattle.pw_onecopy.specs.OneCopy.{EndsCommitted, IsSerialFrom, LegalAttempted, Machine, MayBe, Single, next_attempt, one_copy, run_blocks, single_behind}
use Rattle.pw_onecopy.specs.Path.{PathAnswer, Failed, Replied, Ended, is_outside, standing, unit_number}
use Rattle.pw_paired.specs.Raising.{is_takeover}
use Rattle.pw_onecopy.specs.Refreshes.{refreshes_of}
use Rattle.pw_onecopy.specs.Blocks.{Committed, Attempted, AttemptEnding}
use Rattle.pw_paired.specs.State.{LastEnded, PairMode, OpenUnit, State, Term}
use Rattle.pw_paired.specs.Step.{Fits, effect}
use Rattle.pw_onecopy.specs.Behaviour.{Behaviour}
use Rattle.pw_paired.specs.Terminal.{LegalCommit, path_of}
use Rattle.pw_paired.specs.Units.{attempt_of, committed_files, only, restarts_of}
use Rattle.pw_laws.proofs.alone.AloneCommits.{commit-files}
use Rattle.pw_laws.proofs.records.Images.{restored-file}
use Rattle.pw_laws.proofs.blocks.Fold.{Fold, fold_on}
use Rattle.pw_laws.proofs.blocks.Following.{Follows, FollowsAll, refreshes_so_far}
use Rattle.pw_laws.proofs.blocks.Keys.{quiet-more, stands-at}
use Rattle.pw_laws.proofs.blocks.Known.{Known, same-everywhere, same-refreshes}
use Rattle.pw_laws.proofs.blocks.Others.{shown-none}
use Rattle.pw_laws.proofs.blocks.Own.{own-follows, plain-follows}
use Rattle.pw_laws.proofs.blocks.Running.{AtWork, at-work, block-legal, next-is, numbered-at, running-idle, running-is}
use Rattle.pw_laws.proofs.frontier.Frontier.{frontier_behind}
use Rattle.pw_laws.proofs.induction.Views.{View, path_in, view_of}
use Rattle.pw_laws.proofs.screens.Numbers.{AreBounded}
use Rattle.pw_laws.specs.locking.Records.{commits_at}
use Rattle.pw_laws.specs.locking.Seen.{AreFiles}

-- the frontier behind an entry is the path or the one before
frontier-either : (v w : View) (frontier : List PathAnswer) → (frontier_behind v w frontier ≡ path_in w) ⊎ (frontier_behind v w frontier ≡ frontier)
frontier-either v w frontier = by (is_none (attempt_of w.unit) && nat_lt (length frontier) (length (path_in w)))
  where
    by : (longer : Bool) → ((if longer then path_in w else frontier) ≡ path_in w) ⊎ ((if longer then path_in w else frontier) ≡ frontier)
    by true = inl refl
    by false = inr refl

module _ (sys : Behaviour) (b : IsBehaviour sys) (s : State) (f : Fold) (known : Known sys b s f) (all : FollowsAll sys s f)
    (stay : (entry : Event) → commits_at s entry ≡ false → Fits sys s entry → committed_files sys (effect sys s entry) ≡ committed_files sys s) where
  abbrev machine : Machine
  machine = one_copy sys f.order

  abbrev so_far : ℕ → List Refresh
  so_far t = refreshes_so_far sys s f t (machine.terms t)

  -- the refreshes so far, with those of the running attempt
  pub so-running : (t : ℕ) (u : OpenUnit) (q : List PathAnswer) → s.units t ≡ Some u → u.running ≡ Some q
      → so_far t ≡ (machine.terms t).refreshes ++ (attempt sys t q (committed_files sys s) u.restarts (f.reading.answers t)).refreshes
  so-running t u q is runs = ap (λ (l : List Refresh). (machine.terms t).refreshes ++ l) (running-is sys t (committed_files sys s) (f.reading.answers t) (s.units t) u q is runs)

  -- the numbers of a running attempt's path and of its start path
  pub numbers : (t : ℕ) (u : OpenUnit) (q : List PathAnswer) → AtWork sys b s f known all t u q → s.units t ≡ Some u → u.running ≡ Some q → IsWorking (s.modes (sys.pair_of t)) → is_takeover (s.terms t).pending ≡ false
      → (unit_number (path_of s t) ≡ unit_number q) × (u.number ≡ unit_number (path_of s t)) × ((s.ended t).number + 1 ≡ unit_number q)
  numbers t u q w is runs works untaken =
      let p = checks.running (s.units t) (ap attempt_of is ∙ runs) ((known.inv.terms t w.here).path_ok w.going_on works untaken) in
      let own = (known.inv.terms t w.here).unit_ok u is in
      let start = (own.start q runs).1 in
      (p.number ∙ sym start, own.number ∙ sym p.number, sym start)

  -- A unit of a terminal that ends: its attempt with the closing answer is a block.
  module _ (entry : Event) (known' : Known sys b (effect sys s entry) (fold_on sys s entry f)) (t : ℕ) (u : OpenUnit) (q : List PathAnswer) (is_open : s.units t ≡ Some u) (runs : u.running ≡ Some q)
      (works : IsWorking (s.modes (sys.pair_of t))) (untaken : is_takeover (s.terms t).pending ≡ false) (v : Verb) (asks : sys.ask t (path_of s t) ≡ v) (takes : TakesAnswer sys t (path_of s t) v) (quiet : v ≢ verb.Show)
      (units : (effect sys s entry).units t ≡ None) (ended : ((effect sys s entry).ended t).number ≡ unit_number (path_of s t)) (there' : (effect sys s entry).modes ≡ s.modes)
      (going : ((effect sys s entry).terms t).ending ≡ (s.terms t).ending) where
    abbrev next : State
    next = effect sys s entry

    abbrev now : Fold
    now = fold_on sys s entry f

    abbrev w : AtWork sys b s f known all t u q
    w = at-work sys b s f known all t u q is_open runs

    abbrev j : ℕ
    j = f.reading.answers t

    abbrev at : Attempt
    at = attempt sys t q (committed_files sys s) u.restarts j

    abbrev last : Attempt
    last = attempt sys t q (committed_files sys s) u.restarts (suc j)

    at_path : path_of s t ≡ at.path
    at_path = stands-at sys b s f known all stay t u q w works untaken

    asked : sys.ask t at.path ≡ v
    asked = ap (sys.ask t) (sym at_path) ∙ asks

    last_is : last ≡ answer_verb sys t u.restarts (committed_files sys s) v at
    last_is = ap (λ (x : Verb). answer_verb sys t u.restarts (committed_files sys s) x at) asked

    abbrev number : (unit_number (path_of s t) ≡ unit_number q) × (u.number ≡ unit_number (path_of s t)) × ((s.ended t).number + 1 ≡ unit_number q)
    number = numbers t u q w is_open runs works untaken

    is-attempt : IsAttempt sys t q (committed_files sys s) u.restarts (suc j)
    is-attempt = (
      w.at.alone.is_attempt,
      record {
        takes = subst (λ (x : Verb). TakesAnswer sys t at.path x) (sym asked) (subst (λ (p : List PathAnswer). TakesAnswer sys t p v) at_path takes);
        is_open = ap unit_number (sym at_path) ∙ number.0;
      },
    )

    one : j + 1 ≡ suc j
    one = omega arith

    -- the machine's next attempt
    pub machine-last : next_attempt sys machine t (j + 1) ≡ last
    machine-last = ap (next_attempt sys machine t) one ∙ next-is sys b s f known all t u q w (suc j)

    -- the block of the whole attempt is legal
    pub legal-last : (n : ℕ) (how : AttemptEnding) → n ≡ unit_number (path_of s t) → MayBe sys t (machine.terms t) last how → IsSerialFrom sys machine (Attempted t n how (j + 1) ∷ [])
    legal-last n how same may_be = (
      subst (λ (m : ℕ). LegalAttempted sys machine t n how m) (sym one)
          (block-legal sys b s f known all t u q w n (suc j) how (same ∙ sym number.1) is-attempt (subst (λ (x : Attempt). MayBe sys t (machine.terms t) x how) (sym (next-is sys b s f known all t u q w (suc j))) may_be)),
      tt,
    )

    -- the frontier is behind the unit
    grown : (path_of next t ≡ last.path) → last.path ≡ now.frontier t
    grown same =
        ⊎_elim (λ here. sym same ∙ sym here)
        (λ old.
        let base = (known'.frontiers t w.here (going ∙ w.going_on) (λ gone. w.there (ap (λ (m : ℕ → PairMode). m (sys.pair_of t)) (sym there') ∙ gone))).base.number in
        let was = w.frontier.base.number in
        let stays = ap unit_number old in
        let before = number.0 in let next_one = number.2 in
        absurd (omega (arith, base, was, stays, before, next_one, ended)))
        (frontier-either (view_of sys s t) (view_of sys next t) (f.frontier t))

    -- behind it the refreshes lie strictly before
    closed : (path_of next t ≡ last.path) → AreBounded 0 (standing last.path) ((machine.terms t).refreshes ++ last.refreshes)
    closed same x there =
        inl ((numbered-at sys b s f known all t u q w is_open (suc j) is-attempt).over
        (λ still.
        let base = (known'.frontiers t w.here (going ∙ w.going_on) (λ gone. w.there (ap (λ (m : ℕ → PairMode). m (sys.pair_of t)) (sym there') ∙ gone))).base.number in
        let here = ap unit_number (grown same) in
        let before = number.0 in
        absurd (omega (arith, base, here, still, before, ended))) x there)

    abbrev taken : Single
    taken = record (machine.terms t) { path = last.path; restarts = 0; refreshes = (machine.terms t).refreshes ++ last.refreshes }

    -- the machine follows the terminal whose unit is over
    pub over-follows-unit : (path_of next t ≡ last.path) → refreshes_of t now.shown ≡ refreshes_of t f.shown → Follows sys next now t taken
    over-follows-unit same shown =
        plain-follows sys b s f known all entry t w.here taken ((all.terms t w.here).ending ∙ sym going)
        (λ live there. record {
          path = grown same;
          restarts = sym (ap restarts_of units);
          not_left = w.goes.not_left;
          bounded = closed same;
          covers = (numbered-at sys b s f known all t u q w is_open (suc j) is-attempt).covers;
        })
        (ap (λ (l : List Refresh). ((machine.terms t).refreshes ++ last.refreshes) ++ l) (running-idle sys t (committed_files sys next) (now.reading.answers t) (next.units t) (ap attempt_of units))
        ∙ (append-nil ((machine.terms t).refreshes ++ last.refreshes)
        ∙ (ap (λ (l : List Refresh). (machine.terms t).refreshes ++ l) (quiet-more sys b s f known all stay t u q w v asked quiet) ∙ sym (so-running t u q is_open runs))))
        shown

  -- the terminal of the machine behind the block
  pub taken-is : (t n : ℕ) (how : AttemptEnding) (j : ℕ) (last : Attempt) → next_attempt sys machine t j ≡ last
      → (run_blocks sys machine (Attempted t n how j ∷ [])).terms t ≡ single_behind how last (machine.terms t)
  taken-is t n how j x is = upd-same machine.terms t _ t refl ∙ ap (λ (x : Attempt). single_behind how x (machine.terms t)) is

  -- the committed records behind the entry are files
  pub behind-files : (entry : Event) → Known sys b (effect sys s entry) (fold_on sys s entry f) → AreFiles sys (committed_files sys (effect sys s entry))
  behind-files entry known' = restored-file sys (effect sys s entry).before known'.records.images (effect sys s entry).files known'.records.are_files

  -- COMMIT
  module _ (t n : ℕ) (l : LegalCommit sys s t n) (known' : Known sys b (effect sys s (event.Commit t n)) (fold_on sys s (event.Commit t n) f)) where
    abbrev commit : Event
    commit = event.Commit t n

    abbrev path-is : PathOk sys t (s.ended t).number (s.units t) (path_of s t)
    path-is = checks.can_path sys b s known.inv.terms t l.can

    abbrev who : checks.Within sys t (s.ended t).number (s.units t) (path_of s t)
    who = checks.within (s.units t) (b.ends t (path_of s t) (checks.path_ok-is _ (s.units t) path-is) l.asks) path-is

    abbrev final : Attempt
    final = attempt sys t who.start (committed_files sys s) who.open_unit.restarts (suc (f.reading.answers t))

    abbrev before_it : Attempt
    before_it = attempt sys t who.start (committed_files sys s) who.open_unit.restarts (f.reading.answers t)

    works : IsWorking (s.modes (sys.pair_of t))
    works = rw l.can.paired tt

    untaken : is_takeover (s.terms t).pending ≡ false
    untaken = ap is_takeover l.can.calm

    stands : path_of s t ≡ before_it.path
    stands = stands-at sys b s f known all stay t who.open_unit who.start (at-work sys b s f known all t who.open_unit who.start who.is_open who.runs) works untaken

    final_is : final ≡ attempt_given Ended before_it
    final_is = ap (λ (x : Verb). answer_verb sys t who.open_unit.restarts (committed_files sys s) x before_it) (ap (sys.ask t) (sym stands) ∙ l.asks)

    new-path : path_of (effect sys s commit) t ≡ final.path
    new-path = ap (λ (x : Term). x.path) (upd-same s.terms t _ t refl) ∙ (ap (λ (p : List PathAnswer). p ++ Ended ∷ []) stands ∙ ap (λ (x : Attempt). x.path) (sym final_is))

    ended_is : ((effect sys s commit).ended t).number ≡ unit_number (path_of s t)
    ended_is = ap (λ (x : LastEnded). x.number) (upd-same s.ended t _ t refl) ∙ l.number

    -- the machine follows a COMMIT
    pub follows-commit : FollowsAll sys (effect sys s commit) (fold_on sys s commit f)
    follows-commit =
        let is_last = machine-last commit known' t who.open_unit who.start who.is_open who.runs works untaken verb.End l.asks tt (λ e. absurd (cc e)) (upd-same s.units t None t refl) ended_is refl (ap (λ (x : Term). x.ending) (upd-same s.terms t _ t refl)) in
        own-follows sys b s f known all commit t l.can.live.known (Attempted t n Committed (f.reading.answers t + 1) ∷ []) refl
        (legal-last commit known' t who.open_unit who.start who.is_open who.runs works untaken verb.End l.asks tt (λ e. absurd (cc e)) (upd-same s.units t None t refl) ended_is refl (ap (λ (x : Term). x.ending) (upd-same s.terms t _ t refl))
        n Committed l.number (subst (λ (x : Attempt). EndsCommitted (sys.ask t (machine.terms t).path) x.last) (sym final_is) tt))
        (ap (λ (x : Attempt). x.files) (is_last ∙ final_is)
        ∙ sym (same-everywhere (commit-files sys b s known.records known.inv known.locks f.reading.answers known.alone t n l who.open_unit who.start who.is_open who.runs)))
        (λ o differ. upd-other machine.terms t _ o differ)
        (λ o differ. upd-other s.terms t _ o differ) (λ o differ. upd-other s.units t None o differ) refl (λ o differ. upd-other f.reading.answers t _ o differ)
        (λ o differ. shown-none sys b s f commit refl o)
        (λ o differ u q is runs.
        same-refreshes sys b s (effect sys s commit) f.reading.answers known.records known.locks o (only t) (ne_eqb o t differ) refl refl (behind-files commit known') u q (known.alone o u q is runs))
        (subst (λ (x : Single). Follows sys (effect sys s commit) (fold_on sys s commit f) t x) (sym (taken-is t n Committed (f.reading.answers t + 1) final is_last))
        (over-follows-unit commit known' t who.open_unit who.start who.is_open who.runs works untaken verb.End l.asks tt (λ e. absurd (cc e)) (upd-same s.units t None t refl) ended_is refl (ap (λ (x : Term). x.ending) (upd-same s.terms t _ t refl))
        new-path (shown-none sys b s f commit refl t)))
