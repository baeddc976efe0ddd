-- Every run is serializable, and refreshes of equal numbers are equal.
use Rattle.std.proofs.Common.{◌≡◌, ◌⊎◌, inl, inr, ⊎_elim, ℕ, ◌<◌, ◌≤◌, true, false, List, refl, ap, sym, subst, arith, ◌∙◌}
use Rattle.std.proofs.lemmas.Bool.{cases_lt}
use Rattle.pw_event.specs.declared.event.Event.{Event}
use Rattle.pw_event.specs.declared.event.Event.TheVariants as event
use Rattle.pw_onecopy.specs.IsBehaviour.{IsBehaviour}
use Rattle.pw_onecopy.specs.declared.refresh.Refresh.{Refresh}
use Rattle.pw_paired.specs.Headline.{IsSerializable}
use Rattle.pw_onecopy.specs.OneCopy.{IsSerial, Machine, Single, beginning, one_copy, run_blocks}
use Rattle.pw_onecopy.specs.Refreshes.{once, refreshes_of, same_number}
use Rattle.pw_paired.specs.Shown.{refreshes}
use Rattle.pw_paired.specs.Serial.{blocks, left_blocks}
use Rattle.pw_paired.specs.State.{State, starting}
use Rattle.pw_paired.specs.Step.{Fits, IsRun, after, effect}
use Rattle.pw_onecopy.specs.Behaviour.{Behaviour}
use Rattle.pw_paired.specs.Units.{committed_files}
use Rattle.pw_laws.proofs.blocks.Backs.{follows-back, follows-restart}
use Rattle.pw_laws.proofs.blocks.Endings.{follows-end}
use Rattle.pw_laws.proofs.blocks.Fold.{Fold, fold_after, fold_on, fold_starts, fold-blocks, fold-shown, run_blocks-append, serial-append}
use Rattle.pw_laws.proofs.blocks.Following.{FollowsAll}
use Rattle.pw_laws.proofs.blocks.Keys.{follows-again, follows-begin, follows-key}
use Rattle.pw_laws.proofs.blocks.Known.{Known, committed-stay, known, known-next}
use Rattle.pw_laws.proofs.blocks.Lefts.{LeftAll, left-all, left-ending, left_term}
use Rattle.pw_laws.proofs.blocks.Losses.{follows-lost, refreshes-left}
use Rattle.pw_laws.proofs.blocks.Quiet.{follows-applied, follows-check-copy, follows-check-end, follows-check-start, follows-fail-server, follows-file, follows-kept-pair, follows-raise, follows-send, follows-take, follows-takeover, outcome}
use Rattle.pw_laws.proofs.blocks.Replies.{follows-reply}
use Rattle.pw_laws.proofs.blocks.Running.{ready}
use Rattle.pw_laws.proofs.blocks.Screens.{follows-show}
use Rattle.pw_laws.proofs.blocks.Units.{follows-commit}
use Rattle.pw_laws.proofs.induction.Runs.{behind-runs}
use Rattle.pw_laws.proofs.screens.Once.{IsIn, once-one}
use Rattle.pw_laws.specs.locking.Records.{commits_at}

module _ (sys : Behaviour) (b : IsBehaviour sys) where
  module _ (s : State) (f : Fold) (k : Known sys b s f) (all : FollowsAll sys s f)
      (stay : (entry : Event) → commits_at s entry ≡ false → Fits sys s entry → committed_files sys (effect sys s entry) ≡ committed_files sys s) where
    -- each entry
    follows-entry : (entry : Event) → Fits sys s entry → Known sys b (effect sys s entry) (fold_on sys s entry f) → FollowsAll sys (effect sys s entry) (fold_on sys s entry f)
    follows-entry (event.Show t phase attempt n) l k' = follows-show sys b s f k all stay t phase attempt n l
    follows-entry (event.Key t n) l k' = follows-key sys b s f k all stay t n l
    follows-entry (event.CheckStart t) l k' = follows-check-start sys b s f k all stay t l
    follows-entry (event.CheckEnd t) l k' = follows-check-end sys b s f k all stay t l
    follows-entry (event.CheckCopy t) l k' = follows-check-copy sys b s f k all stay t l
    follows-entry (event.Applied t) l k' = follows-applied sys b s f k all stay t l
    follows-entry (event.Begin t n r) l k' = follows-begin sys b s f k all stay t n r l
    follows-entry (event.Send t n c) l k' = follows-send sys b s f k all stay t n c l
    follows-entry (event.Take c i t) l k' = follows-take sys b s f k all stay c i t l
    follows-entry (event.File c i op mode file status) l k' = follows-file sys b s f k all stay c i op mode file status l
    follows-entry (event.Reply c i t fault) l k' = follows-reply sys b s f k all stay c i t fault l k'
    follows-entry (event.Again t n) l k' = follows-again sys b s f k all stay t n l
    follows-entry (event.Commit t n) l k' = follows-commit sys b s f k all stay t n l k'
    follows-entry (event.Back t n) l k' = follows-back sys b s f k all stay t n l k'
    follows-entry (event.Restart t n kind) l k' = follows-restart sys b s f k all stay t n kind l
    follows-entry (event.FailTcp p primary n) l k' =
        follows-kept-pair sys b s f k all stay p primary n l (outcome sys s p primary) (λ which breaks is. follows-lost sys b s f k all stay p primary n l which breaks is)
    follows-entry (event.FailServer c i n) l k' = follows-fail-server sys b s f k all stay c i n l
    follows-entry (event.Takeover p) l k' = follows-takeover sys b s f k all stay p l
    follows-entry (event.Raise p) l k' = follows-raise sys b s f k all stay p l
    follows-entry (event.End t e) l k' = follows-end sys b s f k all stay t e l

  -- the start
  follows-start : FollowsAll sys (starting sys) fold_starts
  follows-start = record {
    serial = tt;
    files = refl;
    terms = λ t here. record {
      ending = refl;
      goes = λ live there. record { path = refl; restarts = refl; not_left = refl; bounded = λ x there_in. absurd there_in; covers = λ x there_in. absurd there_in };
      longest = refl;
      screens = refl;
      each = λ x there_in. absurd there_in;
    };
    strangers = λ t unknown. record { going_on = refl; live = refl; none = refl; refreshes = refl };
  }

  -- In every run the machine follows.
  pub follows-all : (log : List Event) → IsRun sys log → FollowsAll sys (after sys log) (fold_after sys log)
  follows-all =
      behind-runs sys (fold_on sys) fold_starts (FollowsAll sys)
      (λ log run entry legal all.
      let k = known sys b log run in
      follows-entry (after sys log) (fold_after sys log) k all
      (λ other none fits. committed-stay sys b (after sys log) k.inv k.records other none fits)
      entry legal.fits (known-next sys b log run entry legal))
      follows-start

  -- behind the last blocks: each attempt that runs at the end is left
  module _ (log : List Event) (run : IsRun sys log) where
    abbrev s : State
    s = after sys log

    abbrev f : Fold
    f = fold_after sys log

    all : FollowsAll sys s f
    all = follows-all log run

    abbrev machine : Machine
    machine = one_copy sys f.order

    some : LeftAll sys s f.reading machine (λ t. true) sys.terminals
    some = left-all sys s f.reading machine (λ t. true) (ready sys b s f (known sys b log run) all) sys.terminals

    final : one_copy sys (blocks sys log) ≡ run_blocks sys machine (left_blocks s f.reading (λ t. true) sys.terminals)
    final = ap (one_copy sys) (fold-blocks sys log) ∙ run_blocks-append sys (beginning sys) f.order (left_blocks s f.reading (λ t. true) sys.terminals)

    shown : (t : ℕ) → refreshes_of t (refreshes sys log) ≡ refreshes_of t f.shown
    shown t = ap (refreshes_of t) (sym (fold-shown sys log))

    -- the terminal of the machine is left where an attempt runs
    at-end : (t : ℕ) → t < sys.terminals → (one_copy sys (blocks sys log)).terms t ≡ left_term sys t machine.files (f.reading.answers t) (s.units t) (machine.terms t)
    at-end t here = ap (λ (m : Machine). m.terms t) final ∙ some.own t here refl

    beyond : (t : ℕ) → (¬ (t < sys.terminals)) → (one_copy sys (blocks sys log)).terms t ≡ machine.terms t
    beyond t unknown = ap (λ (m : Machine). m.terms t) final ∙ some.above t (let high : sys.terminals ≤ t = omega (arith, unknown) in high)

    -- the terminal is started or not
    started : (t : ℕ) → (t < sys.terminals) ⊎ (¬ (t < sys.terminals))
    started t = ⊎_elim (λ here. inl here) (λ high. inr (λ here. absurd (omega (arith, here, high)))) (cases_lt t sys.terminals)

    -- the run is serializable
    pub is-serializable : IsSerializable sys log
    is-serializable = record {
      legal = subst (IsSerial sys) (sym (fold-blocks sys log)) (serial-append sys (beginning sys) f.order (left_blocks s f.reading (λ t. true) sys.terminals) all.serial some.serial);
      screens = λ t.
          ⊎_elim
          (λ here. ap once (shown t) ∙ ((all.terms t here).screens ∙ sym (ap (λ (x : Single). x.refreshes) (at-end t here) ∙ refreshes-left sys b s f (known sys b log run) all (stay-at) t)))
          (λ unknown.
          let x = all.strangers t unknown in
          ap once (shown t ∙ x.none) ∙ sym (ap (λ (y : Single). y.refreshes) (beyond t unknown) ∙ x.refreshes))
          (started t);
      records = λ x. ap (λ (y : ℕ → List (List ℕ)). y x) (sym (ap (λ (m : Machine). m.files) final ∙ (some.files ∙ all.files)));
      endings = λ t.
          ⊎_elim
          (λ here. sym (ap (λ (x : Single). x.ending) (at-end t here) ∙ (left-ending sys t machine.files (f.reading.answers t) (s.units t) (machine.terms t) ∙ (all.terms t here).ending)))
          (λ unknown. let x = all.strangers t unknown in x.going_on ∙ sym (ap (λ (y : Single). y.ending) (beyond t unknown) ∙ x.live))
          (started t);
    }
      where
        stay-at : (entry : Event) → commits_at s entry ≡ false → Fits sys s entry → committed_files sys (effect sys s entry) ≡ committed_files sys s
        stay-at entry none fits = let k = known sys b log run in committed-stay sys b s k.inv k.records entry none fits

    -- two refreshes of one terminal with one number are one
    pub equal-images : (t : ℕ) (one other : Refresh) → IsIn one (refreshes_of t (refreshes sys log)) → IsIn other (refreshes_of t (refreshes sys log)) → same_number one other ≡ true → one ≡ other
    equal-images t one other first second same =
        ⊎_elim
        (λ here.
        let follows = all.terms t here in
        once-one (refreshes_of t f.shown) one other
        (subst (IsIn one) (sym follows.screens) (follows.each one (subst (IsIn one) (shown t) first)))
        (subst (IsIn other) (sym follows.screens) (follows.each other (subst (IsIn other) (shown t) second))) same)
        (λ unknown. absurd (subst (IsIn one) (shown t ∙ (all.strangers t unknown).none) first))
        (started t)
