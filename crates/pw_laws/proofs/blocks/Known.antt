-- What is known behind every run, and what an entry leaves of the attempts of other terminals.
use Rattle.std.proofs.Common.{◌≡◌, ℕ, ◌<◌, Bool, false, not, List, [], ◌∷◌, ◌++◌, filter, ap₂, sym, subst, subst₂, ◌∙◌}
use Rattle.pw_event.specs.declared.event.Event.{Event}
use Rattle.pw_files.specs.Records.{record_at}
use Rattle.pw_laws.proofs.kept.Kept.{Inv}
use Rattle.pw_onecopy.specs.IsBehaviour.{IsBehaviour}
use Rattle.pw_onecopy.specs.Attempt.{attempt}
use Rattle.pw_onecopy.specs.Path.{PathAnswer}
use Rattle.pw_paired.specs.State.{BeforeImage, OpenUnit, State}
use Rattle.pw_paired.specs.Step.{Fits, IsRun, Legal, after, effect}
use Rattle.pw_onecopy.specs.Behaviour.{Behaviour}
use Rattle.pw_paired.specs.Units.{committed_files, restored_files}
use Rattle.pw_laws.proofs.alone.AloneEntries.{AllAlone, AloneAt}
use Rattle.pw_laws.proofs.alone.AloneRuns.{all-alone}
use Rattle.pw_laws.proofs.AttemptOps.{agree-by-locks}
use Rattle.pw_laws.proofs.AttemptFiles.{attempts-same}
use Rattle.pw_laws.proofs.records.Committed.{records-ok}
use Rattle.pw_laws.proofs.records.Entries.{stays}
use Rattle.pw_laws.proofs.Holding.{LocksOk, locks-ok}
use Rattle.pw_laws.proofs.records.Images.{restored-file}
use Rattle.pw_laws.proofs.alone.LockedRecords.{committed-same}
use Rattle.pw_laws.proofs.records.RecordsOk.{RecordsOk}
use Rattle.pw_laws.proofs.seeing.SameFiles.{same_files}
use Rattle.pw_laws.proofs.blocks.Fold.{Fold, fold_after, fold_on, fold_starts, fold-answers, fold-frontier}
use Rattle.pw_laws.proofs.frontier.Frontier.{FrontierAt}
use Rattle.pw_laws.proofs.frontier.Frontiers.{frontiers}
use Rattle.pw_laws.proofs.induction.Runs.{after-more, carried-more, kept, run-more}
use Rattle.pw_laws.proofs.induction.Views.{view_of}
use Rattle.pw_laws.specs.locking.Records.{commits_at}
use Rattle.pw_laws.specs.locking.Seen.{AreFiles}

-- what is known of a state of a run
pub record Known (sys : Behaviour) (b : IsBehaviour sys) (s : State) (f : Fold) : Type 0 where
  pub inv : Inv sys s
  pub records : RecordsOk sys s.files s.before s.locks
  pub locks : LocksOk s.units s.locks
  pub alone : AllAlone sys b s f.reading.answers
  pub frontiers : (t : ℕ) → t < sys.terminals → FrontierAt sys t (view_of sys s t) (f.frontier t)

-- all of it is known behind every run
pub known : (sys : Behaviour) (b : IsBehaviour sys) (log : List Event) → IsRun sys log → Known sys b (after sys log) (fold_after sys log)
known sys b log run = record {
  inv = kept sys b log run;
  records = records-ok sys b log run;
  locks = locks-ok sys b log run;
  alone = subst (λ (answers : ℕ → ℕ). AllAlone sys b (after sys log) answers) (sym (fold-answers sys log)) (all-alone sys b log run);
  frontiers = λ t here. subst (FrontierAt sys t (view_of sys (after sys log) t)) (sym (fold-frontier sys t log)) (frontiers sys b t here log run);
}

-- behind one entry more
pub known-next : (sys : Behaviour) (b : IsBehaviour sys) (log : List Event) → IsRun sys log → (entry : Event) → Legal sys (after sys log) entry
    → Known sys b (effect sys (after sys log) entry) (fold_on sys (after sys log) entry (fold_after sys log))
known-next sys b log run entry legal =
    subst₂ (λ (s : State) (f : Fold). Known sys b s f) (after-more sys log entry) (carried-more sys (fold_on sys) fold_starts log entry)
    (known sys b (log ++ entry ∷ []) (run-more sys log entry run legal))

-- functions that agree everywhere are one
pub same-everywhere : {A : Type 0} {f g : ℕ → A} → ((x : ℕ) → f x ≡ g x) → f ≡ g
same-everywhere agree = λ i x. agree x i

-- an entry that commits nothing leaves the committed records
pub committed-stay : (sys : Behaviour) → IsBehaviour sys → (s : State) → Inv sys s → RecordsOk sys s.files s.before s.locks → (entry : Event) → commits_at s entry ≡ false → Fits sys s entry
    → committed_files sys (effect sys s entry) ≡ committed_files sys s
committed-stay sys b s i ok entry none fits =
    let st = stays sys b s i ok entry fits in
    same-everywhere (λ f.
    same_files (sys.key_length f) (committed_files sys (effect sys s entry) f) (committed_files sys s f)
    (restored-file sys (effect sys s entry).before st.ok.images (effect sys s entry).files st.ok.are_files f) (restored-file sys s.before ok.images s.files ok.are_files f) (st.same none f))

-- where a unit of other terminals commits, a running attempt is the same one on the records behind it
module _ (sys : Behaviour) (b : IsBehaviour sys) (s after_it : State) (answers : ℕ → ℕ) (ok : RecordsOk sys s.files s.before s.locks) (locks : LocksOk s.units s.locks) (t : ℕ) (whose : ℕ → Bool) (spared : whose t ≡ false)
    (files : after_it.files ≡ s.files) (before : after_it.before ≡ filter (λ image. not (whose image.terminal)) s.before) (are : AreFiles sys (committed_files sys after_it)) where
  -- committed records that keep an attempt alone keep its refreshes
  pub same-refreshes : (unit : OpenUnit) (q : List PathAnswer) → AloneAt sys b s answers t unit q
      → (attempt sys t q (committed_files sys after_it) unit.restarts (answers t)).refreshes ≡ (attempt sys t q (committed_files sys s) unit.restarts (answers t)).refreshes
  same-refreshes unit q at =
      sym (attempts-same sys b t q unit.restarts at.start (committed_files sys s) (committed_files sys after_it) (restored-file sys s.before ok.images s.files ok.are_files) are (answers t) at.alone.is_attempt
      (agree-by-locks sys b t q unit.restarts at.start (committed_files sys s) (committed_files sys after_it) (answers t) s.locks at.alone.locked
      (λ f key locked. sym (committed-same sys s.files s.before s.locks ok locks.apart t whose spared f key locked)
      ∙ ap₂ (λ (x : List BeforeImage) (y : ℕ → List (List ℕ)). record_at (sys.key_length f) (restored_files sys.key_length x y f) key) (sym before) (sym files)))).1.refreshes
