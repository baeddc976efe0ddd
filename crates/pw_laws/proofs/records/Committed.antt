-- The committed records of a run: they are files, and change at a commit alone.
use Rattle.std.proofs.Common.{◌≡◌, ℕ, false, List, [], ◌∷◌, ◌++◌, ap, ◌∙◌}
use Rattle.std.proofs.lemmas.Bool.{false≢true}
use Rattle.pw_event.specs.declared.event.Event.{Event}
use Rattle.pw_files.specs.Records.{IsFile}
use Rattle.pw_laws.proofs.records.Entries.{stays}
use Rattle.pw_laws.proofs.records.Images.{restored-file}
use Rattle.pw_laws.proofs.records.RecordsOk.{RecordsOk}
use Rattle.pw_laws.proofs.seeing.SameFiles.{same_files}
use Rattle.pw_laws.specs.locking.Records.{commits_at}
use Rattle.pw_onecopy.specs.Behaviour.{Behaviour}
use Rattle.pw_onecopy.specs.IsBehaviour.{IsBehaviour}
use Rattle.pw_paired.specs.State.{State, starting}
use Rattle.pw_paired.specs.Step.{IsRun, after, effect}
use Rattle.pw_paired.specs.Units.{committed_files}
use Rattle.pw_laws.proofs.RunSteps.{after_from-append, IsRunFrom-split}
use Rattle.pw_laws.proofs.induction.Runs.{holds-behind, kept}

-- records are in order at the start
pub records-at-start : (sys : Behaviour) → IsBehaviour sys → RecordsOk sys (starting sys).files (starting sys).before (starting sys).locks
records-at-start sys b = record {
  are_files = b.files;
  images = tt;
  locked = λ t f key there. absurd (false≢true there);
  single = λ t o f key there other. absurd (false≢true there);
}

-- and behind every run
pub records-ok : (sys : Behaviour) → IsBehaviour sys → (log : List Event) → IsRun sys log → RecordsOk sys (after sys log).files (after sys log).before (after sys log).locks
records-ok sys b log run =
    holds-behind sys (λ s. RecordsOk sys s.files s.before s.locks) (λ log run entry legal ok. (stays sys b (after sys log) (kept sys b log run) ok entry legal.fits).ok)
    (records-at-start sys b) log run

committed-file : (sys : Behaviour) (s : State) → RecordsOk sys s.files s.before s.locks → (f : ℕ) → IsFile (sys.key_length f) (committed_files sys s f)
committed-file sys s ok f = restored-file sys s.before ok.images s.files ok.are_files f

-- committed records are files in every run
pub are-files : (sys : Behaviour) → IsBehaviour sys → (log : List Event) → IsRun sys log → (f : ℕ) → IsFile (sys.key_length f) (committed_files sys (after sys log) f)
are-files sys b log run f = committed-file sys (after sys log) (records-ok sys b log run) f

-- they change only where a unit commits
pub commits-alone : (sys : Behaviour) → IsBehaviour sys → (log : List Event) (entry : Event) → IsRun sys (log ++ entry ∷ []) → commits_at (after sys log) entry ≡ false
    → (f : ℕ) → committed_files sys (after sys (log ++ entry ∷ [])) f ≡ committed_files sys (after sys log) f
commits-alone sys b log entry run none f =
    let parts = IsRunFrom-split sys (starting sys) log (entry ∷ []) run in
    let i = kept sys b log parts.0 in
    let ok = records-ok sys b log parts.0 in
    let st = stays sys b (after sys log) i ok entry parts.1.0.fits in
    ap (λ (s : State). committed_files sys s f) (after_from-append sys (starting sys) log (entry ∷ []))
    ∙ same_files (sys.key_length f) (committed_files sys (effect sys (after sys log) entry) f) (committed_files sys (after sys log) f)
    (committed-file sys (effect sys (after sys log) entry) st.ok f) (committed-file sys (after sys log) ok f) (st.same none f)
