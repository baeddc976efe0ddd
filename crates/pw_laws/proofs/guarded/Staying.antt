-- A commit that was entered stays, and guarded pairs are kept.
use Rattle.std.proofs.Common.{◌≡◌, ◌≢◌, ℕ, false, List, [], ◌∷◌, ◌++◌, refl, ap, subst, append_assoc, ◌∙◌}
use Rattle.pw_event.specs.declared.event.Ending.TheVariants as ending
use Rattle.pw_event.specs.declared.event.Event.{Event}
use Rattle.pw_event.specs.declared.event.Event.TheVariants as event
use Rattle.pw_laws.proofs.records.Committed.{records-ok}
use Rattle.pw_laws.proofs.records.Entries.{stays}
use Rattle.pw_laws.proofs.records.RecordsOk.{RecordsOk}
use Rattle.pw_laws.specs.locking.Records.{commits_at}
use Rattle.pw_onecopy.specs.Behaviour.{Behaviour}
use Rattle.pw_onecopy.specs.IsBehaviour.{IsBehaviour}
use Rattle.pw_paired.specs.State.{Gone, State, starting}
use Rattle.pw_paired.specs.Step.{IsRun, IsRunFrom, after, after_from, effect}
use Rattle.pw_paired.specs.Units.{committed_files}
use Rattle.pw_laws.proofs.Losing.{made-gone}
use Rattle.pw_laws.proofs.induction.Runs.{kept}
use Rattle.pw_laws.proofs.kept.Kept.{Inv}
use Rattle.pw_laws.proofs.kept.Runs.{keeps}
use Rattle.pw_laws.proofs.RunSteps.{IsRunFrom-split, after_from-append, run-parts}
use Rattle.pw_laws.proofs.blocks.Known.{committed-stay}
use Rattle.pw_laws.specs.serial.Guarded.{IsGuarded, NoneCommits}

-- a guarded pair is never Gone
pub guarded-kept : (sys : Behaviour) (log : List Event) → IsGuarded sys log → (p : ℕ) → (after sys log).modes p ≢ Gone
guarded-kept sys log guarded p gone = let made = made-gone sys log p gone in guarded made.before made.behind p made.primary made.k made.parts made.breaks

-- and no terminal of it is lost
pub guarded-terminals : (sys : Behaviour) (log : List Event) → IsRun sys log → IsGuarded sys log → (before behind : List Event) (t : ℕ) → ¬ (log ≡ before ++ event.End t ending.Lost ∷ behind)
guarded-terminals sys log run guarded before behind t is =
    let made = made-gone sys before (sys.pair_of t) (run-parts sys log before (event.End t ending.Lost ∷ behind) run is).1.0.fits.lost in
    guarded made.before (made.behind ++ event.End t ending.Lost ∷ behind) (sys.pair_of t) made.primary made.k
    (is ∙ (ap (λ (l : List Event). l ++ event.End t ending.Lost ∷ behind) made.parts ∙ append_assoc made.before (event.FailTcp (sys.pair_of t) made.primary made.k ∷ made.behind) (event.End t ending.Lost ∷ behind))) made.breaks

-- the committed records stay until a unit commits
stay-from : (sys : Behaviour) → IsBehaviour sys → (s : State) → Inv sys s → RecordsOk sys s.files s.before s.locks → (more : List Event) → IsRunFrom sys s more
    → ((first rest : List Event) (entry : Event) → more ≡ first ++ entry ∷ rest → commits_at (after_from sys s first) entry ≡ false)
    → committed_files sys (after_from sys s more) ≡ committed_files sys s
stay-from sys b s i ok [] run none = refl
stay-from sys b s i ok (entry ∷ more) run none =
    stay-from sys b (effect sys s entry) (keeps sys b s i entry run.0) (stays sys b s i ok entry run.0.fits).ok more run.1
    (λ first rest other is. none (entry ∷ first) rest other (ap (λ (l : List Event). entry ∷ l) is))
    ∙ committed-stay sys b s i ok entry (none [] more entry refl) run.0.fits

-- the committed records stay while nothing commits
pub records-stay : (sys : Behaviour) → IsBehaviour sys → (log more : List Event) → IsRun sys (log ++ more) → NoneCommits sys log more
    → (f : ℕ) → committed_files sys (after sys (log ++ more)) f ≡ committed_files sys (after sys log) f
records-stay sys b log more run none f =
    let parts = IsRunFrom-split sys (starting sys) log more run in
    ap (λ (s : State). committed_files sys s f) (after_from-append sys (starting sys) log more)
    ∙ ap (λ (x : ℕ → List (List ℕ)). x f)
    (stay-from sys b (after sys log) (kept sys b log parts.0) (records-ok sys b log parts.0) more parts.1
    (λ first rest entry is. subst (λ (s : State). commits_at s entry ≡ false) (after_from-append sys (starting sys) log first) (none first rest entry is)))
