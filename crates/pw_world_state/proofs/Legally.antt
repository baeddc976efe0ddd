-- In every run an entry is legal exactly where its test passes, the log is not finished and the failure line that is due
-- is its own.
use Rattle.std.proofs.Common.{◌≡◌, ℕ, ◌&&◌, List, Bool, true, false, not, refl, sym, ◌∙◌}
use Rattle.pw_code.specs.Valid.{IsValid}
use Rattle.pw_code.specs.declared.system.System.{System}
use Rattle.pw_event.specs.declared.event.Event.{Event}
use Rattle.pw_event.specs.declared.script.FailLine.{FailLine}
use Rattle.pw_code_meaning.specs.OfSystem.{behaviour}
use Rattle.pw_world_state.specs.Kept.{Kept}
use Rattle.pw_world_state.specs.May.{IsThere, may}
use Rattle.pw_world_state.specs.Read.{AreValued, IsEntryRead}
use Rattle.pw_world_state.specs.Stands.{Stands}
use Rattle.pw_world_state.proofs.Mays.{may-same}
use Rattle.pw_laws.specs.legal.Legality as test
use Rattle.pw_laws.specs.legal.Values.{is_same_number}
use Rattle.pw_laws.proofs.decided.Legality as decided
use Rattle.pw_laws.proofs.decided.Values.{same_number}
use Rattle.pw_onecopy.specs.Behaviour.{Behaviour}
use Rattle.pw_onecopy.specs.IsBehaviour.{IsBehaviour}
use Rattle.pw_paired.specs.State.{State}
use Rattle.pw_paired.specs.Step.{IsRun, Legal, after, is_finished, line_due, line_wanted}

all-three : (f s x : Bool) → f ≡ false → s ≡ true → x ≡ true → (not f && (s && x)) ≡ true
all-three false true true unfinished due fits = refl
all-three false true false unfinished due fits = fits
all-three false false x unfinished due fits = due
all-three true s x unfinished due fits = absurd (cc unfinished)

third : (f s x : Bool) → (not f && (s && x)) ≡ true → x ≡ true
third false true x e = e
third false false x e = absurd (cc e)
third true s x e = absurd (cc e)

-- the test of legality by its parts
test-is : (sys : Behaviour) (state : State) (entry : Event) → is_finished sys state ≡ false → line_due sys state entry ≡ line_wanted entry → test.fits sys state entry ≡ true → test.is_legal sys state entry ≡ true
unfolding test.is_legal
test-is sys state entry unfinished due fits =
    all-three (is_finished sys state) (is_same_number (line_due sys state entry) (line_wanted entry)) (test.fits sys state entry) unfinished ((same_number (line_due sys state entry) (line_wanted entry)).1 due) fits

fits-is : (sys : Behaviour) (state : State) (entry : Event) → test.is_legal sys state entry ≡ true → test.fits sys state entry ≡ true
unfolding test.is_legal
fits-is sys state entry e = third (is_finished sys state) (is_same_number (line_due sys state entry) (line_wanted entry)) (test.fits sys state entry) e

pub may-legal : (system : System) (script : List FailLine) (log : List Event) (kept : Kept) (entry : Event) → IsValid system → IsBehaviour (behaviour script system) → IsRun (behaviour script system) log
    → Stands system script (after (behaviour script system) log) kept → IsThere system entry → IsEntryRead system kept entry → AreValued system kept entry
    → is_finished (behaviour script system) (after (behaviour script system) log) ≡ false → line_due (behaviour script system) (after (behaviour script system) log) entry ≡ line_wanted entry
    → may system script kept entry ≡ true → Legal (behaviour script system) (after (behaviour script system) log) entry
may-legal system script log kept entry valid b run stands there read fit unfinished due passes =
    (decided.legal (behaviour script system) b log run entry).0
    (test-is (behaviour script system) (after (behaviour script system) log) entry unfinished due (sym (may-same system script valid b log run kept stands entry there read fit) ∙ passes))

pub legal-may : (system : System) (script : List FailLine) (log : List Event) (kept : Kept) (entry : Event) → IsValid system → IsBehaviour (behaviour script system) → IsRun (behaviour script system) log
    → Stands system script (after (behaviour script system) log) kept → IsThere system entry → IsEntryRead system kept entry → AreValued system kept entry
    → Legal (behaviour script system) (after (behaviour script system) log) entry → may system script kept entry ≡ true
legal-may system script log kept entry valid b run stands there read fit legal =
    may-same system script valid b log run kept stands entry there read fit
    ∙ fits-is (behaviour script system) (after (behaviour script system) log) entry ((decided.legal (behaviour script system) b log run entry).1 legal)
