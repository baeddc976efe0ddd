-- The one induction over runs: what the start has and each entry keeps holds behind every run.
use Rattle.std.proofs.Common.{◌≡◌, List, [], ◌∷◌, ◌++◌, refl, sym, subst₂}
use Rattle.pw_event.specs.declared.event.Event.{Event}
use Rattle.pw_onecopy.specs.Behaviour.{Behaviour}
use Rattle.pw_onecopy.specs.IsBehaviour.{IsBehaviour}
use Rattle.pw_paired.specs.State.{State, starting}
use Rattle.pw_paired.specs.Step.{IsRun, IsRunFrom, Legal, after, after_from, effect}
use Rattle.pw_laws.proofs.RunSteps.{IsRunFrom-append, after_from-append}
use Rattle.pw_laws.proofs.kept.Kept.{Inv}
use Rattle.pw_laws.proofs.kept.Runs.{kept-at-start, kept-from}

-- what every state of a run of a deck keeps
pub kept : (sys : Behaviour) → IsBehaviour sys → (log : List Event) → IsRun sys log → Inv sys (after sys log)
kept sys b log run = kept-from sys b (starting sys) (kept-at-start sys) log run

-- the state behind one entry more
pub after-more : (sys : Behaviour) (log : List Event) (entry : Event) → after sys (log ++ entry ∷ []) ≡ effect sys (after sys log) entry
after-more sys log entry = after_from-append sys (starting sys) log (entry ∷ [])

-- a run with one legal entry more
pub run-more : (sys : Behaviour) (log : List Event) (entry : Event) → IsRun sys log → Legal sys (after sys log) entry → IsRun sys (log ++ entry ∷ [])
run-more sys log entry run legal = IsRunFrom-append sys (starting sys) log (entry ∷ []) run (legal, tt)

module _ (sys : Behaviour) {A : Type 0} (next : State → Event → A → A) where
  -- what is computed beside the log behind more entries: a reading, frontiers, the machine so far
  abbrev pub carried_from : State → A → List Event → A
  carried_from s a [] = a
  carried_from s a (entry ∷ log) = carried_from (effect sys s entry) (next s entry a) log

  -- the same behind two parts of a log
  pub carried_from-append : (s : State) (a : A) (log more : List Event)
      → carried_from s a (log ++ more) ≡ carried_from (after_from sys s log) (carried_from s a log) more
  carried_from-append s a [] more = refl
  carried_from-append s a (entry ∷ log) more = carried_from-append (effect sys s entry) (next s entry a) log more

  -- the same behind a log
  abbrev pub carried : A → List Event → A
  carried start = carried_from (starting sys) start

  -- the same behind one entry more
  pub carried-more : (start : A) (log : List Event) (entry : Event)
      → carried start (log ++ entry ∷ []) ≡ next (after sys log) entry (carried start log)
  carried-more start log entry = carried_from-append (starting sys) start log (entry ∷ [])

-- A property of the state and of what is computed beside the log, which each legal entry behind a run keeps.
module _ (sys : Behaviour) {A : Type 0} (next : State → Event → A → A) (start : A) (P : State → A → Type 0)
    (keeps : (log : List Event) → IsRun sys log → (entry : Event) → Legal sys (after sys log) entry
    → P (after sys log) (carried sys next start log)
    → P (effect sys (after sys log) entry) (next (after sys log) entry (carried sys next start log))) where
  along : (log : List Event) → IsRun sys log → P (after sys log) (carried sys next start log) → (more : List Event)
      → IsRunFrom sys (after sys log) more
      → P (after_from sys (after sys log) more) (carried_from sys next (after sys log) (carried sys next start log) more)
  along log run now [] rest = now
  along log run now (entry ∷ more) rest =
      let longer : List Event = log ++ entry ∷ [] in
      subst₂ (λ (s : State) (a : A). IsRunFrom sys s more → P (after_from sys s more) (carried_from sys next s a more))
      (after-more sys log entry) (carried-more sys next start log entry)
      (along longer (run-more sys log entry run rest.0)
      (subst₂ P (sym (after-more sys log entry)) (sym (carried-more sys next start log entry)) (keeps log run entry rest.0 now)) more)
      rest.1

  -- it holds behind every run where the start has it
  pub behind-runs : P (starting sys) start → (log : List Event) → IsRun sys log → P (after sys log) (carried sys next start log)
  behind-runs first log run = along [] tt first log run

-- the same of a property of the state alone
pub holds-behind : (sys : Behaviour) (P : State → Type 0)
    → ((log : List Event) → IsRun sys log → (entry : Event) → Legal sys (after sys log) entry → P (after sys log) → P (effect sys (after sys log) entry))
    → P (starting sys) → (log : List Event) → IsRun sys log → P (after sys log)
holds-behind sys P keeps first log run = behind-runs sys {A = Unit {0}} (λ s entry a. tt) tt (λ s a. P s) keeps first log run
