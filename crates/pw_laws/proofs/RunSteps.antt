-- A log in two parts: its runs and the states behind them.
use Rattle.std.proofs.Common.{◌≡◌, List, [], ◌∷◌, ◌++◌, true, refl, sym, subst, ◌∙◌}
use Rattle.std.specs.Prelude.{◌↔◌}
use Rattle.std.proofs.lemmas.Bool.{true≢false}
use Rattle.pw_event.specs.declared.event.Event.{Event}
use Rattle.pw_onecopy.specs.Behaviour.{Behaviour}
use Rattle.pw_paired.specs.State.{State, starting}
use Rattle.pw_paired.specs.Step.{IsRun, IsRunFrom, Legal, Steps, after, after_from, effect, is_finished}

-- the state behind two parts of a log
pub after_from-append : (sys : Behaviour) (s : State) (log more : List Event) → after_from sys s (log ++ more) ≡ after_from sys (after_from sys s log) more
after_from-append sys s [] more = refl
after_from-append sys s (entry ∷ log) more = after_from-append sys (effect sys s entry) log more

-- two parts that are runs one behind the other are one run
pub IsRunFrom-append : (sys : Behaviour) (s : State) (log more : List Event) → IsRunFrom sys s log → IsRunFrom sys (after_from sys s log) more → IsRunFrom sys s (log ++ more)
IsRunFrom-append sys s [] more run rest = rest
IsRunFrom-append sys s (entry ∷ log) more run rest = (run.0, IsRunFrom-append sys (effect sys s entry) log more run.1 rest)

-- a run in two parts is a run in each
pub IsRunFrom-split : (sys : Behaviour) (s : State) (log more : List Event) → IsRunFrom sys s (log ++ more) → IsRunFrom sys s log × IsRunFrom sys (after_from sys s log) more
IsRunFrom-split sys s [] more run = (tt, run)
IsRunFrom-split sys s (entry ∷ log) more run = let rest = IsRunFrom-split sys (effect sys s entry) log more run.1 in ((run.0, rest.0), rest.1)

-- so is a run that is written in two parts
pub run-parts : (sys : Behaviour) (log before rest : List Event) → IsRun sys log → log ≡ before ++ rest
    → IsRun sys before × IsRunFrom sys (after sys before) rest
run-parts sys log before rest run is = IsRunFrom-split sys (starting sys) before rest (subst (IsRun sys) is run)

-- a run one entry longer is a run and a step behind it
pub one-more : (sys : Behaviour) (log : List Event) (entry : Event)
    → IsRun sys (log ++ entry ∷ []) ↔ (IsRun sys log × Steps sys (after sys log) entry (after sys (log ++ entry ∷ [])))
one-more sys log entry = (
  λ run.
      let parts = IsRunFrom-split sys (starting sys) log (entry ∷ []) run in
      (parts.0, record { legal = parts.1.0; is_next = after_from-append sys (starting sys) log (entry ∷ []) }),
  λ both. IsRunFrom-append sys (starting sys) log (entry ∷ []) both.0 (both.1.legal, tt),
)

-- a finished log has no step
pub finished-stops : (sys : Behaviour) (state : State) (entry : Event) → is_finished sys state ≡ true → ¬ Legal sys state entry
finished-stops sys state entry is legal = absurd (true≢false (sym is ∙ legal.unfinished))
