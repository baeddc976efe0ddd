-- What failures leave in a log: pairs that are lost, and terminals that are lost or suspended.
use Rattle.std.specs.Prelude.{◌≡◌, ◌↔◌, ◌<◌, ℕ, true, List, ◌∷◌, ◌++◌}
use Rattle.std.specs.List.{Contains}
use Rattle.pw_event.specs.declared.event.Cause.{Cause}
use Rattle.pw_event.specs.declared.event.Ending.{Ending}
use Rattle.pw_event.specs.declared.event.Ending.TheVariants.{Lost, Suspended}
use Rattle.pw_event.specs.declared.event.Event.{Event}
use Rattle.pw_event.specs.declared.event.Event.TheVariants.{End, Restart}
use Rattle.pw_laws.specs.progress.Running.{MadeGone, restarts_in}
use Rattle.pw_onecopy.specs.Behaviour.{Behaviour}
use Rattle.pw_paired.specs.Failure.{IsCaused}
use Rattle.pw_paired.specs.State.{Gone, OpenUnit, starting}
use Rattle.pw_paired.specs.Step.{after, is_finished}
use Rattle.pw_paired.specs.Terminal.{IsLive}

-- Pairs are lost by failures alone and stay lost; the terminals of a lost pair, and no others, end
-- as Lost.
pub record Losses (sys : Behaviour) (log : List Event) : Type 0 where
  -- a pair is Gone exactly behind a FAIL TCP entry that made it so
  pub gone : (before rest : List Event) (p : ℕ) → log ≡ before ++ rest
      → ((after sys before).modes p ≡ Gone) ↔ MadeGone sys (starting sys) before p
  -- a terminal ends as Lost exactly where its pair is Gone
  pub ends : (before rest : List Event) (t : ℕ) (ending : Ending)
      → log ≡ before ++ End t ending ∷ rest
      → (ending ≡ Lost) ↔ ((after sys before).modes (sys.pair_of t) ≡ Gone)
  -- where the log is finished each terminal that was live in a pair that is Gone has ended so
  pub finished : is_finished sys (after sys log) ≡ true
      → (before rest : List Event) (t : ℕ) → log ≡ before ++ rest
      → (after sys before).modes (sys.pair_of t) ≡ Gone → IsLive sys (after sys before) t
      → Contains rest (End t Lost)

-- an attempt of unit n of the terminal runs behind the log, and the cause holds for it
abbrev pub HasCause : Behaviour → List Event → ℕ → ℕ → Cause → Type 0
HasCause sys log t n cause = (unit : OpenUnit) × IsCaused sys (after sys log) t n cause unit

-- A unit restarts, and at last its terminal is suspended, only for causes that hold there.
pub record Suspensions (sys : Behaviour) (log : List Event) : Type 0 where
  -- at a RESTART the unit has fewer of them than MAXTMFRESTARTS permits
  pub restarts : (before rest : List Event) (t n : ℕ) (cause : Cause)
      → log ≡ before ++ Restart t n cause ∷ rest
      → HasCause sys before t n cause × (restarts_in t n before < sys.max_restarts t)
  -- at an END SUSPENDED the unit has exactly as many
  pub suspends : (before rest : List Event) (t : ℕ) (cause : Cause)
      → log ≡ before ++ End t (Suspended cause) ∷ rest
      → (n : ℕ) × HasCause sys before t n cause × (restarts_in t n before ≡ sys.max_restarts t)
