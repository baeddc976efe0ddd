-- What the laws of progress speak of: restarts so far, running attempts, steps, and pairs that are
-- lost.
use Rattle.std.specs.Prelude.{◌≡◌, ◌++◌, ℕ, List, ◌∷◌, length, filter, Bool, false, ◌&&◌, ◌==◌, Option, Some}
use Rattle.pw_event.specs.declared.event.Event.{Event}
use Rattle.pw_event.specs.declared.event.Event.TheVariants.{FailTcp, Restart}
use Rattle.pw_onecopy.specs.Behaviour.{Behaviour}
use Rattle.pw_onecopy.specs.Path.{PathAnswer}
use Rattle.pw_paired.specs.State.{OpenUnit, State}
use Rattle.pw_paired.specs.Step.{Legal, after_from}
use Rattle.pw_laws.specs.runs.Losses.{Breaks}

-- an attempt of the open unit runs
pub record Runs (open_unit : Option OpenUnit) : Type 0 where
  pub unit : OpenUnit
  pub is_open : open_unit ≡ Some unit
  pub start : List PathAnswer
  pub runs : unit.running ≡ Some start

-- an entry is legal in the state
pub record HasStep (sys : Behaviour) (state : State) : Type 0 where
  pub entry : Event
  pub legal : Legal sys state entry

-- the entry is a restart of unit n of the terminal
abbrev pub is_restart_of : ℕ → ℕ → Event → Bool
is_restart_of t n (Restart own number cause) = own == t && number == n
is_restart_of t n _ = false

-- how many restarts of unit n of the terminal the log has
abbrev pub restarts_in : ℕ → ℕ → List Event → ℕ
restarts_in t n log = length (filter (is_restart_of t n) log)

-- The log has a FAIL TCP entry that made the pair Gone.
pub record MadeGone (sys : Behaviour) (state : State) (log : List Event) (p : ℕ) : Type 0 where
  pub before : List Event
  pub primary : Bool
  pub k : ℕ
  pub behind : List Event
  pub parts : log ≡ before ++ FailTcp p primary k ∷ behind
  pub breaks : Breaks primary ((after_from sys state before).modes p)

-- unit m of the terminal is open
pub record IsUnitOpen (state : State) (t m : ℕ) : Type 0 where
  pub unit : OpenUnit
  pub is_open : state.units t ≡ Some unit
  pub number : unit.number ≡ m
