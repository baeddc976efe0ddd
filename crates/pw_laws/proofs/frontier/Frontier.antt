-- What holds of a terminal beside its frontier: the longest path that it had while no attempt of it ran.
use Rattle.std.proofs.Common.{◌≡◌, ◌≢◌, ℕ, ◌+◌, ◌<◌, ◌≤◌, ◌⊎◌, false, List, [], ◌∷◌, ◌++◌, length, Option, Some, None, is_none, ◌&&◌, if◌then◌else◌}
use Rattle.std.specs.Prelude.{nat_lt}
use Rattle.pw_code.specs.declared.verb.Verb.TheVariants as verb
use Rattle.pw_laws.proofs.terms.TermOk.{HasMessages, IsRest, IsWorking}
use Rattle.pw_paired.specs.Failure.{resumed_path}
use Rattle.pw_onecopy.specs.Path.{PathAnswer, Begun, Failed, is_outside, unit_number}
use Rattle.pw_paired.specs.Raising.{is_takeover}
use Rattle.pw_paired.specs.State.{Alone, Copy, End, Gone, LastEnded, BackupCopy, Message, OpenUnit, Start}
use Rattle.pw_onecopy.specs.Behaviour.{Behaviour}
use Rattle.pw_onecopy.specs.Attempt.{BeginsUnit}
use Rattle.pw_paired.specs.Terminal.{closing_answer}
use Rattle.pw_paired.specs.Units.{attempt_of}
use Rattle.pw_laws.proofs.frontier.Leads.{Leads}
use Rattle.pw_laws.proofs.induction.Views.{View, path_in}

-- the frontier behind an entry: the path, where no attempt runs and it is longer
abbrev pub frontier_behind : View → View → List PathAnswer → List PathAnswer
frontier_behind v w frontier = if is_none (attempt_of w.unit) && nat_lt (length frontier) (length (path_in w)) then path_in w else frontier

-- The path of a running attempt: it is in the transaction that began at the frontier with Begun(r), or it is the frontier, at
-- which the program sends, until the server has a run fault.
pub data RunsFrom (sys : Behaviour) (t r : ℕ) (frontier path : List PathAnswer) : Type 0 where
  transacts : sys.ask t frontier ≡ verb.Begin → (more : List PathAnswer) → path ≡ frontier ++ Begun r ∷ more → is_outside path ≡ false
      → RunsFrom sys t r frontier path
  sends : (c : ℕ) (message : List ℕ) → sys.ask t frontier ≡ verb.Send c message → path ≡ frontier → RunsFrom sys t r frontier path
  fails : (c x : ℕ) (message : List ℕ) → sys.ask t frontier ≡ verb.Send c message → path ≡ frontier ++ Failed x ∷ [] → RunsFrom sys t r frontier path

-- where the path of a terminal stands: it leads to the frontier, is the frontier where a unit is open, and runs from it where an
-- attempt runs
abbrev pub StandsIn : Behaviour → ℕ → ℕ → Option (List PathAnswer) → List PathAnswer → List PathAnswer → Type 0
StandsIn sys t r None path frontier = path ≡ frontier
StandsIn sys t r (Some start) path frontier = RunsFrom sys t r frontier path

-- the same of an open unit, if there is one
abbrev pub Stands : Behaviour → ℕ → LastEnded → Option OpenUnit → List PathAnswer → List PathAnswer → Type 0
Stands sys t last None path frontier = Leads sys t last path frontier
Stands sys t last (Some unit) path frontier = StandsIn sys t unit.restarts unit.running path frontier

-- the frontier is a path outside transactions behind the last ended unit; an open unit begins at it
pub record IsFrontier (sys : Behaviour) (t : ℕ) (last : LastEnded) (unit : Option OpenUnit) (frontier : List PathAnswer) : Type 0 where
  pub rest : IsRest sys t frontier
  pub number : unit_number frontier ≡ last.number + 1
  pub begins : (open_unit : OpenUnit) → unit ≡ Some open_unit → BeginsUnit (sys.ask t frontier) frontier
  pub start : (path : List PathAnswer) → attempt_of unit ≡ Some path → path ≡ frontier

-- What a takeover would set by this memory leads to the frontier. An open unit has its start path there, and between units there
-- is an end path for the last ended unit alone.
pub record IsHeld (sys : Behaviour) (t : ℕ) (last : LastEnded) (unit : Option OpenUnit) (memory : BackupCopy) (frontier : List PathAnswer) : Type 0 where
  pub resumes : Leads sys t last (resumed_path memory last) frontier
  pub at_open : (open_unit : OpenUnit) → unit ≡ Some open_unit → memory.start ≡ frontier
  pub no_end : unit ≡ None → memory.unit ≢ last.number → memory.end ≡ None

-- the path closes attempt r of the unit that begins at the frontier
pub record Closes (frontier : List PathAnswer) (r : ℕ) (path : List PathAnswer) : Type 0 where
  pub more : List PathAnswer
  pub whole : path ≡ frontier ++ Begun r ∷ more

-- the attempt runs, and the path closes it at its verb
pub record IsClosing (sys : Behaviour) (t : ℕ) (unit : OpenUnit) (path closed : List PathAnswer) : Type 0 where
  pub start : List PathAnswer
  pub runs : unit.running ≡ Some start
  pub answer : PathAnswer
  pub closes : closing_answer (sys.ask t path) ≡ Some answer
  pub whole : closed ≡ path ++ answer ∷ []

-- an end path of an open unit, in memory or in flight: it closes an earlier attempt, or the running one at its verb
pub record EndsOne (sys : Behaviour) (t : ℕ) (unit : OpenUnit) (frontier path closed : List PathAnswer) : Type 0 where
  pub asks : sys.ask t frontier ≡ verb.Begin
  pub attempt : ℕ
  pub closes : Closes frontier attempt closed
  pub which : (attempt < unit.restarts) ⊎ ((attempt ≡ unit.restarts) × IsClosing sys t unit path closed)

-- an END in flight is of an open unit, and of a later attempt than the end path in memory
pub record EndFlies (sys : Behaviour) (t : ℕ) (unit : Option OpenUnit) (memory : Option BackupCopy) (frontier path closed : List PathAnswer) : Type 0 where
  pub open_unit : OpenUnit
  pub is_open : unit ≡ Some open_unit
  pub ends : EndsOne sys t open_unit frontier path closed
  pub later : (held : BackupCopy) (old : List PathAnswer) → memory ≡ Some held → held.end ≡ Some old → (r : ℕ) × Closes frontier r old × (r < ends.attempt)

-- a message in flight: a COPY leads to the frontier, and is it where a unit is open
abbrev pub IsFlying : Behaviour → ℕ → LastEnded → Option OpenUnit → Option BackupCopy → List PathAnswer → List PathAnswer → Message → Type 0
IsFlying sys t last unit memory frontier path (Start n p) = Unit {0}
IsFlying sys t last unit memory frontier path (Copy n p) = Leads sys t last p frontier × ((open_unit : OpenUnit) → unit ≡ Some open_unit → p ≡ frontier)
IsFlying sys t last unit memory frontier path (End p) = EndFlies sys t unit memory frontier path p

-- all of it
pub record FrontierOk (sys : Behaviour) (t : ℕ) (v : View) (frontier : List PathAnswer) : Type 0 where
  pub base : IsFrontier sys t v.last v.unit frontier
  pub short : attempt_of v.unit ≡ None → length (path_in v) ≤ length frontier
  pub stands : IsWorking v.mode → is_takeover v.term.pending ≡ false → Stands sys t v.last v.unit (path_in v) frontier
  pub held : (memory : BackupCopy) → v.memory ≡ Some memory → IsHeld sys t v.last v.unit memory frontier
  pub ends : HasMessages v.mode → (unit : OpenUnit) (memory : BackupCopy) (closed : List PathAnswer) → v.unit ≡ Some unit → v.memory ≡ Some memory
      → memory.end ≡ Some closed → EndsOne sys t unit frontier (path_in v) closed
  pub flies : (message : Message) → v.flight ≡ Some message → IsFlying sys t v.last v.unit v.memory frontier (path_in v) message
  pub alone : v.mode ≡ Alone → v.memory ≡ None

-- while the terminal is live and its pair is not lost
abbrev pub FrontierAt : Behaviour → ℕ → View → List PathAnswer → Type 0
FrontierAt sys t v frontier = v.term.ending ≡ None → v.mode ≢ Gone → FrontierOk sys t v frontier
