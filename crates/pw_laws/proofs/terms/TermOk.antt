-- What each state of a run keeps of a terminal: its last ended unit, its open unit, its path, and what its backup holds.
use Rattle.std.proofs.Common.{◌≡◌, ℕ, ◌+◌, ◌<◌, ◌≤◌, ◌⊎◌, true, false, List, Option, Some, None}
use Rattle.pw_code.specs.declared.verb.Verb.TheVariants as verb
use Rattle.pw_onecopy.specs.Attempt.{BeginsUnit}
use Rattle.pw_onecopy.specs.Behaviour.{Behaviour}
use Rattle.pw_onecopy.specs.IsBehaviour.{IsPath}
use Rattle.pw_onecopy.specs.Path.{PathAnswer, is_outside, unit_number}
use Rattle.pw_paired.specs.Raising.{is_takeover}
use Rattle.pw_paired.specs.State.{PairMode, Alone, Raising, Paired, Down, Gone, BackupCopy, Message, Start, End, Copy, OpenUnit, State, Term}
use Rattle.pw_paired.specs.Terminal.{HoldsStart}
use Rattle.pw_paired.specs.Units.{attempt_of}

-- a path outside transactions that a program may have
pub record IsRest (sys : Behaviour) (t : ℕ) (path : List PathAnswer) : Type 0 where
  pub is_path : IsPath sys t path
  pub outside : is_outside path ≡ true

-- an open unit is the next one behind the last ended one, and an attempt of it began at its number
pub record UnitOk (sys : Behaviour) (t last : ℕ) (unit : OpenUnit) : Type 0 where
  pub number : unit.number ≡ last + 1
  pub start : (path : List PathAnswer) → unit.running ≡ Some path → IsRest sys t path × (unit_number path ≡ last + 1)

-- memory is of the last ended unit or of the next one
pub record MemoryOk (sys : Behaviour) (t last : ℕ) (memory : BackupCopy) : Type 0 where
  pub start : IsRest sys t memory.start
  pub number : unit_number memory.start ≡ memory.unit
  pub low : last ≤ memory.unit
  pub high : memory.unit ≤ last + 1
  pub end : (path : List PathAnswer) → memory.end ≡ Some path → IsRest sys t path × (unit_number path ≡ memory.unit + 1)

-- a START comes before its unit begins, a COPY while memory lacks the terminal, and an END behind memory's unit
abbrev pub FlightOk : Behaviour → ℕ → ℕ → Option OpenUnit → Option BackupCopy → List PathAnswer → Message → Type 0
FlightOk sys t last unit memory path (Start n p) =
    (IsRest sys t p × (unit_number p ≡ n) × (n ≡ last + 1)) × (attempt_of unit ≡ None) × (path ≡ p) × BeginsUnit (sys.ask t p) p × (¬ HoldsStart memory n p)
FlightOk sys t last unit memory path (Copy n p) =
    (IsRest sys t p × (unit_number p ≡ n) × (last ≤ n) × (n ≤ last + 1)) × (memory ≡ None) × ((open_unit : OpenUnit) → unit ≡ Some open_unit → n ≡ open_unit.number)
FlightOk sys t last unit memory path (End p) =
    (held : BackupCopy) × (memory ≡ Some held) × IsRest sys t p × (unit_number p ≡ held.unit + 1)

-- a member works, so that the terminals have paths
abbrev pub IsWorking : PairMode → Type 0
IsWorking Alone = Unit {0}
IsWorking Raising = Unit {0}
IsWorking Paired = Unit {0}
IsWorking Down = ⊥
IsWorking Gone = ⊥

-- the backup has every live terminal
abbrev pub HasMemory : PairMode → Type 0
HasMemory Alone = ⊥
HasMemory Raising = ⊥
HasMemory Paired = Unit {0}
HasMemory Down = Unit {0}
HasMemory Gone = ⊥

-- there may be messages in flight
abbrev pub HasMessages : PairMode → Type 0
HasMessages Alone = ⊥
HasMessages Raising = Unit {0}
HasMessages Paired = Unit {0}
HasMessages Down = ⊥
HasMessages Gone = ⊥

-- a pair with a backup works
pub messages-work : (mode : PairMode) → HasMessages mode → IsWorking mode
messages-work Alone has = tt
messages-work Raising has = tt
messages-work Paired has = tt
messages-work Down has = absurd has
messages-work Gone has = absurd has

-- the path of a running attempt: it is in the transaction, or waits for the reply of one SEND, or has a run fault
pub record RunningPath (sys : Behaviour) (t last : ℕ) (path : List PathAnswer) : Type 0 where
  pub is_path : IsPath sys t path
  pub number : unit_number path ≡ last + 1
  pub within : (is_outside path ≡ false) ⊎ (((c : ℕ) × (message : List ℕ) × (sys.ask t path ≡ verb.Send c message)) ⊎ ((x : ℕ) × (sys.ask t path ≡ verb.Fault x)))

-- the path of a terminal without a running attempt, by the number of units ended
pub record RestingPath (sys : Behaviour) (t low high : ℕ) (path : List PathAnswer) : Type 0 where
  pub rest : IsRest sys t path
  pub low_is : low ≤ unit_number path
  pub high_is : unit_number path ≤ high

-- the path of a terminal, by its open unit
abbrev pub PathOf : Behaviour → ℕ → ℕ → Option (List PathAnswer) → List PathAnswer → Type 0
PathOf sys t last None path = RestingPath sys t (last + 1) (last + 1) path
PathOf sys t last (Some start) path = RunningPath sys t last path

-- of a terminal with its open unit
abbrev pub PathOk : Behaviour → ℕ → ℕ → Option OpenUnit → List PathAnswer → Type 0
PathOk sys t last None path = RestingPath sys t last (last + 1) path
PathOk sys t last (Some unit) path = PathOf sys t last unit.running path

-- what holds of a terminal
pub record TermOk (sys : Behaviour) (t last : ℕ) (unit : Option OpenUnit) (memory : Option BackupCopy) (flight : Option Message) (term : Term) (mode : PairMode) : Type 0 where
  pub unit_ok : (open_unit : OpenUnit) → unit ≡ Some open_unit → UnitOk sys t last open_unit
  pub memory_ok : (held : BackupCopy) → memory ≡ Some held → MemoryOk sys t last held
  pub memory_unit : (held : BackupCopy) (open_unit : OpenUnit) → memory ≡ Some held → unit ≡ Some open_unit → held.unit ≡ open_unit.number
  pub flight_ok : (message : Message) → flight ≡ Some message → FlightOk sys t last unit memory term.path message
  pub quiet : (¬ HasMessages mode) → flight ≡ None
  pub lost : mode ≡ Gone → unit ≡ None
  pub has_memory : term.ending ≡ None → HasMemory mode → (held : BackupCopy) × (memory ≡ Some held)
  pub calm : HasMessages mode → is_takeover term.pending ≡ false
  pub path_ok : term.ending ≡ None → IsWorking mode → is_takeover term.pending ≡ false → PathOk sys t last unit term.path

-- it holds of each started terminal
abbrev pub TermsOk : Behaviour → State → Type 0
TermsOk sys state =
    (t : ℕ) → t < sys.terminals
    → TermOk sys t (state.ended t).number (state.units t) (state.memory t) (state.flight t) (state.terms t) (state.modes (sys.pair_of t))

-- the same of equal parts
pub TermOk-same : {sys : Behaviour} {t last last' : ℕ} {unit unit' : Option OpenUnit} {memory memory' : Option BackupCopy} {flight flight' : Option Message} {term term' : Term} {mode mode' : PairMode}
    → last' ≡ last → unit' ≡ unit → memory' ≡ memory → flight' ≡ flight → term' ≡ term → mode' ≡ mode
    → TermOk sys t last unit memory flight term mode → TermOk sys t last' unit' memory' flight' term' mode'
TermOk-same l u m f x o ok = rw (l, u, m, f, x, o) ok
