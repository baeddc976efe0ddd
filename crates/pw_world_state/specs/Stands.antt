-- What is kept stands for a state of the paired system, component by component.
use Rattle.std.specs.Prelude.{◌≡◌, ℕ, ◌<◌, ◌≤◌, Bool, true, false, List, [], map, length, All, IsSome, Option, Some, None, is_some, slice_get}
use Rattle.std.specs.List.{list_any}
use Rattle.pw_class.specs.Queue.{Queue}
use Rattle.pw_code.specs.declared.context.Context.{Context}
use Rattle.pw_code.specs.declared.system.ClassInfo.{ClassInfo}
use Rattle.pw_code.specs.declared.system.System.{System}
use Rattle.pw_code.specs.declared.system.TermInfo.{TermInfo}
use Rattle.pw_event.specs.declared.script.FailLine.{FailLine}
use Rattle.pw_code_meaning.specs.OfSystem.{behaviour, file_told}
use Rattle.pw_code_meaning.specs.Runs.{StandsForFiles}
use Rattle.pw_image.specs.Format.{IsImageOf}
use Rattle.pw_world_state.specs.Arrivals.{IsReady, StandsForPath}
use Rattle.pw_world_state.specs.Kept.{Kept, KeptTerminal}
use Rattle.pw_onecopy.specs.Path.{PathAnswer}
use Rattle.pw_pair.specs.Bodies.{image_in}
use Rattle.pw_pair.specs.Follows.{IsUnitIn, has_flights, check_kind_of, mode_as, path_in}
use Rattle.pw_pair.specs.Pairs.{SeenPair}
use Rattle.pw_pair.specs.Seats.{is_seat_of, start_of}
use Rattle.pw_pair.specs.declared.backup.Held.{Held}
use Rattle.pw_pair.specs.declared.seat.Flight.{Flight}
use Rattle.pw_pair.specs.declared.seat.BackupSeat.{BackupSeat}
use Rattle.pw_paired.specs.Queues.{queue_of}
use Rattle.pw_paired.specs.State.{PairMode, Alone, Raising, Paired, Down, Gone, BackupCopy, Class, Job, Message, OpenUnit, State, Term}
use Rattle.pw_paired.specs.Terminal.{awaited_of}
use Rattle.pw_paired.specs.Units.{attempt_of, restarts_of}
use Rattle.pw_tmf.specs.Tells.{Tells}

-- ---- words

-- both are missing, or both are there and the second stands for the first
abbrev pub StandsIfAny : {A B : Type 0} → (A → B → Type 0) → Option A → Option B → Type 0
StandsIfAny Fits None None = Unit {0}
StandsIfAny Fits (Some a) (Some b) = Fits a b
StandsIfAny Fits _ _ = ⊥

-- a member of a pair works
abbrev pub works : PairMode → Bool
works Alone = true
works Raising = true
works Paired = true
works Down = false
works Gone = false

-- ---- paths

-- the bytes are the image of a context that stands for a path of the terminal
pub record IsPathImage (system : System) (terminal : TermInfo) (path : List PathAnswer)
    (bytes : List ℕ) : Type 0 where
  pub context : Context
  pub stands : StandsForPath system terminal path context
  pub is_image : IsImageOf bytes context

-- ---- terminals

-- where there is a context it stands for the path; where there is none the path is empty
abbrev pub StandsForKnown : System → TermInfo → List PathAnswer → Option Context → Type 0
StandsForKnown system terminal path None = path ≡ []
StandsForKnown system terminal path (Some context) = StandsForPath system terminal path context

-- where it has run on, it stands at the verb behind the path
abbrev pub IsReadyIfAny : System → TermInfo → List PathAnswer → Option Context → Type 0
IsReadyIfAny system terminal path None = Unit {0}
IsReadyIfAny system terminal path (Some context) = IsReady system terminal path context

-- What is kept of a terminal stands for its path, its open unit, its cause and its ending. While a
-- member of its pair works, a terminal that goes on has a context; and the attempt that runs always
-- has that of its start path.
pub record StandsForTerminal (system : System) (terminal : TermInfo) (at : PairMode) (term : Term)
    (unit : Option OpenUnit) (kept : KeptTerminal) : Type 0 where
  pub path : StandsForKnown system terminal term.path kept.context
  pub ready : IsReadyIfAny system terminal term.path kept.ready
  pub there : works at ≡ true → term.ending ≡ None → IsSome kept.context
  pub start : StandsIfAny (StandsForPath system terminal) (attempt_of unit) kept.start
  pub restarts : kept.restarts ≡ restarts_of unit
  pub awaits : kept.awaits ≡ awaited_of unit
  pub pending : kept.pending ≡ term.pending
  pub ending : kept.ending ≡ term.ending

-- ---- classes

-- a context stands for a server at work
abbrev pub StandsForJob : System → ClassInfo → Job → Context → Type 0
StandsForJob system class job context =
    StandsForFiles system class.server job.request.message (map file_told job.done) context

-- the book has the requests of the class, and each of its processes that works has a context
pub record StandsForClass (system : System) (info : ClassInfo) (class : Class) (queue : Queue)
    (jobs : ℕ → Option Context) : Type 0 where
  pub queue_is : queue ≡ queue_of info.processes class
  pub works_on : (i : ℕ) → StandsIfAny (StandsForJob system info) (class.busy i) (jobs i)
  pub within : (i : ℕ) → IsSome (class.busy i) → (1 ≤ i) × (i ≤ info.processes)

-- ---- pairs

-- what is held of a terminal: the same unit, and images for the paths
pub record StandsForHeld (system : System) (terminal : TermInfo) (copy : BackupCopy)
    (held : Held) : Type 0 where
  pub unit : held.unit ≡ copy.unit
  pub start : IsPathImage system terminal copy.start held.start
  pub end : StandsIfAny (IsPathImage system terminal) copy.end held.end

-- a message in flight is of the same kind and unit, and what its body stands for over the start image
-- that is held is an image for its path
pub record StandsForMessage (system : System) (terminal : TermInfo) (held : Option (List ℕ))
    (message : Message) (flight : Flight) : Type 0 where
  pub kind_is : flight.message.kind ≡ check_kind_of message
  pub unit : IsUnitIn message flight.message.unit
  pub image : IsPathImage system terminal (path_in message) (image_in held flight.message.body)

-- A seat is of a terminal of the pair, and stands for what the backup holds of it and is sent of it;
-- a message flies only where the mode has flights.
pub record StandsForSeat (system : System) (p : ℕ) (at : PairMode) (terms : ℕ → Term)
    (memory : ℕ → Option BackupCopy) (flight : ℕ → Option Message) (seat : BackupSeat) : Type 0 where
  pub info : TermInfo
  pub here : slice_get system.terminals seat.terminal ≡ Some info
  pub of_pair : info.tcp ≡ p
  pub dropped : seat.dropped ≡ is_some (terms seat.terminal).ending
  pub names : (held : Held) → seat.memory ≡ Some held → held.terminal ≡ seat.terminal
  pub memory_is : StandsIfAny (StandsForHeld system info) (memory seat.terminal) seat.memory
  pub flight_is : StandsIfAny (StandsForMessage system info (start_of seat.memory))
      (flight seat.terminal) seat.flight
  pub at_rest : has_flights at ≡ false → flight seat.terminal ≡ None

-- the pair has the mode, and a seat for each of its terminals and for no other
pub record StandsForPair (system : System) (p : ℕ) (at : PairMode) (terms : ℕ → Term)
    (memory : ℕ → Option BackupCopy) (flight : ℕ → Option Message) (pair : SeenPair) : Type 0 where
  pub mode_is : pair.mode ≡ mode_as at
  pub seats : All (StandsForSeat system p at terms memory flight) pair.seats
  pub every : (t : ℕ) (info : TermInfo) → slice_get system.terminals t ≡ Some info → info.tcp ≡ p
      → list_any (is_seat_of t) pair.seats ≡ true

-- ---- the whole

-- what is kept stands for the state
pub record Stands (system : System) (script : List FailLine) (state : State)
    (kept : Kept) : Type 0 where
  pub terminals : (t : ℕ) (info : TermInfo) → slice_get system.terminals t ≡ Some info
      → StandsForTerminal system info (state.modes info.tcp) (state.terms t) (state.units t)
      (kept.terminals t)
  pub disc : Tells (behaviour script system) state kept.disc
  pub classes : (c : ℕ) (info : ClassInfo) → slice_get system.classes c ≡ Some info
      → StandsForClass system info (state.classes c) (kept.queues c) (kept.jobs c)
  pub pairs : (p : ℕ) → p < length system.tcps
      → StandsForPair system p (state.modes p) state.terms state.memory state.flight (kept.pairs p)
  pub births : kept.births ≡ state.births
