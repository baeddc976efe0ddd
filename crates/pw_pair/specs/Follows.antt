-- A pair follows what the paired state has of it. Images are bytes here: the image of a path of a
-- terminal is an argument.
use Rattle.std.specs.Prelude.{◌≡◌, ℕ, ◌<◌, ◌==◌, Bool, true, false, List, All, Option, Some, None, is_some}
use Rattle.std.specs.List.{list_any}
use Rattle.std.specs.Option.{option_map}
use Rattle.pw_onecopy.specs.Behaviour.{Behaviour}
use Rattle.pw_onecopy.specs.Path.{PathAnswer}
use Rattle.pw_pair.specs.Bodies.{image_in}
use Rattle.pw_pair.specs.Pairs.{SeenPair}
use Rattle.pw_pair.specs.Seats.{is_seat_of, start_of}
use Rattle.pw_pair.specs.declared.backup.Held.{Held}
use Rattle.pw_pair.specs.declared.message.CheckKind.{CheckKind}
use Rattle.pw_pair.specs.declared.message.CheckKind.TheVariants as kind
use Rattle.pw_pair.specs.declared.mode.Mode as pair
use Rattle.pw_pair.specs.declared.mode.Mode.TheVariants as mode
use Rattle.pw_pair.specs.declared.seat.Flight.{Flight}
use Rattle.pw_pair.specs.declared.seat.BackupSeat.{BackupSeat}
use Rattle.pw_paired.specs.State.{PairMode, Alone, Raising, Paired, Down, Gone, BackupCopy, Message, Start, End, Copy, State, Term}

-- a mode as a pair has it
abbrev pub mode_as : PairMode → pair.Mode
mode_as Alone = mode.Alone
mode_as Raising = mode.Raising
mode_as Paired = mode.Paired
mode_as Down = mode.Down
mode_as Gone = mode.Gone

-- messages fly to a backup
abbrev pub has_flights : PairMode → Bool
has_flights Alone = false
has_flights Raising = true
has_flights Paired = true
has_flights Down = false
has_flights Gone = false

-- what is held of a terminal, with the images of its paths
abbrev pub held_of : (List PathAnswer → List ℕ) → ℕ → BackupCopy → Held
held_of image terminal copy = record {
  terminal = terminal;
  unit = copy.unit;
  start = image copy.start;
  end = option_map image copy.end;
}

-- what a message is for
abbrev pub check_kind_of : Message → CheckKind
check_kind_of (Start unit path) = kind.Start
check_kind_of (End path) = kind.End
check_kind_of (Copy unit path) = kind.Copy

-- the path of a message
abbrev pub path_in : Message → List PathAnswer
path_in (Start unit path) = path
path_in (End path) = path
path_in (Copy unit path) = path

-- the message has this unit number; an End has none
abbrev pub IsUnitIn : Message → ℕ → Type 0
IsUnitIn (Start unit path) number = number ≡ unit
IsUnitIn (End path) number = Unit {0}
IsUnitIn (Copy unit path) number = number ≡ unit

-- A message in flight is of the same kind and unit, and stands, over the start image that is held, for
-- the image of its path.
pub record CarriesMessage (image : List PathAnswer → List ℕ) (held : Option (List ℕ))
    (message : Message) (flight : Flight) : Type 0 where
  pub kind_is : flight.message.kind ≡ check_kind_of message
  pub unit : IsUnitIn message flight.message.unit
  pub image_is : image_in held flight.message.body ≡ image (path_in message)

-- both are missing, or both are there and the one carries the other
abbrev pub Carries : (List PathAnswer → List ℕ) → Option (List ℕ) → Option Message → Option Flight
    → Type 0
Carries image held None None = Unit {0}
Carries image held (Some message) (Some flight) = CarriesMessage image held message flight
Carries image held _ _ = ⊥

-- A seat is of a started terminal of the pair, and has what its backup holds of it and is sent of it;
-- in a mode without flights nothing flies.
pub record FollowsSeat (image : ℕ → List PathAnswer → List ℕ) (sys : Behaviour) (p : ℕ) (at : PairMode)
    (terms : ℕ → Term) (memory : ℕ → Option BackupCopy) (flight : ℕ → Option Message)
    (seat : BackupSeat) : Type 0 where
  pub known : seat.terminal < sys.terminals
  pub of_pair : sys.pair_of seat.terminal ≡ p
  pub dropped : seat.dropped ≡ is_some (terms seat.terminal).ending
  pub memory_is : seat.memory
      ≡ option_map (held_of (image seat.terminal) seat.terminal) (memory seat.terminal)
  pub flight_is : Carries (image seat.terminal) (start_of seat.memory) (flight seat.terminal)
      seat.flight
  pub at_rest : has_flights at ≡ false → flight seat.terminal ≡ None

-- the pair has this mode, and a seat for each of its terminals and for no other
pub record FollowsAs (image : ℕ → List PathAnswer → List ℕ) (sys : Behaviour) (p : ℕ) (at : PairMode)
    (terms : ℕ → Term) (memory : ℕ → Option BackupCopy) (flight : ℕ → Option Message)
    (pair : SeenPair) : Type 0 where
  pub mode_is : pair.mode ≡ mode_as at
  pub seats : All (FollowsSeat image sys p at terms memory flight) pair.seats
  pub every : (t : ℕ) → t < sys.terminals → sys.pair_of t ≡ p
      → list_any (is_seat_of t) pair.seats ≡ true

-- the pair follows what the state has of pair p
abbrev pub Follows : (ℕ → List PathAnswer → List ℕ) → Behaviour → State → ℕ → SeenPair → Type 0
Follows image sys state p pair =
    FollowsAs image sys p (state.modes p) state.terms state.memory state.flight pair

-- the list has the terminals of the pair, and no others
pub record AreTerminalsOfPair (sys : Behaviour) (p : ℕ) (terminals : List ℕ) : Type 0 where
  pub each : All (λ t. (t < sys.terminals) × (sys.pair_of t ≡ p)) terminals
  pub every : (t : ℕ) → t < sys.terminals → sys.pair_of t ≡ p
      → list_any (λ own. own == t) terminals ≡ true
