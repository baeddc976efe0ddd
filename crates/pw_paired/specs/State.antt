-- The state of the paired system.
use Rattle.std.specs.Prelude.{ℕ, List, [], Option, None}
use Rattle.pw_class.specs.declared.request.Request.{Request}
use Rattle.pw_event.specs.declared.event.Cause.{Cause}
use Rattle.pw_event.specs.declared.event.Ending.{Ending}
use Rattle.pw_event.specs.declared.event.Event.{Event}
use Rattle.pw_locks.specs.declared.lock.Lock.{Lock}
use Rattle.pw_onecopy.specs.Behaviour.{Behaviour}
use Rattle.pw_onecopy.specs.Path.{PathAnswer, FileResult}

-- the mode of a pair
pub data PairMode : Type 0 where
  -- one member works, and there is no backup
  Alone : PairMode
  -- a backup exists and does not hold every live terminal
  Raising : PairMode
  -- the backup holds every live terminal
  Paired : PairMode
  -- the primary has failed, and the backup has not taken over
  Down : PairMode
  -- no member is left
  Gone : PairMode

-- a terminal: its path, the cause that is pending for it, and its ending
pub record Term : Type 0 where
  pub path : List PathAnswer
  pub pending : Option Cause
  pub ending : Option Ending

-- a unit of another terminal, by its number there
pub record Awaited : Type 0 where
  pub terminal : ℕ
  pub number : ℕ

-- An open unit: its number on its terminal, its birth, its recorded restarts, the unit that it
-- awaits, and the start path of the attempt that runs, if one does.
pub record OpenUnit : Type 0 where
  pub number : ℕ
  pub birth : ℕ
  pub restarts : ℕ
  pub awaits : Option Awaited
  pub running : Option (List PathAnswer)

-- the last ended unit of a terminal, 0 where none has ended, and its kept reply, where it was one
-- SEND that committed
pub record LastEnded : Type 0 where
  pub number : ℕ
  pub reply : Option (List ℕ)

-- what was committed at a key of a file, if anything, before the open unit of a terminal changed it
pub record BeforeImage : Type 0 where
  pub terminal : ℕ
  pub file : ℕ
  pub key : List ℕ
  pub content : Option (List ℕ)

-- a request at a process, and what the server's file operations were answered so far
pub record Job : Type 0 where
  pub request : Request
  pub done : List FileResult

-- a class: the requests that wait, in order, and what each process works on; processes count from 1
pub record Class : Type 0 where
  pub waiting : List Request
  pub busy : ℕ → Option Job

-- what a backup holds of a terminal: a unit number, a start path and an optional end path
pub record BackupCopy : Type 0 where
  pub unit : ℕ
  pub start : List PathAnswer
  pub end : Option (List PathAnswer)

-- a checkpoint message
pub data Message : Type 0 where
  Start : (unit : ℕ) (path : List PathAnswer) → Message
  End : (path : List PathAnswer) → Message
  Copy : (unit : ℕ) (path : List PathAnswer) → Message

-- the paired state: all that a log has come to
pub record State : Type 0 where
  -- the entries so far
  pub log : List Event
  -- the records of each file with open changes, and the before-images of these changes
  pub files : ℕ → List (List ℕ)
  pub before : List BeforeImage
  pub locks : List Lock
  -- the open unit of each terminal, and its last ended one
  pub units : ℕ → Option OpenUnit
  pub ended : ℕ → LastEnded
  -- how many units have begun: the next birth
  pub births : ℕ
  pub classes : ℕ → Class
  pub terms : ℕ → Term
  -- the mode of each pair, and of each terminal what its backup holds and the message in flight
  pub modes : ℕ → PairMode
  pub memory : ℕ → Option BackupCopy
  pub flight : ℕ → Option Message

-- the deck's files, empty paths, and all pairs alone
abbrev pub starting : Behaviour → State
starting sys = record {
  log = [];
  files = sys.records;
  before = [];
  locks = [];
  units = λ t. None;
  ended = λ t. record { number = 0; reply = None };
  births = 0;
  classes = λ c. record { waiting = []; busy = λ i. None };
  terms = λ t. record { path = []; pending = None; ending = None };
  modes = λ p. Alone;
  memory = λ t. None;
  flight = λ t. None;
}
