-- The lines of the log: the spelling of an entry.
use Rattle.std.specs.Prelude.{◌≡◌, ℕ, ◌<◌, ◌≤◌, ◌^◌, List, [], ◌∷◌, ◌++◌, map, length, codes, slice_index_or, Option, Some, None, Bool, true, false}
use Rattle.std.specs.Fmt.{decimal}
use Rattle.std.specs.List.{AllByRecursion, join_with_byte}
use Rattle.pw_base.specs.Characters.{full_stop, space}
use Rattle.pw_code.specs.declared.file.FileInfo.{FileInfo}
use Rattle.pw_code.specs.declared.file.FileOp.{FileOp}
use Rattle.pw_code.specs.declared.file.FileOp.TheVariants.{Read, Next, Write, Rewrite, Delete, ReadLock, NextLock}
use Rattle.pw_code.specs.declared.lock.LockMode.{LockMode}
use Rattle.pw_code.specs.declared.lock.LockMode.TheVariants.{Shared, Exclusive}
use Rattle.pw_code.specs.declared.lock.LockRule.{LockRule}
use Rattle.pw_code.specs.declared.lock.LockRule.TheVariants.{ReadersShare, AllExclusive}
use Rattle.pw_code.specs.declared.system.ClassInfo.{ClassInfo}
use Rattle.pw_code.specs.declared.system.TermInfo.{TermInfo}
use Rattle.pw_code.specs.declared.system.System.{System}
use Rattle.pw_event.specs.declared.event.Cause.{Cause}
use Rattle.pw_event.specs.declared.event.Cause.TheVariants as cause
use Rattle.pw_event.specs.declared.event.Ending.{Ending}
use Rattle.pw_event.specs.declared.event.Ending.TheVariants as ending
use Rattle.pw_event.specs.declared.event.Event.{Event}
use Rattle.pw_event.specs.declared.event.Event.TheVariants.{Show, Key, CheckStart, CheckEnd, CheckCopy, Applied, Begin, Send, Take, File, Reply, Again, Commit, Back, Restart, FailTcp, FailServer, Takeover, Raise, End}

-- A word of a line.
pub data LineWord : Type 0 where
  -- it stands in every line of its kind
  Plain : List ℕ → LineWord
  -- the name of a terminal, of a pair, of a class, of a file
  TerminalName : ℕ → LineWord
  PairName : ℕ → LineWord
  ClassName : ℕ → LineWord
  FileName : ℕ → LineWord
  -- the number of a process of a class
  Process : (c i : ℕ) → LineWord
  -- the number of a failure line
  FailNumber : ℕ → LineWord
  -- a number
  Number : ℕ → LineWord
  -- a file status or a run fault
  Code : ℕ → LineWord
  -- a refresh number
  Refresh : (phase attempt k : ℕ) → LineWord

-- the word of an operation
abbrev pub op_text : FileOp → List ℕ
op_text Read = codes "READ"
op_text Next = codes "NEXT"
op_text Write = codes "WRITE"
op_text Rewrite = codes "REWRITE"
op_text Delete = codes "DELETE"
op_text ReadLock = codes "READ"
op_text NextLock = codes "NEXT"

-- the word of a mode
abbrev pub mode_text : LockMode → List ℕ
mode_text Shared = codes "S"
mode_text Exclusive = codes "X"

-- the mode of a lock, which is told under ReadersShare alone, in front of other words
abbrev pub with_mode : {A : Type 0} → LockRule → A → List A → List A
with_mode ReadersShare mode words = mode ∷ words
with_mode AllExclusive mode words = words

-- the words of a cause
abbrev pub cause_words : Cause → List LineWord
cause_words (cause.Older t n) = Plain (codes "OLDER") ∷ TerminalName t ∷ Number n ∷ []
cause_words (cause.Takeover p) = Plain (codes "TAKEOVER") ∷ PairName p ∷ []
cause_words (cause.Server k) = Plain (codes "SERVER") ∷ FailNumber k ∷ []
cause_words cause.Redo = Plain (codes "REDO") ∷ []

-- the words of an ending
abbrev pub ending_words : Ending → List LineWord
ending_words ending.Stopped = Plain (codes "STOPPED") ∷ []
ending_words ending.NoEntries = Plain (codes "NOENTRIES") ∷ []
ending_words (ending.Fault x) = Plain (codes "FAULT") ∷ Code x ∷ []
ending_words (ending.Suspended cause) = Plain (codes "SUSPENDED") ∷ cause_words cause
ending_words ending.Lost = Plain (codes "LOST") ∷ []

-- how a process answered
abbrev pub reply_words : Option ℕ → List LineWord
reply_words None = Plain (codes "OK") ∷ []
reply_words (Some x) = Plain (codes "FAULT") ∷ Code x ∷ []

-- a member of a pair
abbrev pub member_text : Bool → List ℕ
member_text true = codes "PRIMARY"
member_text false = codes "BACKUP"

-- the words of an entry, without its number in the log
abbrev pub event_words : LockRule → Event → List LineWord
event_words rule (Show t phase attempt k) = Plain (codes "SHOW") ∷ TerminalName t ∷ Refresh phase attempt k ∷ []
event_words rule (Key t k) = Plain (codes "KEY") ∷ TerminalName t ∷ Number k ∷ []
event_words rule (CheckStart t) = Plain (codes "CHECK") ∷ TerminalName t ∷ Plain (codes "START") ∷ []
event_words rule (CheckEnd t) = Plain (codes "CHECK") ∷ TerminalName t ∷ Plain (codes "END") ∷ []
event_words rule (CheckCopy t) = Plain (codes "CHECK") ∷ TerminalName t ∷ Plain (codes "COPY") ∷ []
event_words rule (Applied t) = Plain (codes "APPLIED") ∷ TerminalName t ∷ []
event_words rule (Begin t n r) = Plain (codes "BEGIN") ∷ TerminalName t ∷ Number n ∷ Number r ∷ []
event_words rule (Send t n c) = Plain (codes "SEND") ∷ TerminalName t ∷ Number n ∷ ClassName c ∷ []
event_words rule (Take c i t) = Plain (codes "TAKE") ∷ ClassName c ∷ Process c i ∷ TerminalName t ∷ []
event_words rule (File c i op mode f status) =
    Plain (codes "FILE") ∷ ClassName c ∷ Process c i ∷ Plain (op_text op) ∷ with_mode rule (Plain (mode_text mode)) (FileName f ∷ Code status ∷ [])
event_words rule (Reply c i t fault) = Plain (codes "REPLY") ∷ ClassName c ∷ Process c i ∷ TerminalName t ∷ reply_words fault
event_words rule (Again t n) = Plain (codes "AGAIN") ∷ TerminalName t ∷ Number n ∷ []
event_words rule (Commit t n) = Plain (codes "COMMIT") ∷ TerminalName t ∷ Number n ∷ []
event_words rule (Back t n) = Plain (codes "BACK") ∷ TerminalName t ∷ Number n ∷ []
event_words rule (Restart t n cause) = Plain (codes "RESTART") ∷ TerminalName t ∷ Number n ∷ cause_words cause
event_words rule (FailTcp p primary k) = Plain (codes "FAIL") ∷ Plain (codes "TCP") ∷ PairName p ∷ Plain (member_text primary) ∷ FailNumber k ∷ []
event_words rule (FailServer c i k) = Plain (codes "FAIL") ∷ Plain (codes "SERVER") ∷ ClassName c ∷ Process c i ∷ FailNumber k ∷ []
event_words rule (Takeover p) = Plain (codes "TAKEOVER") ∷ PairName p ∷ []
event_words rule (Raise p) = Plain (codes "RAISE") ∷ PairName p ∷ []
event_words rule (End t ending) = Plain (codes "END") ∷ TerminalName t ∷ ending_words ending

-- The names of terminals, pairs, classes and files, by their numbers.
pub record NamesByNumber : Type 0 where
  pub terminal : ℕ → List ℕ
  pub pair : ℕ → List ℕ
  pub class : ℕ → List ℕ
  pub file : ℕ → List ℕ

-- a terminal that is not there
abbrev pub no_terminal : TermInfo
no_terminal = record { name = []; tcp = 0; program = 0; max_restarts = 0; entries = [] }

-- a class that is not there
abbrev pub no_class : ClassInfo
no_class = record { name = []; server = 0; processes = 0 }

-- a file that is not there
abbrev pub no_file : FileInfo
no_file = record { name = []; key = 0; records = [] }

-- the name of a terminal
abbrev pub terminal_name : System → ℕ → List ℕ
terminal_name system t = (slice_index_or system.terminals t no_terminal).name

-- the name of a pair
abbrev pub pair_name : System → ℕ → List ℕ
pair_name system p = slice_index_or system.tcps p []

-- the name of a class
abbrev pub class_name : System → ℕ → List ℕ
class_name system c = (slice_index_or system.classes c no_class).name

-- the name of a file
abbrev pub file_name : System → ℕ → List ℕ
file_name system f = (slice_index_or system.files f no_file).name

-- the names of a system
abbrev pub names_of : System → NamesByNumber
names_of system = record { terminal = terminal_name system; pair = pair_name system; class = class_name system; file = file_name system }

-- a refresh number, as phase.attempt.k
abbrev pub refresh_number : ℕ → ℕ → ℕ → List ℕ
refresh_number phase attempt k = decimal phase ++ full_stop ∷ (decimal attempt ++ full_stop ∷ decimal k)

-- the spelling of a word
abbrev pub spelling : NamesByNumber → LineWord → List ℕ
spelling names (Plain text) = text
spelling names (TerminalName t) = names.terminal t
spelling names (PairName p) = names.pair p
spelling names (ClassName c) = names.class c
spelling names (FileName f) = names.file f
spelling names (Process c i) = decimal i
spelling names (FailNumber k) = decimal k
spelling names (Number n) = decimal n
spelling names (Code x) = decimal x
spelling names (Refresh phase attempt k) = refresh_number phase attempt k

-- words with single spaces between them
abbrev pub sentence : List (List ℕ) → List ℕ
sentence = join_with_byte space

-- the text of an ending
abbrev pub ending_text : System → Ending → List ℕ
ending_text system ending = sentence (map (spelling (names_of system)) (ending_words ending))

-- the text of an entry, without its number in the log
abbrev pub event_text : System → Event → List ℕ
event_text system event = sentence (map (spelling (names_of system)) (event_words system.rule event))

-- the operation has a word of its own
abbrev pub IsPlain : FileOp → Type 0
IsPlain Read = Unit {0}
IsPlain Next = Unit {0}
IsPlain Write = Unit {0}
IsPlain Rewrite = Unit {0}
IsPlain Delete = Unit {0}
IsPlain ReadLock = ⊥
IsPlain NextLock = ⊥

-- the mode can be told: under AllExclusive every lock is exclusive
abbrev pub IsTold : LockRule → LockMode → Type 0
IsTold ReadersShare mode = Unit {0}
IsTold AllExclusive mode = mode ≡ Exclusive

-- An entry that a line tells whole: the locking reads are told as the reads that they are.
abbrev pub HasLine : LockRule → Event → Type 0
HasLine rule (File c i op mode f status) = IsPlain op × IsTold rule mode
HasLine rule _ = Unit {0}

-- the number of a word is one of the line grammar: at most 4,294,967,295, or 65,535 for a status and a fault;
-- processes and failure lines count from 1
abbrev pub IsInRange : LineWord → Type 0
IsInRange (Process c i) = (1 ≤ i) × (i < 2 ^ 32)
IsInRange (FailNumber k) = (1 ≤ k) × (k < 2 ^ 32)
IsInRange (Number n) = n < 2 ^ 32
IsInRange (Code x) = x < 2 ^ 16
IsInRange (Refresh phase attempt k) = (phase < 2 ^ 32) × (attempt < 2 ^ 32) × (k < 2 ^ 32)
IsInRange _ = Unit {0}

-- what a word names is the system's
abbrev pub IsWordOfSystem : System → LineWord → Type 0
IsWordOfSystem system (TerminalName t) = t < length system.terminals
IsWordOfSystem system (PairName p) = p < length system.tcps
IsWordOfSystem system (ClassName c) = c < length system.classes
IsWordOfSystem system (FileName f) = f < length system.files
IsWordOfSystem system (Process c i) = i ≤ (slice_index_or system.classes c no_class).processes
IsWordOfSystem system _ = Unit {0}

-- an entry with a line whose terminals, pairs, classes, files and processes are the system's
pub record IsNamed (system : System) (event : Event) : Type 0 where
  pub line : HasLine system.rule event
  pub there : AllByRecursion (IsWordOfSystem system) (event_words system.rule event)
