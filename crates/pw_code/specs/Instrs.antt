-- Instructions that a system may have.
use Rattle.std.specs.Prelude.{◌≡◌, ℕ, ◌<◌, ◌≤◌, Bool, true, false, not, List, [], ◌∷◌, length, map, slice_index_or, IsTrue, All}
use Rattle.pw_base.specs.Limits.{most_content}
use Rattle.pw_code.specs.Fields.{IsTable}
use Rattle.pw_code.specs.Places.{IsPlace, IsOperand, IsCond}
use Rattle.pw_code.specs.declared.code.Code.{Code}
use Rattle.pw_code.specs.declared.field.ScreenTable.{ScreenTable}
use Rattle.pw_code.specs.declared.file.FileInfo.{FileInfo}
use Rattle.pw_code.specs.declared.instr.Arithmetic.{Arithmetic}
use Rattle.pw_code.specs.declared.instr.Instr.{Instr}
use Rattle.pw_code.specs.declared.instr.Instr.TheVariants.{Jump, JumpUnless, ParagraphEnd, Move, Compute, OnSizeError, Perform, PerformTimes, Until, PerformOneOf, Exit, ExitProgram, StopRun, DisplayScreen, Display, Accept, Call, Send, NoCode, Begin, End, Abort, Restart, Receive, Reply, Read, ReadNext, Write, Rewrite, Delete}
use Rattle.pw_code.specs.declared.instr.ReplyCode.{ReplyCode}
use Rattle.pw_code.specs.declared.instr.Turn.{Turn}
use Rattle.pw_code.specs.declared.operand.InstructionOperand.{InstructionOperand}
use Rattle.pw_code.specs.declared.operand.InstructionOperand.TheVariants as operand
use Rattle.pw_code.specs.declared.place.StoragePlace.{StoragePlace}
use Rattle.pw_code.specs.declared.place.Register.{Register}
use Rattle.pw_code.specs.declared.place.Register.TheVariants as register
use Rattle.pw_code.specs.declared.system.System.{System}

-- the code without anything: where a number names none
abbrev pub no_code : Code
no_code = record { name = []; instrs = []; storage = []; linkage = [] }

-- the program of a terminal by its number
abbrev pub program_at : System → ℕ → Code
program_at system n = slice_index_or system.programs n no_code

-- the screen of a number
abbrev pub screen_at : System → ℕ → ScreenTable
screen_at system n = slice_index_or system.screens n (record { name = []; fields = [] })

-- the file of a number
abbrev pub file_at : System → ℕ → FileInfo
file_at system n = slice_index_or system.files n (record { name = []; key = 0; records = [] })

-- how many characters an item or a register has; nothing else has any that are taken as they stand
abbrev pub digits_of_register : Register → ℕ
digits_of_register register.Termination = 4
digits_of_register register.Restarts = 5
digits_of_register register.FileStatus = 4

-- how many characters an operand that is an item or a register has, 0 for any other
abbrev pub size_of_item : InstructionOperand → ℕ
size_of_item (operand.Item place) = place.size
size_of_item (operand.Register register) = digits_of_register register
size_of_item _ = 0

-- the operand is an item or a register
abbrev pub is_item : InstructionOperand → Bool
is_item (operand.Item place) = true
is_item (operand.Register register) = true
is_item _ = false

-- such an operand of a program whose storage has this size
pub record IsItemOperand (storage : ℕ) (one : InstructionOperand) : Type 0 where
  pub operand : IsOperand storage one
  pub item : IsTrue (is_item one)

-- the operands of arithmetic
pub record IsArithmetic (storage : ℕ) (arithmetic : Arithmetic) : Type 0 where
  pub first : IsOperand storage arithmetic.first
  pub second : IsOperand storage arithmetic.second
  pub receiver : IsPlace storage arithmetic.receiver

-- a paragraph of a code
pub record IsTurn (code : Code) (turn : Turn) : Type 0 where
  pub start : turn.start < length code.instrs
  pub end : turn.end < length code.instrs

-- a screen of the system whose items lie in the storage
pub record IsScreen (system : System) (storage screen : ℕ) : Type 0 where
  pub known : screen < length system.screens
  pub fields : IsTable storage (screen_at system screen)

-- an ACCEPT has at most 9,999 keys, and a SEND at most 9,999 codes
abbrev pub most_keys : ℕ
most_keys = 9999

-- a code of a reply is at most 9999, and the item that it yields lies in the storage
abbrev pub IsReplyCode : ℕ → ReplyCode → Type 0
IsReplyCode storage code = (code.number ≤ 9999) × IsPlace storage code.yields

-- a CALL: the program is the system's, and the arguments have the sizes of its linkage
pub record IsProgramCall (system : System) (storage program : ℕ) (arguments : List StoragePlace) : Type 0 where
  pub known : program < length system.programs
  pub places : All (IsPlace storage) arguments
  pub sizes : map (λ place. place.size) arguments ≡ map (λ item. item.1) (program_at system program).linkage

-- a SEND: the class is the system's, and a `NoCode` stands behind it
pub record IsSend (system : System) (storage behind class : ℕ) (message : InstructionOperand) (codes : List ReplyCode) : Type 0 where
  pub known : class < length system.classes
  pub sent : IsItemOperand storage message
  pub few : length codes ≤ most_keys
  pub each : All (IsReplyCode storage) codes
  pub over : 1 ≤ behind

-- a key of a file of the system
pub record IsKey (system : System) (storage file : ℕ) (key : InstructionOperand) : Type 0 where
  pub known : file < length system.files
  pub operand : IsItemOperand storage key
  pub size : size_of_item key ≡ (file_at system file).key

-- a record of a file of the system
pub record IsRecord (system : System) (storage file : ℕ) (from : InstructionOperand) : Type 0 where
  pub known : file < length system.files
  pub operand : IsItemOperand storage from
  pub least : (file_at system file).key ≤ size_of_item from
  pub most : size_of_item from ≤ most_content

-- the instruction is one of servers, of the programs of terminals, or of both
abbrev pub is_for : Bool → Instr → Bool
is_for server (DisplayScreen screen base) = not server
is_for server (Display shown) = not server
is_for server (Accept screen keys) = not server
is_for server (Call program arguments keeps) = not server
is_for server (Send class message codes) = not server
is_for server NoCode = not server
is_for server Begin = not server
is_for server End = not server
is_for server Abort = not server
is_for server Restart = not server
is_for server (Receive into) = server
is_for server (Reply from) = server
is_for server (Read file locking key into) = server
is_for server (ReadNext file locking after into) = server
is_for server (Write file from) = server
is_for server (Rewrite file from) = server
is_for server (Delete file key) = server
is_for server _ = true

-- The numbers, places and operands of an instruction are those of the system and the code. behind: how many
-- instructions stand behind it, over which no jump passes.
abbrev pub HasRanges : System → Code → ℕ → Instr → Type 0
HasRanges system code behind (Jump over) = over ≤ behind
HasRanges system code behind (JumpUnless cond over) = IsCond (length code.storage) cond × (over ≤ behind)
HasRanges system code behind (ParagraphEnd start) = start < length code.instrs
HasRanges system code behind (Move from to) = IsOperand (length code.storage) from × All (IsPlace (length code.storage)) to
HasRanges system code behind (Compute arithmetic) = IsArithmetic (length code.storage) arithmetic
HasRanges system code behind (OnSizeError arithmetic over) = IsArithmetic (length code.storage) arithmetic × (over ≤ behind)
HasRanges system code behind (Perform turn) = IsTurn code turn
HasRanges system code behind (PerformTimes turn times) = IsTurn code turn × IsOperand (length code.storage) times
HasRanges system code behind (Until turn cond) = IsTurn code turn × IsCond (length code.storage) cond
HasRanges system code behind (PerformOneOf turns position) = All (IsTurn code) turns × IsOperand (length code.storage) position
HasRanges system code behind Exit = Unit {0}
HasRanges system code behind ExitProgram = Unit {0}
HasRanges system code behind StopRun = Unit {0}
HasRanges system code behind (DisplayScreen screen base) = IsScreen system (length code.storage) screen
HasRanges system code behind (Display shown) = IsOperand (length code.storage) shown
HasRanges system code behind (Accept screen keys) = IsScreen system (length code.storage) screen × (length keys ≤ most_keys)
HasRanges system code behind (Call program arguments keeps) = IsProgramCall system (length code.storage) program arguments
HasRanges system code behind (Send class message codes) = IsSend system (length code.storage) behind class message codes
HasRanges system code behind NoCode = Unit {0}
HasRanges system code behind Begin = Unit {0}
HasRanges system code behind End = Unit {0}
HasRanges system code behind Abort = Unit {0}
HasRanges system code behind Restart = Unit {0}
HasRanges system code behind (Receive into) = IsPlace (length code.storage) into
HasRanges system code behind (Reply from) = IsItemOperand (length code.storage) from
HasRanges system code behind (Read file locking key into) = IsKey system (length code.storage) file key × IsPlace (length code.storage) into
HasRanges system code behind (ReadNext file locking after into) = IsKey system (length code.storage) file after × IsPlace (length code.storage) into
HasRanges system code behind (Write file from) = IsRecord system (length code.storage) file from
HasRanges system code behind (Rewrite file from) = IsRecord system (length code.storage) file from
HasRanges system code behind (Delete file key) = IsKey system (length code.storage) file key

-- an instruction of a server or of a terminal's program, with so many behind it
pub record IsInstr (server : Bool) (system : System) (code : Code) (behind : ℕ) (instr : Instr) : Type 0 where
  pub kind : IsTrue (is_for server instr)
  pub ranges : HasRanges system code behind instr

-- the instructions from one on
abbrev pub AreInstrs : Bool → System → Code → List Instr → Type 0
AreInstrs server system code [] = Unit {0}
AreInstrs server system code (instr ∷ rest) = IsInstr server system code (length rest) instr × AreInstrs server system code rest
