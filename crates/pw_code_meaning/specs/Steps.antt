-- What each instruction does, and what the code asks.
use Rattle.std.specs.Prelude.{ℕ, ◌+◌, Bool, true, false, List, [], length, drop, map, slice_get, Option, Some, None, if◌then◌else◌}
use Rattle.pw_terminal.specs.Screen.{with_message}
use Rattle.pw_terminal.specs.Shown.{with_screen}
use Rattle.pw_code.specs.Courses.{by_course}
use Rattle.pw_code.specs.Instrs.{screen_at}
use Rattle.pw_code.specs.declared.cond.Cond.{Cond}
use Rattle.pw_code.specs.declared.file.FileOp.{FileOp}
use Rattle.pw_code.specs.declared.file.FileOp.TheVariants as op
use Rattle.pw_code.specs.declared.instr.Arithmetic.{Arithmetic}
use Rattle.pw_code.specs.declared.instr.Instr.{Instr}
use Rattle.pw_code.specs.declared.instr.Instr.TheVariants.{Jump, JumpUnless, ParagraphEnd, Move, Compute, OnSizeError, Perform, PerformTimes, Until, PerformOneOf, Exit, ExitProgram, StopRun, DisplayScreen, Display, Accept, Call, Send, NoCode, Begin, End, Abort, Restart, Receive, Reply, Read, ReadNext, Write, Rewrite, Delete}
use Rattle.pw_code.specs.declared.instr.ReplyCode.{ReplyCode}
use Rattle.pw_code.specs.declared.operand.InstructionOperand.{InstructionOperand}
use Rattle.pw_code.specs.declared.place.StoragePlace.{StoragePlace}
use Rattle.pw_code.specs.declared.system.System.{System}
use Rattle.pw_code.specs.declared.verb.Verb.{Verb}
use Rattle.pw_code.specs.declared.verb.Verb.TheVariants as verb
use Rattle.pw_code_meaning.specs.Calls.{calls, leaves, stops}
use Rattle.pw_code_meaning.specs.Conditions.{code_condition_holds}
use Rattle.pw_code_meaning.specs.Config.{Config, code_of, asks, faults, code_statement_counted, on, over, with_storage, with_taken}
use Rattle.pw_code_meaning.specs.Moves.{operands_of, result_of, moves, move_text}
use Rattle.pw_code_meaning.specs.Reading.{Spot, ResolvedOperand, registers_of, spot_of, spots_of, code_operand_taken, read}
use Rattle.pw_code_meaning.specs.Turns.{turn, turns, tested, chosen, at_position, ends}
use Rattle.pw_tree_meaning.specs.Values.{Value, as_it_stands, number_of, whole_part}

-- ---- operands of the program at work

-- where an item of the program at work lies
abbrev pub spot_here : Config → StoragePlace → Option Spot
spot_here c place = spot_of (registers_of c.rest) c.top.storage place

-- where items of the program at work lie, nothing where a subscript is outside
abbrev pub spots_here : Config → List StoragePlace → Option (List Spot)
spots_here c places = spots_of (registers_of c.rest) c.top.storage places

-- an operand of the program at work, as it was taken
abbrev pub taken_here : Config → InstructionOperand → Option ResolvedOperand
taken_here c one = code_operand_taken (registers_of c.rest) c.top.storage one

-- the value of an operand of the program at work
abbrev pub read_here : Config → InstructionOperand → Option Value
read_here c one = read (registers_of c.rest) c.top.storage one

-- whether a condition of the program at work holds
abbrev pub holds_here : Config → Cond → Option Bool
holds_here c cond = code_condition_holds (registers_of c.rest) c.top.storage cond

-- ---- instructions

-- MOVE
abbrev pub move_all : InstructionOperand → List StoragePlace → Config → Config
move_all from to c =
    with_taken (taken_here c from) (λ source.
    with_taken (spots_here c to) (λ targets d.
    on (with_storage (moves source targets d.top.storage) d))) c

-- IF
abbrev pub branch : ℕ → Bool → Config → Config
branch n true c = on c
branch n false c = over n c

-- arithmetic: what follows on a size error, which leaves all as it was, and what else
abbrev pub or_else : Option (List ℕ) → (Config → Config) → (Config → Config) → Config → Config
or_else None on_error else' c = on_error c
or_else (Some storage) on_error else' c = else' (with_storage storage c)

-- arithmetic: goes one way on a size error, and else the other
abbrev pub computes : Arithmetic → (Config → Config) → (Config → Config) → Config → Config
computes a on_error else' c =
    with_taken (operands_of (registers_of c.rest) c.top.storage a) (λ found d.
    or_else (result_of a.operation found d.top.storage) on_error else' d) c

-- DISPLAY of a screen and on row 24
abbrev pub shows : List ℕ → Config → Config
shows cells c = asks (record c { rest = record c.rest { screen = cells } })

-- SEND: the message and the items of YIELDS have their subscripts taken
abbrev pub sends : InstructionOperand → List ReplyCode → Config → Config
sends message codes c =
    with_taken (taken_here c message) (λ found.
    with_taken (spots_here c (map (λ code. code.yields) codes)) (λ items. asks)) c

-- an operation on a file with a key, and with the item INTO which a record goes
abbrev pub reads : InstructionOperand → StoragePlace → Config → Config
reads key into c =
    with_taken (taken_here c key) (λ found. with_taken (spot_here c into) (λ item. asks)) c

-- an operation on a file with one operand: its subscript is taken, and it is asked
abbrev pub operates : InstructionOperand → Config → Config
operates one c = with_taken (taken_here c one) (λ found. asks) c

-- READ $RECEIVE: the message, which lies behind the items, is moved as a text
abbrev pub receives : System → StoragePlace → Config → Config
receives system into c =
    with_taken (spot_here c into) (λ item d.
    on
    (with_storage
    (move_text (drop (length (code_of system d).storage) d.top.storage) item d.top.storage) d)) c

-- what a statement does once it has begun; the instructions of control are none
abbrev pub does : System → Instr → Config → Config
does system (JumpUnless cond n) = λ c. with_taken (holds_here c cond) (branch n) c
does system (Move from to) = move_all from to
does system (Compute a) = computes a on on
does system (OnSizeError a n) = computes a on (over n)
does system (Perform paragraph) = λ c. turn (c.top.at + 1) paragraph 0 c
does system (PerformTimes paragraph times) =
    λ c.
    with_taken (read_here c times) (λ value. turns paragraph (whole_part (number_of value))) c
does system (PerformOneOf paragraphs position) =
    λ c.
    with_taken (read_here c position) (λ value.
    chosen (at_position paragraphs (whole_part (number_of value)))) c
does system Exit = on
does system ExitProgram = leaves system
does system StopRun = stops system
does system (DisplayScreen screen base) =
    λ c. shows (with_screen base c.top.storage (screen_at system screen) c.rest.screen) c
does system (Display one) =
    λ c.
    with_taken (read_here c one) (λ value d.
    shows (with_message (as_it_stands value) d.rest.screen) d) c
does system (Accept screen keys) = asks
does system (Call program arguments keeps) =
    λ c. with_taken (spots_here c arguments) (calls system program keeps) c
does system (Send class message codes) = sends message codes
does system Begin = λ c. if c.rest.in_unit then faults 205 c else asks c
does system End = λ c. if c.rest.in_unit then asks c else faults 206 c
does system Abort = λ c. if c.rest.in_unit then asks c else faults 206 c
does system Restart = λ c. if c.rest.in_unit then asks c else faults 206 c
does system (Receive into) = receives system into
does system (Reply from) = operates from
does system (Read file locking key into) = reads key into
does system (ReadNext file locking after into) = reads after into
does system (Write file from) = operates from
does system (Rewrite file from) = operates from
does system (Delete file key) = operates key
does system (Jump n) = λ c. c
does system (ParagraphEnd start) = λ c. c
does system (Until paragraph cond) = λ c. c
does system NoCode = λ c. c

-- one instruction: a statement counts one, and control none; behind the last one the program is
-- left
abbrev pub act : System → Option Instr → Config → Config
act system None = leaves system
act system (Some (Jump n)) = over n
act system (Some (ParagraphEnd start)) = ends start
act system (Some (Until paragraph cond)) = λ c. tested paragraph (holds_here c cond) c
act system (Some NoCode) = faults 204
act system (Some statement) = code_statement_counted (does system statement)

-- the instruction at which the program at work stands
abbrev pub instr_of : System → Config → Option Instr
instr_of system c = slice_get (code_of system c).instrs c.top.at

-- one step: an advisory is shown and a server's run fault told before the program goes on
abbrev pub step : System → Config → Config
step system c = by_course c.rest.course (act system (instr_of system c) c) (asks c) (λ code. asks c)

-- ---- the verb of a configuration that stands at one

-- the characters of an operand, whose subscript was taken before
abbrev pub chars_by : Option Value → List ℕ
chars_by None = []
chars_by (Some value) = as_it_stands value

-- the characters of an operand of the program at work
abbrev pub chars_here : Config → InstructionOperand → List ℕ
chars_here c one = chars_by (read_here c one)

-- an operation with a key, and with a record
abbrev pub by_key : ℕ → FileOp → List ℕ → Verb
by_key file operation key =
    verb.File (record { file = file; op = operation; key = key; content = [] })

-- an operation with a record, and without a key
abbrev pub by_record : ℕ → FileOp → List ℕ → Verb
by_record file operation content =
    verb.File (record { file = file; op = operation; key = []; content = content })

-- what an instruction asks
abbrev pub asked_by : Option Instr → Config → Verb
asked_by (Some (DisplayScreen screen base)) c = verb.Show
asked_by (Some (Display one)) c = verb.Show
asked_by (Some (Accept screen keys)) c = verb.Accept screen
asked_by (Some (Send class message codes)) c = verb.Send class (chars_here c message)
asked_by (Some Begin) c = verb.Begin
asked_by (Some End) c = verb.End
asked_by (Some Abort) c = verb.Drop
asked_by (Some Restart) c = verb.Redo
asked_by (Some (Reply from)) c = verb.Reply (chars_here c from)
asked_by (Some (Read file locking key into)) c =
    by_key file (if locking then op.ReadLock else op.Read) (chars_here c key)
asked_by (Some (ReadNext file locking after into)) c =
    by_key file (if locking then op.NextLock else op.Next) (chars_here c after)
asked_by (Some (Write file from)) c = by_record file op.Write (chars_here c from)
asked_by (Some (Rewrite file from)) c = by_record file op.Rewrite (chars_here c from)
asked_by (Some (Delete file key)) c = by_key file op.Delete (chars_here c key)
asked_by _ c = verb.Stop

-- the verb
abbrev pub verb_of : System → Config → Verb
verb_of system c =
    by_course c.rest.course (asked_by (instr_of system c) c) verb.Show verb.Fault
