-- How answers are put in.
use Rattle.pw_tree_meaning.specs.Sends as sends
use Rattle.std.specs.Prelude.{ℕ, ◌+◌, ◌*◌, ◌==◌, true, false, List, position, slice_get, Option, Some, None, option_map, option_and_then, if◌then◌else◌}
use Rattle.pw_terminal.specs.Entries.{check, with_advice}
use Rattle.pw_terminal.specs.declared.entries.EntryAnswer.{EntryAnswer}
use Rattle.pw_terminal.specs.declared.entries.EntryAnswer.TheVariants.{Valid}
use Rattle.pw_code.specs.Entry.{EntryLineModel}
use Rattle.pw_code.specs.Instrs.{screen_at}
use Rattle.pw_code.specs.Courses.{by_course}
use Rattle.pw_code.specs.declared.context.Context.{Context}
use Rattle.pw_code.specs.declared.context.Course.TheVariants.{Instruction, Advisory, Fault}
use Rattle.pw_code.specs.declared.field.ScreenTable.{ScreenTable}
use Rattle.pw_code.specs.declared.instr.Instr.{Instr}
use Rattle.pw_code.specs.declared.instr.Instr.TheVariants.{DisplayScreen, Display, Accept, Send, Begin, End, Abort, Read, ReadNext, Write, Rewrite, Delete}
use Rattle.pw_code.specs.declared.instr.ReplyCode.{ReplyCode}
use Rattle.pw_code.specs.declared.place.StoragePlace.{StoragePlace}
use Rattle.pw_code.specs.declared.system.System.{System}
use Rattle.pw_code.specs.declared.verb.Answer.{Answer}
use Rattle.pw_code.specs.declared.verb.Answer.TheVariants as answer
use Rattle.pw_code_meaning.specs.Config.{Config, on, over, with_storage, code_of}
use Rattle.pw_code_meaning.specs.Entries.{storage_entered}
use Rattle.pw_code_meaning.specs.Moves.{move_text}
use Rattle.pw_code_meaning.specs.Reading.{Spot, registers_of, spot_of}

-- behind an answer of a terminal the count is 0 again
abbrev pub answered : Context → Context
answered rest = record rest { at_verb = false; count = 0 }

-- the screen was shown: one refresh more, and no advisory
abbrev pub shown : Config → Config
shown c = record c { rest = record (answered c.rest) { shown = c.rest.shown + 1; course = Instruction } }

-- ---- an entry

-- A right entry is moved, and TERMINATION-STATUS is the position of its key. For a wrong one row
-- 24 says so, which is
-- shown before the same entry is awaited again.
abbrev pub entry_checked : ScreenTable → EntryLineModel → EntryAnswer → Config → Config
entry_checked table line (Valid place) c =
    on (record (with_storage (storage_entered table.fields line.fields c.top.storage) c) {
      rest = record (answered c.rest) { entries = c.rest.entries + 1; termination = place };
    })
entry_checked table line found c =
    record c {
      rest = record (answered c.rest) {
        entries = c.rest.entries + 1;
        screen = with_advice found line c.rest.screen;
        course = Advisory;
      };
    }

-- ---- units: the phase of refresh numbers is 2n - 1 in unit n, and 2m behind m ended units

-- behind the beginning of a unit's attempt with r restarts
abbrev pub unit_begun : ℕ → Context → Context
unit_begun r rest =
    record (answered rest) {
      in_unit = true;
      restarts = r;
      phase = 2 * rest.units + 1;
      attempt = r;
      shown = 0;
    }

-- behind the end of a unit
abbrev pub unit_ended : Context → Context
unit_ended rest =
    record (answered rest) {
      in_unit = false;
      units = rest.units + 1;
      phase = 2 * (rest.units + 1);
      attempt = 0;
      shown = 0;
    }

-- behind a reply: outside a transaction the SEND was a unit, which ends with it
abbrev pub reply_taken : Context → Context
reply_taken rest = if rest.in_unit then answered rest else unit_ended rest

-- ---- a reply

-- the place, from 0, of the first CODE equal to the reply's code
abbrev pub place_among : List ReplyCode → List ℕ → Option ℕ
place_among codes reply =
    option_and_then (λ code. position (λ one. one.number == code) codes) (sends.code_in_reply reply)

-- that place, with the spot to which the reply goes
abbrev pub spot_among : Config → List ReplyCode → ℕ → Option (ℕ × Spot)
spot_among c codes place =
    option_and_then
    (λ code. option_map (λ spot. (place, spot)) (spot_of (registers_of c.rest) c.top.storage code.yields))
    (slice_get codes place)

-- the reply is moved to its item, and TERMINATION-STATUS is the position, from 1; without one the
-- `NoCode` is next
abbrev pub yielded : Option (ℕ × Spot) → List ℕ → Config → Config
yielded None reply c = on (record c { rest = reply_taken c.rest })
yielded (Some found) reply c =
    over 1
    (record (with_storage (move_text reply found.1 c.top.storage) c) {
      rest = record (reply_taken c.rest) { termination = found.0 + 1 };
    })

-- behind a reply: it goes to the item of the first code equal to its own
abbrev pub code_after_reply : List ReplyCode → List ℕ → Config → Config
code_after_reply codes reply c =
    yielded (option_and_then (spot_among c codes) (place_among codes reply)) reply c

-- a server's run fault is to be told
abbrev pub failed : ℕ → Config → Config
failed code c = record c { rest = record (answered c.rest) { course = Fault code } }

-- ---- a file answer: the count goes on, since a server's run counts as a whole

-- the record that was read is moved INTO an item, at status 0 alone
abbrev pub moved_into : Option Spot → ℕ → Option (List ℕ) → List ℕ → List ℕ
moved_into (Some spot) status (Some content) storage =
    if status == 0 then move_text content spot storage else storage
moved_into _ status content storage = storage

-- FILE-STATUS is the status
abbrev pub file_done : Option Spot → ℕ → Option (List ℕ) → Config → Config
file_done into status content c =
    on
    (record (with_storage (moved_into into status content c.top.storage) c) {
      rest = record c.rest { at_verb = false; file_status = status };
    })

-- the item of a READ, whose subscript is taken before FILE-STATUS changes
abbrev pub read_done : StoragePlace → ℕ → Option (List ℕ) → Config → Config
read_done into status content c =
    file_done (spot_of (registers_of c.rest) c.top.storage into) status content c

-- ---- the answer to an instruction; one that does not ask stays

-- it goes on with what a terminal's verb was answered
abbrev pub passed : Config → Config
passed c = on (record c { rest = answered c.rest })

-- behind the answer to an ACCEPT
abbrev pub entry_put : ScreenTable → List ℕ → Answer → Config → Config
entry_put table keys (answer.Entry line) c = entry_checked table line (check table keys line) c
entry_put table keys _ c = passed c

-- behind the answer to a SEND
abbrev pub reply_put : List ReplyCode → Answer → Config → Config
reply_put codes (answer.Replied reply) c = code_after_reply codes reply c
reply_put codes (answer.Failed code) c = failed code c
reply_put codes _ c = over 1 (record c { rest = answered c.rest })

-- behind the answer to BEGIN-TRANSACTION
abbrev pub begin_put : Answer → Config → Config
begin_put (answer.Begun r) c = on (record c { rest = unit_begun r c.rest })
begin_put _ c = passed c

-- behind the answer to END- and ABORT-TRANSACTION
abbrev pub unit_end_put : Config → Config
unit_end_put c = on (record c { rest = unit_ended c.rest })

-- of a server's verb
abbrev pub file_passed : Config → Config
file_passed c = on (record c { rest = record c.rest { at_verb = false } })

-- behind the answer to READ and READ NEXT
abbrev pub read_put : StoragePlace → Answer → Config → Config
read_put into (answer.FileDone status content) c = read_done into status content c
read_put into _ c = file_passed c

-- behind the answer to WRITE, REWRITE and DELETE
abbrev pub file_put : Answer → Config → Config
file_put (answer.FileDone status content) c = file_done None status content c
file_put _ c = file_passed c

-- behind the answer to the instruction that asked; one that asks nothing stays
abbrev pub answered_by : System → Option Instr → Answer → Config → Config
answered_by system (Some (DisplayScreen screen base)) a c = on (shown c)
answered_by system (Some (Display one)) a c = on (shown c)
answered_by system (Some (Accept screen keys)) a c = entry_put (screen_at system screen) keys a c
answered_by system (Some (Send class message codes)) a c = reply_put codes a c
answered_by system (Some Begin) a c = begin_put a c
answered_by system (Some End) a c = unit_end_put c
answered_by system (Some Abort) a c = unit_end_put c
answered_by system (Some (Read file locking key into)) a c = read_put into a c
answered_by system (Some (ReadNext file locking after into)) a c = read_put into a c
answered_by system (Some (Write file from)) a c = file_put a c
answered_by system (Some (Rewrite file from)) a c = file_put a c
answered_by system (Some (Delete file key)) a c = file_put a c
answered_by system _ a c = c

-- an answer is put in: an advisory takes only that it was shown, and where a run fault stands none
-- is taken
abbrev pub put : System → Answer → Config → Config
put system a c =
    by_course c.rest.course (answered_by system (slice_get (code_of system c).instrs c.top.at) a c)
    (shown c) (λ code. c)
