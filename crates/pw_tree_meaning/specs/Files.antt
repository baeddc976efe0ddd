-- The verbs of servers: `$RECEIVE` and files.
use Rattle.std.specs.Prelude.{ℕ, ◌==◌, Bool, List, [], ◌∷◌, Option, Some, None, if◌then◌else◌}
use Rattle.pw_words.specs.Words.{Word}
use Rattle.pw_forms.specs.declared.operand.Operand.{Operand}
use Rattle.pw_code.specs.declared.file.FileCall.{FileCall}
use Rattle.pw_code.specs.declared.file.FileOp.{FileOp}
use Rattle.pw_code.specs.declared.file.FileOp.TheVariants.{Read, Next, Delete, ReadLock, NextLock}
use Rattle.pw_code.specs.declared.verb.Verb.TheVariants as verb
use Rattle.pw_code.specs.declared.verb.Answer.{Answer}
use Rattle.pw_code.specs.declared.verb.Answer.TheVariants as answer
use Rattle.pw_onecopy.specs.Operation.{answer_of, records_behind}
use Rattle.pw_onecopy.specs.Path.{FileResult}
use Rattle.pw_onecopy.specs.Update.{upd}
use Rattle.pw_tree_meaning.specs.Program.{DeckModel, key_length, file_number}
use Rattle.pw_tree_meaning.specs.Store.{Spot}
use Rattle.pw_tree_meaning.specs.State.{ProgramState, Out, Goes, Asks}
use Rattle.pw_tree_meaning.specs.Setting.{Setting}
use Rattle.pw_tree_meaning.specs.Operands.{spot_in, chars_in, with_operand}
use Rattle.pw_tree_meaning.specs.Moves.{move_text}

-- ---- file operations

-- the record that was read is moved INTO an item, at status 0 alone
abbrev pub moved_into : Option Spot → ℕ → Option (List ℕ) → ProgramState → ProgramState
moved_into (Some spot) status (Some content) s = if status == 0 then move_text content spot s else s
moved_into _ status content s = s

-- what follows an operation: FILE-STATUS is its status
abbrev pub file_done : Option Spot → ℕ → Option (List ℕ) → ProgramState → Out
file_done into status content s =
    Goes (moved_into into status content
    (record s { registers = record s.registers { file_status = status } }))

-- behind the answer to an operation
abbrev pub file_answered : Option Spot → Answer → ProgramState → Out
file_answered into (answer.FileDone status content) s = file_done into status content s
file_answered into _ s = Goes s

-- an operation is asked; behind its answer the count goes on, since a server's run counts as a
-- whole
abbrev pub operation_asked : FileCall → Option Spot → List Answer → ProgramState → Out
operation_asked call into [] s = Asks (verb.File call) s
operation_asked call into (a ∷ answers) s =
    file_answered into a (record s { answers = answers })

-- a server run by itself does the operation on its files
abbrev pub operation_done : DeckModel → FileCall → Option Spot → ProgramState → Out
operation_done deck call into s =
    let n = key_length deck call.file in
    let records = s.files call.file in
    let found : FileResult = answer_of n records call.op call in
    file_done into found.status found.content
    (record s { files = upd s.files call.file (records_behind n records call) })

-- an operation: it is asked, or done where the server runs by itself
abbrev pub operates : Setting → FileCall → Option Spot → ProgramState → Out
operates setting call into s =
    if setting.alone then operation_done setting.deck call into s
    else operation_asked call into s.answers s

-- ---- the statements

-- an operation with a key on a file of a name
abbrev pub call_by_key : Setting → FileOp → Word → List ℕ → FileCall
call_by_key setting op file key =
    record { file = file_number setting.deck file; op = op; key = key; content = [] }

-- an operation with a record
abbrev pub call_by_record : Setting → FileOp → Word → List ℕ → FileCall
call_by_record setting op file content =
    record { file = file_number setting.deck file; op = op; key = []; content = content }

-- READ and READ NEXT, with the key item and the item INTO which the record goes
abbrev pub read_by : Setting → FileOp → Word → Operand → Operand → ProgramState → Out
read_by setting op file key into s =
    with_operand setting.program key s (λ found.
    with_operand setting.program into s (λ item.
    operates setting (call_by_key setting op file (chars_in found s.store))
    (Some (spot_in item)) s))

-- READ, WITH LOCK or without
abbrev pub read : Setting → Word → Bool → Operand → Operand → ProgramState → Out
read setting file locking key into s =
    read_by setting (if locking then ReadLock else Read) file key into s

-- READ NEXT, WITH LOCK or without
abbrev pub read_next : Setting → Word → Bool → Operand → Operand → ProgramState → Out
read_next setting file locking after into s =
    read_by setting (if locking then NextLock else Next) file after into s

-- WRITE and REWRITE
abbrev pub write_by : Setting → FileOp → Word → Operand → ProgramState → Out
write_by setting op file from s =
    with_operand setting.program from s (λ found.
    operates setting (call_by_record setting op file (chars_in found s.store)) None s)

-- DELETE
abbrev pub delete : Setting → Word → Operand → ProgramState → Out
delete setting file key s =
    with_operand setting.program key s (λ found.
    operates setting (call_by_key setting Delete file (chars_in found s.store)) None s)

-- READ $RECEIVE: the message is moved as a text
abbrev pub receive : Setting → Operand → ProgramState → Out
receive setting into s =
    with_operand setting.program into s (λ item. Goes (move_text setting.message (spot_in item) s))

-- WRITE $RECEIVE: the reply, with which the run ends
abbrev pub reply : Setting → Operand → ProgramState → Out
reply setting from s =
    with_operand setting.program from s (λ found. Asks (verb.Reply (chars_in found s.store)) s)
