-- SEND and the verbs of transactions.
use Rattle.std.specs.Prelude.{ℕ, ◌+◌, ◌==◌, ◌&&◌, true, false, List, length, take, map, position, slice_get, Option, Some, None, option_map, option_and_then, if◌then◌else◌}
use Rattle.std.specs.Char.{is_ascii_digit}
use Rattle.std.specs.List.{list_all}
use Rattle.pw_words.specs.Words.{Word}
use Rattle.pw_picture.specs.Stored.{value_of}
use Rattle.pw_forms.specs.declared.operand.Operand.{Operand}
use Rattle.pw_forms.specs.declared.lists.SendCode.{SendCode}
use Rattle.pw_code.specs.declared.verb.Verb.TheVariants as verb
use Rattle.pw_code.specs.declared.verb.Answer.{Answer}
use Rattle.pw_code.specs.declared.verb.Answer.TheVariants as answer
use Rattle.pw_tree_meaning.specs.Program.{class_number}
use Rattle.pw_tree_meaning.specs.Store.{Spot}
use Rattle.pw_tree_meaning.specs.State.{ProgramState, Out, Goes, Asks, faults, asks}
use Rattle.pw_tree_meaning.specs.Setting.{Setting}
use Rattle.pw_tree_meaning.specs.Operands.{spot_in, chars_in, with_operand, with_operands}
use Rattle.pw_tree_meaning.specs.Moves.{move_text}

-- ---- SEND

-- the code of a reply: its first 4 characters, where they are digits
abbrev pub code_in_reply : List ℕ → Option ℕ
code_in_reply reply =
    let chars = take 4 reply in
    if length chars == 4 && list_all is_ascii_digit chars then Some (value_of 0 chars) else None

-- the place, from 0, of the first CODE equal to a code
abbrev pub reply_code_place : List SendCode → ℕ → Option ℕ
reply_code_place codes code = position (λ one. one.number == code) codes

-- that of a reply's code, with the item to which the reply goes
abbrev pub item_at : List Spot → ℕ → Option (ℕ × Spot)
item_at items place = option_map (λ item. (place, item)) (slice_get items place)

-- the place of the first code equal to the reply's, and the spot of its item
abbrev pub found_by : List SendCode → List Spot → List ℕ → Option (ℕ × Spot)
found_by codes items reply =
    option_and_then (item_at items) (option_and_then (reply_code_place codes) (code_in_reply reply))

-- the reply is moved to its item and TERMINATION-STATUS is the position, from 1; without one it is
-- NOCODE
abbrev pub yielded : Option (ℕ × Spot) → List ℕ → ProgramState → Out
yielded None reply s = faults 204 s
yielded (Some found) reply s =
    Goes (move_text reply found.1
    (record s { registers = record s.registers { termination = found.0 + 1 } }))

-- what follows the answer to a Send: a server's run fault is the program's
abbrev pub after_send_answer : List SendCode → List Spot → Answer → ProgramState → Out
after_send_answer codes items (answer.Replied reply) s = yielded (found_by codes items reply) reply s
after_send_answer codes items (answer.Failed code) s = faults code s
after_send_answer codes items _ s = Goes s

-- the items of YIELDS
abbrev pub yields_of : List SendCode → List Operand
yields_of codes = map (λ code. code.yields) codes

-- SEND: the message and the items of its codes are taken, and it is asked
abbrev pub send : Setting → Operand → Word → List SendCode → ProgramState → Out
send setting message class codes s =
    with_operand setting.program message s (λ found.
    with_operands setting.program (yields_of codes) s (λ items.
    asks (verb.Send (class_number setting.deck class) (chars_in found s.store))
    (after_send_answer codes (map spot_in items)) s))

-- ---- transactions

-- what follows the answer to a Begin: RESTART-COUNTER is the number of restarts
abbrev pub after_begin_answer : Answer → ProgramState → Out
after_begin_answer (answer.Begun r) s =
    Goes (record s { in_unit = true; registers = record s.registers { restarts = r } })
after_begin_answer _ s = Goes s

-- BEGIN-TRANSACTION: in a transaction it is NESTED
abbrev pub begin : ProgramState → Out
begin s = if s.in_unit then faults 205 s else asks verb.Begin after_begin_answer s

-- behind the end of a transaction
abbrev pub outside : Answer → ProgramState → Out
outside _ s = Goes (record s { in_unit = false })

-- END-, ABORT- and RESTART-TRANSACTION: outside a transaction each is NOUNIT
abbrev pub end : ProgramState → Out
end s = if s.in_unit then asks verb.End outside s else faults 206 s

-- ABORT-TRANSACTION, which outside a transaction is run fault 206
abbrev pub abort : ProgramState → Out
abort s = if s.in_unit then asks verb.Drop outside s else faults 206 s

-- RESTART-TRANSACTION, which outside a transaction is run fault 206
abbrev pub restart : ProgramState → Out
restart s = if s.in_unit then Asks verb.Redo s else faults 206 s

-- STOP RUN, and EXIT PROGRAM or the end outside a called program: in a transaction it is OPENUNIT,
-- in a server NOREPLY
abbrev pub stop : Setting → ProgramState → Out
stop setting s =
    if setting.is_server then faults 209 s
    else if s.in_unit then faults 207 s
    else Asks verb.Stop s
