-- PERFORM and CALL, over what one turn of a paragraph and a called program do.
use Rattle.std.specs.Prelude.{ℕ, zero, suc, ◌+◌, ◌-◌, ◌*◌, Bool, true, false, List, [], ◌∷◌, length, map, slice_get, Option, Some, None}
use Rattle.pw_words.specs.Words.{Word}
use Rattle.pw_data.specs.declared.item.Item.{Item}
use Rattle.pw_forms.specs.declared.operand.Operand.{Operand}
use Rattle.pw_forms.specs.declared.cond.ConditionForm.{ConditionForm}
use Rattle.pw_tree_meaning.specs.Program.{DeckModel, Program, program_at, program_number, item_named}
use Rattle.pw_tree_meaning.specs.Store.{Store, Spot, spot_of, no_spot, chars_at, put_at}
use Rattle.pw_tree_meaning.specs.State.{ProgramState, Out, Goes, Leaves, Asks, then_do, faults, statement_counted, most_counted}
use Rattle.pw_tree_meaning.specs.Setting.{Setting}
use Rattle.pw_tree_meaning.specs.Operands.{spot_in, value_in, with_operand, with_operands}
use Rattle.pw_tree_meaning.specs.Values.{number_of, whole_part}
use Rattle.pw_tree_meaning.specs.Conditions.{holds}

-- ---- PERFORM: each turn counts one, and then the depth is looked at

-- so many turns
abbrev pub turns : ℕ → (ProgramState → Out) → ProgramState → Out
turns zero turn s = Goes s
turns (suc n) turn s = then_do (statement_counted turn s) (turns n turn)

-- what a test gives: on, or one turn more, or SUBSCRIPT
abbrev pub tested : Option Bool → (ProgramState → Out) → ProgramState → Out
tested None turn s = faults 203 s
tested (Some true) turn s = Goes s
tested (Some false) turn s = turn s

-- turns until a condition holds, which is tested before each; n: more than the turns that can be
-- counted
abbrev pub turns_until : ℕ → (ProgramState → Option Bool) → (ProgramState → Out) → ProgramState → Out
turns_until zero done turn s = tested (done s) (faults 201) s
turns_until (suc n) done turn s =
    tested (done s) (λ t. then_do (statement_counted turn t) (turns_until n done turn)) s

-- the most statements and turns that can be counted from here
abbrev pub budget : ProgramState → ℕ
budget s = most_counted - s.count + most_counted * length s.answers

-- PERFORM p num TIMES: the value's whole part, read once; below 1 there is no turn
abbrev pub perform_times : Setting → (ProgramState → Out) → Operand → ProgramState → Out
perform_times setting turn times s =
    with_operand setting.program times s (λ found.
    turns (whole_part (number_of (value_in found s.store))) turn s)

-- PERFORM p UNTIL cond: each test takes the values and subscripts of its moment
abbrev pub perform_until : Setting → (ProgramState → Out) → ConditionForm → ProgramState → Out
perform_until setting turn cond s =
    turns_until (budget s) (λ t. holds setting.program t cond) turn s

-- the paragraph at a position from 1, if there is one
abbrev pub at_position : List Word → ℕ → Option Word
at_position names zero = None
at_position names (suc place) = slice_get names place

-- a turn of the paragraph, where there is one
abbrev pub perform_chosen : (Word → ProgramState → Out) → Option Word → ProgramState → Out
perform_chosen perform None s = Goes s
perform_chosen perform (Some name) s = statement_counted (perform name) s

-- PERFORM ONE OF p .. DEPENDING ON item
abbrev pub perform_one_of : Setting → (Word → ProgramState → Out) → List Word → Operand → ProgramState → Out
perform_one_of setting perform names position s =
    with_operand setting.program position s (λ found.
    perform_chosen perform (at_position names (whole_part (number_of (value_in found s.store)))) s)

-- ---- CALL

-- the item of a USING name
abbrev pub spot_by : Option Item → Spot
spot_by None = no_spot
spot_by (Some item) = spot_of item 1

-- where the items of USING lie
abbrev pub parameter_spots : Program → List Spot
parameter_spots program = map (λ name. spot_by (item_named program name)) program.parameters

-- each item gets its characters, from left to right
abbrev pub put_all : List Spot → List (List ℕ) → Store → Store
put_all [] chars store = store
put_all (spot ∷ spots) [] store = store
put_all (spot ∷ spots) (chars ∷ rest) store = put_all spots rest (put_at spot chars store)

-- the characters of each item
abbrev pub chars_of_all : List Spot → Store → List (List ℕ)
chars_of_all spots store = map (λ spot. chars_at spot store) spots

-- the caller goes on with its own store, and the arguments are copied back to the places from
-- before the call
abbrev pub caller_state : Program → List Spot → Store → ProgramState → ProgramState
caller_state callee places store s =
    record s { store = put_all places (chars_of_all (parameter_spots callee) s.store) store }

-- a caller goes on behind its CALL, with its arguments copied back
abbrev pub comes_back : Program → List Spot → Store → Out → Out
comes_back callee places store (Goes s) = Goes (caller_state callee places store s)
comes_back callee places store (Leaves s) = Goes (caller_state callee places store s)
comes_back callee places store (Asks v s) = Asks v s

-- a program of a number is called with the arguments at these places
abbrev pub call_at : DeckModel → (ℕ → List (List ℕ) → ProgramState → Out) → ℕ → List Spot → ProgramState → Out
call_at deck call q places s =
    comes_back (program_at deck.programs q) places s.store (call q (chars_of_all places s.store) s)

-- CALL program [USING item ..]
abbrev pub call_program : Setting → (ℕ → List (List ℕ) → ProgramState → Out) → Word → List Operand
    → ProgramState → Out
call_program setting call name arguments s =
    with_operands setting.program arguments s (λ found.
    call_at setting.deck call (program_number setting.deck name) (map spot_in found) s)
