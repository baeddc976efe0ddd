-- What a run has at a moment, how it goes on, and what it asks.
use Rattle.std.specs.Prelude.{ℕ, ◌+◌, nat_lt, Bool, List, [], ◌∷◌, if◌then◌else◌}
use Rattle.pw_code.specs.declared.verb.Verb.{Verb}
use Rattle.pw_code.specs.declared.verb.Verb.TheVariants as verb
use Rattle.pw_code.specs.declared.verb.Answer.{Answer}
use Rattle.pw_tree_meaning.specs.Store.{Store}

-- the registers: common to all programs of a terminal, 0 at the start
pub record Registers : Type 0 where
  pub termination : ℕ
  pub restarts : ℕ
  pub file_status : ℕ

-- registers that are zero
abbrev pub no_registers : Registers
no_registers = record { termination = 0; restarts = 0; file_status = 0 }

-- A run at a moment: the statements and turns counted so far, the answers still to come, the store
-- of the program at work, the registers, whether a transaction is open, the cells of the screen,
-- and the files of a server run by itself.
pub record ProgramState : Type 0 where
  pub count : ℕ
  pub answers : List Answer
  pub store : Store
  pub registers : Registers
  pub in_unit : Bool
  pub screen : List ℕ
  pub files : ℕ → List (List ℕ)

-- How a statement ends: the next one follows, or the program is left, or this is asked and no
-- answer is left.
pub data Out : Type 0 where
  Goes : (s : ProgramState) → Out
  Leaves : (s : ProgramState) → Out
  Asks : (verb : Verb) (s : ProgramState) → Out

-- what follows where a statement goes on
abbrev pub then_do : Out → (ProgramState → Out) → Out
then_do (Goes s) next = next s
then_do (Leaves s) next = Leaves s
then_do (Asks v s) next = Asks v s

-- a run fault
abbrev pub faults : ℕ → ProgramState → Out
faults code s = Asks (verb.Fault code) s

-- the most statements and turns between two answers
abbrev pub most_counted : ℕ
most_counted = 100000

-- a statement or a turn begins: it counts one, and where it would be number 100,001 it is LOOP
abbrev pub statement_counted : (ProgramState → Out) → ProgramState → Out
statement_counted next s =
    if nat_lt s.count most_counted then next (record s { count = s.count + 1 }) else faults 201 s

-- a verb of a terminal with the answers that are left; behind an answer the count is 0 again
abbrev pub asked : Verb → (Answer → ProgramState → Out) → List Answer → ProgramState → Out
asked v next [] s = Asks v s
asked v next (answer ∷ answers) s = next answer (record s { count = 0; answers = answers })

-- a verb of a terminal is asked, and what follows its answer
abbrev pub asks : Verb → (Answer → ProgramState → Out) → ProgramState → Out
asks v next s = asked v next s.answers s
