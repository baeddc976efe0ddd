-- Where a run of compiled code stands, and how it goes on from there.
pub use Rattle.pw_tree_meaning.specs.State.{most_counted}
use Rattle.std.specs.Prelude.{ℕ, ◌+◌, ◌-◌, nat_lt, Bool, true, false, List, [], ◌∷◌, ◌++◌, length, Option, Some, None, slice_index_or, if◌then◌else◌}
use Rattle.pw_terminal.specs.Screen.{blank_cells}
use Rattle.pw_code.specs.Instrs.{no_code, program_at}
use Rattle.pw_code.specs.declared.code.Code.{Code}
use Rattle.pw_code.specs.declared.context.Context.{Context}
use Rattle.pw_code.specs.declared.context.Course.TheVariants.{Instruction, Fault}
use Rattle.pw_code.specs.declared.context.Frame.{Frame}
use Rattle.pw_code.specs.declared.system.System.{System}

-- the program at work, and all else: of that the frames are those of the programs that wait for
-- it, its caller last
pub record Config : Type 0 where
  pub top : Frame
  pub rest : Context

-- the context of a configuration: its program stands behind those that wait for it
abbrev pub closed : Config → Context
closed c = record c.rest { frames = c.rest.frames ++ c.top ∷ [] }

-- ---- codes

-- the code of a number: those of terminals come first, and those of servers behind them
abbrev pub code_at : System → ℕ → Code
code_at system n =
    if nat_lt n (length system.programs) then program_at system n
    else slice_index_or system.servers (n - length system.programs) no_code

-- the code of the program at work
abbrev pub code_of : System → Config → Code
code_of system c = code_at system c.top.program

-- the program at work is a server
abbrev pub is_server : System → Config → Bool
is_server system c = if nat_lt c.top.program (length system.programs) then false else true

-- ---- beginnings

-- a context before anything was answered, without a program
abbrev pub fresh : Context
fresh = record {
  termination = 0;
  restarts = 0;
  file_status = 0;
  phase = 0;
  attempt = 0;
  shown = 0;
  entries = 0;
  units = 0;
  in_unit = false;
  course = Instruction;
  at_verb = false;
  count = 0;
  screen = blank_cells;
  frames = [];
}

-- a program at its first instruction, over a storage
abbrev pub frame_at : ℕ → List ℕ → Frame
frame_at program storage = record { program = program; at = 0; storage = storage; returns = [] }

-- a program of a terminal that starts
abbrev pub starting : System → ℕ → Config
starting system program =
    record { top = frame_at program (program_at system program).storage; rest = fresh }

-- a server that starts: its message lies behind its items
abbrev pub starting_server : System → ℕ → List ℕ → Config
starting_server system server message =
    let program = length system.programs + server in
    record { top = frame_at program ((code_at system program).storage ++ message); rest = fresh }

-- ---- how it goes on

-- at its next verb
abbrev pub asks : Config → Config
asks c = record c { rest = record c.rest { at_verb = true } }

-- at a run fault
abbrev pub faults : ℕ → Config → Config
faults code c = record c { rest = record c.rest { course = Fault code; at_verb = true } }

-- a statement or a turn begins: it counts one, and where it would be number 100,001 it is LOOP
abbrev pub code_statement_counted : (Config → Config) → Config → Config
code_statement_counted next c =
    if nat_lt c.rest.count most_counted
    then next (record c { rest = record c.rest { count = c.rest.count + 1 } })
    else faults 201 c

-- behind the instruction, and behind so many more
abbrev pub on : Config → Config
on c = record c { top = record c.top { at = c.top.at + 1 } }

-- behind the instruction, and so many more
abbrev pub over : ℕ → Config → Config
over n c = record c { top = record c.top { at = c.top.at + 1 + n } }

-- with another storage of the program at work
abbrev pub with_storage : List ℕ → Config → Config
with_storage storage c = record c { top = record c.top { storage = storage } }

-- where subscripts were taken the instruction goes on, and where one is outside it is SUBSCRIPT
abbrev pub with_taken : {A : Type 0} → Option A → (A → Config → Config) → Config → Config
with_taken None next c = faults 203 c
with_taken (Some found) next c = next found c
