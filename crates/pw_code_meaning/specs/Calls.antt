-- CALL, and how a called program is left.
pub use Rattle.pw_code.specs.Limits.{most_active}
pub use Rattle.pw_tree_meaning.specs.Runs.{most_calls}
use Rattle.std.specs.Prelude.{ℕ, ◌+◌, nat_lt, Bool, true, false, List, [], ◌∷◌, ◌++◌, length, take, drop, map, sum_by, Option, Some, None, slice_get, if◌then◌else◌}
use Rattle.pw_picture.specs.Stored.{digits_of, value_of}
use Rattle.pw_terminal.specs.Shown.{written}
use Rattle.pw_code.specs.Instrs.{program_at}
use Rattle.pw_code.specs.declared.context.Context.{Context}
use Rattle.pw_code.specs.declared.context.Frame.{Frame}
use Rattle.pw_code.specs.declared.instr.Instr.{Instr}
use Rattle.pw_code.specs.declared.instr.Instr.TheVariants.{Call}
use Rattle.pw_code.specs.declared.system.System.{System}
use Rattle.pw_code_meaning.specs.Config.{Config, code_at, is_server, frame_at, asks, faults}
use Rattle.pw_code_meaning.specs.Reading.{Registers, registers_of, Spot, chars_at, put_at, spots_of}
use Rattle.pw_code_meaning.specs.Turns.{split_last}

-- the characters of the items of a program, and of all programs at work
abbrev pub items_of : System → Frame → ℕ
items_of system frame = length (code_at system frame.program).storage

-- how many characters the items of all programs at work have
abbrev pub active : System → Config → ℕ
active system c = sum_by (items_of system) c.rest.frames + items_of system c.top

-- ---- arguments

-- each linkage item gets its characters, from left to right
abbrev pub put_linkage : List (ℕ × ℕ) → List (List ℕ) → List ℕ → List ℕ
put_linkage [] chars storage = storage
put_linkage (item ∷ items) [] storage = storage
put_linkage (item ∷ items) (chars ∷ rest) storage =
    put_linkage items rest (written item.0 chars storage)

-- the characters of each linkage item
abbrev pub linkage_chars : List (ℕ × ℕ) → List ℕ → List (List ℕ)
linkage_chars items storage = map (λ item. take item.1 (drop item.0 storage)) items

-- each spot gets its characters, from left to right
abbrev pub put_all : List Spot → List (List ℕ) → List ℕ → List ℕ
put_all [] chars storage = storage
put_all (spot ∷ spots) [] storage = storage
put_all (spot ∷ spots) (chars ∷ rest) storage = put_all spots rest (put_at spot chars storage)

-- ---- the registers that a CALL keeps, by which its arguments' subscripts go also when they are
-- copied back

-- the digits of the registers, where the CALL keeps them
abbrev pub kept : Bool → Registers → List ℕ
kept true registers = digits_of 4 registers.termination ++ digits_of 5 registers.restarts
kept false registers = []

-- the registers that a CALL kept in these characters
abbrev pub kept_in : List ℕ → Registers
kept_in chars = record {
  termination = value_of 0 (take 4 chars);
  restarts = value_of 0 (take 5 (drop 4 chars));
  file_status = 0;
}

-- those of a CALL, whose called program has so many characters of items
abbrev pub registers_at_call : Bool → ℕ → Frame → Context → Registers
registers_at_call true items callee context = kept_in (drop items callee.storage)
registers_at_call false items callee context = registers_of context

-- ---- CALL

-- a called program starts with its initial storage, into which its arguments are copied
abbrev pub called_frame : System → ℕ → List Spot → Bool → Config → Frame
called_frame system program places keeps c =
    let code = program_at system program in
    frame_at program
    (put_linkage code.linkage (map (λ spot. chars_at spot c.top.storage) places) code.storage
    ++ kept keeps (registers_of c.rest))

-- The program at work calls another. First the depth is looked at, and then the storage.
abbrev pub calls : System → ℕ → Bool → List Spot → Config → Config
calls system program keeps places c =
    if nat_lt (length c.rest.frames) most_calls
    then (if nat_lt most_active (active system c + length (program_at system program).storage)
    then faults 208 c
    else record {
      top = called_frame system program places keeps c;
      rest = record c.rest { frames = c.rest.frames ++ c.top ∷ [] };
    })
    else faults 202 c

-- ---- the end of a program

-- STOP RUN: in a server NOREPLY, in a transaction OPENUNIT
abbrev pub stops : System → Config → Config
stops system c =
    if is_server system c then faults 209 c else if c.rest.in_unit then faults 207 c else asks c

-- the caller's storage with the arguments copied back
abbrev pub copied_back : Option (List Spot) → List (List ℕ) → List ℕ → List ℕ
copied_back None chars storage = storage
copied_back (Some places) chars storage = put_all places chars storage

-- the storage of a caller that goes on behind an instruction, its CALL
abbrev pub storage_behind : System → Option Instr → Frame → Frame → Context → List ℕ
storage_behind system (Some (Call program arguments keeps)) caller callee context =
    let code = code_at system callee.program in
    copied_back
    (spots_of (registers_at_call keeps (length code.storage) callee context) caller.storage arguments)
    (linkage_chars code.linkage callee.storage) caller.storage
storage_behind system _ caller callee context = caller.storage

-- the caller goes on behind its CALL
abbrev pub returned : System → List Frame → Frame → Config → Config
returned system before caller c = record {
  top = record caller {
    at = caller.at + 1;
    storage =
        storage_behind system (slice_get (code_at system caller.program).instrs caller.at) caller c.top c.rest;
  };
  rest = record c.rest { frames = before };
}

-- a program is left: the one that no other called stops
abbrev pub leaves_by : System → Option (List Frame × Frame) → Config → Config
leaves_by system None c = stops system c
leaves_by system (Some found) c = returned system found.0 found.1 c

-- a program is left: its caller goes on, and one that no other called stops
abbrev pub leaves : System → Config → Config
leaves system c = leaves_by system (split_last c.rest.frames) c
