-- MOVE and arithmetic as a whole: all their operands are taken first.
use Rattle.std.specs.Prelude.{ℕ, List, Option, Some, None, option_map}
use Rattle.pw_code.specs.declared.operand.InstructionOperand.{InstructionOperand}
use Rattle.pw_code.specs.declared.place.StoragePlace.{StoragePlace}
use Rattle.pw_code.specs.declared.instr.Arithmetic.{Arithmetic}
use Rattle.pw_code_meaning.specs.Moves.{moves, operands_of, result_of}
use Rattle.pw_code_meaning.specs.Reading.{Registers, Spot, ResolvedOperand, code_operand_taken, spots_of}

-- the storage behind moves to spots; none where a subscript is outside
abbrev pub moved_by : Option ResolvedOperand → Option (List Spot) → List ℕ → Option (List ℕ)
moved_by None targets storage = None
moved_by (Some source) None storage = None
moved_by (Some source) (Some targets) storage = Some (moves source targets storage)

-- the storage behind MOVE
abbrev pub moved_all : Registers → List ℕ → InstructionOperand → List StoragePlace → Option (List ℕ)
moved_all registers storage from to = moved_by (code_operand_taken registers storage from) (spots_of registers storage to) storage

-- the storage behind arithmetic: none where a subscript is outside, and none in that on a size error
abbrev pub computed_all : Registers → List ℕ → Arithmetic → Option (Option (List ℕ))
computed_all registers storage a =
    option_map (λ found. result_of a.operation found storage) (operands_of registers storage a)
