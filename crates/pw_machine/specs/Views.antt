-- What the machine works on, in the words of the meaning of compiled code.
use Rattle.std.specs.Prelude.{◌≡◌, ℕ, ◌+◌, ◌≤◌, IfSome}
use Rattle.pw_picture.specs.Grammar.{IsPicture, size_of}
use Rattle.pw_code.specs.Places.{picture_of}
use Rattle.pw_code.specs.declared.operand.InstructionOperand.{InstructionOperand}
use Rattle.pw_code.specs.declared.operand.InstructionOperand.TheVariants as operand
use Rattle.pw_code_meaning.specs.Reading.{Registers, Spot}
use Rattle.pw_code_meaning.specs.Reading as reading
use Rattle.pw_tree_meaning.specs.Values.{Register, Number', Text', Spaces', Zeros'}
use Rattle.pw_machine.specs.declared.registers.MachineRegisters as own
use Rattle.pw_machine.specs.declared.spot.MachineSpot as spots
use Rattle.pw_machine.specs.declared.spot.MachineOperand as takens
use Rattle.pw_machine.specs.declared.spot.MachineOperand.TheVariants as found

-- registers
abbrev pub registers_by : own.MachineRegisters → Registers
registers_by r = record { termination = r.termination; restarts = r.restarts; file_status = r.file_status }

-- a spot
abbrev pub spot_by : spots.MachineSpot → Spot
spot_by spot = record { at = spot.at; size = spot.size; picture = picture_of spot.kind spot.size }

-- an operand that was taken
abbrev pub fixed_by : InstructionOperand → reading.ResolvedOperand
fixed_by (operand.Number spelling value) = reading.Fixed (Number' spelling)
fixed_by (operand.Text chars) = reading.Fixed (Text' chars)
fixed_by operand.Zeros = reading.Fixed Zeros'
fixed_by _ = reading.Fixed Spaces'

-- an operand that was taken, as the machine has it
abbrev pub taken_by : InstructionOperand → takens.MachineOperand → reading.ResolvedOperand
taken_by one (found.Stored spot) = reading.Stored (spot_by spot)
taken_by one (found.Register digits value) = reading.Fixed (Register digits value)
taken_by one found.Fixed = fixed_by one

-- a spot of a storage of this size, which is as long as its picture says
pub record IsSpot (storage : ℕ) (spot : spots.MachineSpot) : Type 0 where
  pub inside : spot.at + spot.size ≤ storage
  pub picture : IfSome (picture_of spot.kind spot.size) (λ p. IsPicture p × (size_of p ≡ spot.size))

-- an operand that was taken from such a storage
abbrev pub IsTaken : ℕ → takens.MachineOperand → Type 0
IsTaken storage (found.Stored spot) = IsSpot storage spot
IsTaken storage (found.Register digits value) = digits ≤ 5
IsTaken storage found.Fixed = Unit {0}
