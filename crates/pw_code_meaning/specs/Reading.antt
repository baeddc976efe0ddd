-- How operands are read: subscripts are taken once, when an instruction begins.
pub use Rattle.pw_tree_meaning.specs.State.{Registers}
pub use Rattle.pw_tree_meaning.specs.Store.{Spot}
pub use Rattle.pw_tree_meaning.specs.Operands.{ResolvedOperand, Stored, Fixed, one_more}
use Rattle.std.specs.Prelude.{ℕ, ◌+◌, ◌-◌, ◌*◌, ◌&&◌, nat_le, false, List, [], ◌∷◌, take, drop, Option, Some, None, option_map, if◌then◌else◌}
use Rattle.pw_picture.specs.declared.picture.Picture.{Picture}
use Rattle.pw_picture.specs.declared.picture.Picture.TheVariants as picture
use Rattle.pw_picture.specs.Stored.{read_of}
use Rattle.pw_code.specs.Instrs.{digits_of_register}
use Rattle.pw_code.specs.Places.{picture_of}
use Rattle.pw_code.specs.declared.context.Context.{Context}
use Rattle.pw_code.specs.declared.operand.InstructionOperand.{InstructionOperand}
use Rattle.pw_code.specs.declared.operand.InstructionOperand.TheVariants as operand
use Rattle.pw_code.specs.declared.place.StoragePlace.{StoragePlace}
use Rattle.pw_code.specs.declared.place.Register as registers
use Rattle.pw_code.specs.declared.place.Register.TheVariants as register
use Rattle.pw_code.specs.declared.place.PlaceSubscript.{PlaceSubscript}
use Rattle.pw_code.specs.declared.place.PlaceSubscript.TheVariants as subscript
use Rattle.pw_code.specs.declared.place.PlaceTable.{PlaceTable}
use Rattle.pw_terminal.specs.Shown.{written}
use Rattle.pw_tree_meaning.specs.Values.{Value, Chars, Register, Number', Text', Spaces', Zeros', whole_part}

-- ---- registers

-- those of a context
abbrev pub registers_of : Context → Registers
registers_of context =
    record {
      termination = context.termination;
      restarts = context.restarts;
      file_status = context.file_status;
    }

-- the value of a register
abbrev pub register_value : Registers → registers.Register → ℕ
register_value registers register.Termination = registers.termination
register_value registers register.Restarts = registers.restarts
register_value registers register.FileStatus = registers.file_status

-- ---- spots

-- the characters of a spot
abbrev pub chars_at : Spot → List ℕ → List ℕ
chars_at spot storage = take spot.size (drop spot.at storage)

-- the storage with these characters in a spot
abbrev pub put_at : Spot → List ℕ → List ℕ → List ℕ
put_at spot chars storage = written spot.at chars storage

-- the value of a subscript: the whole part of a number
abbrev pub subscript_of : Registers → List ℕ → PlaceSubscript → ℕ
subscript_of registers storage (subscript.Number k) = k
subscript_of registers storage (subscript.Item at digits places) =
    whole_part (read_of (picture.Number digits places false) (take digits (drop at storage)))
subscript_of registers storage (subscript.Register r) = register_value registers r

-- where the k-th occurrence begins; none where k is outside 1 to OCCURS
abbrev pub occurrence_at : ℕ → PlaceTable → ℕ → Option ℕ
occurrence_at at table k =
    if nat_le 1 k && nat_le k table.occurs then Some (at + (k - 1) * table.step) else None

-- where the occurrence begins that is meant at this moment
abbrev pub at_this_moment : Registers → List ℕ → ℕ → Option PlaceTable → Option ℕ
at_this_moment registers storage at None = Some at
at_this_moment registers storage at (Some table) =
    occurrence_at at table (subscript_of registers storage table.subscript)

-- the spot of a place
abbrev pub spot_at : StoragePlace → ℕ → Spot
spot_at place at = record { at = at; size = place.size; picture = picture_of place.kind place.size }

-- where an item lies at this moment, nothing where its subscript is outside
abbrev pub spot_of : Registers → List ℕ → StoragePlace → Option Spot
spot_of registers storage place =
    option_map (spot_at place) (at_this_moment registers storage place.at place.table)

-- the spots of places
abbrev pub spots_of : Registers → List ℕ → List StoragePlace → Option (List Spot)
spots_of registers storage [] = Some []
spots_of registers storage (place ∷ places) =
    one_more (spot_of registers storage place) (spots_of registers storage places)

-- ---- operands

-- an operand at this moment; none where its subscript is outside
abbrev pub code_operand_taken : Registers → List ℕ → InstructionOperand → Option ResolvedOperand
code_operand_taken registers storage (operand.Item place) = option_map Stored (spot_of registers storage place)
code_operand_taken registers storage (operand.Register r) =
    Some (Fixed (Register (digits_of_register r) (register_value registers r)))
code_operand_taken registers storage (operand.Number spelling value) = Some (Fixed (Number' spelling))
code_operand_taken registers storage (operand.Text chars) = Some (Fixed (Text' chars))
code_operand_taken registers storage operand.Spaces = Some (Fixed Spaces')
code_operand_taken registers storage operand.Zeros = Some (Fixed Zeros')

-- what it says
abbrev pub value_in : List ℕ → ResolvedOperand → Value
value_in storage (Stored spot) = Chars spot.picture (chars_at spot storage)
value_in storage (Fixed value) = value

-- an operand as it is read at this moment
abbrev pub read : Registers → List ℕ → InstructionOperand → Option Value
read registers storage one = option_map (value_in storage) (code_operand_taken registers storage one)
