-- MOVE and arithmetic.
pub use Rattle.pw_tree_meaning.specs.Arithmetic.{receiver_decimals}
pub use Rattle.pw_tree_meaning.specs.Moves.{moved_chars}
use Rattle.std.specs.Prelude.{ℕ, List, [], ◌∷◌, Option, Some, None, Result, Ok, Err, if◌then◌else◌}
use Rattle.pw_number.specs.Number.{Number}
use Rattle.pw_number.specs.Arithmetic.{sized, sum, difference, product, cut, divided}
use Rattle.pw_number.specs.declared.size_error.SizeError.{SizeError}
use Rattle.pw_picture.specs.declared.picture.Picture.{Picture}
use Rattle.pw_picture.specs.Stored.{is_kept, moved}
use Rattle.pw_code.specs.declared.instr.Arithmetic.{Arithmetic}
use Rattle.pw_code.specs.declared.instr.ArithmeticOperation.{ArithmeticOperation}
use Rattle.pw_code.specs.declared.instr.ArithmeticOperation.TheVariants as operation
use Rattle.pw_tree_meaning.specs.Values.{Value, Text', number_of}
use Rattle.pw_code_meaning.specs.Reading.{Registers, Spot, put_at, ResolvedOperand, value_in, read, spot_of}

-- ---- MOVE

-- one move of a value to a spot
abbrev pub move_value : Value → Spot → List ℕ → List ℕ
move_value source target storage =
    put_at target (moved_chars target.picture target.size source) storage

-- a message, a record or a reply is moved to a spot as a text
abbrev pub move_text : List ℕ → Spot → List ℕ → List ℕ
move_text chars target storage = move_value (Text' chars) target storage

-- one move to each spot, from left to right: each reads its source anew
abbrev pub moves : ResolvedOperand → List Spot → List ℕ → List ℕ
moves source [] storage = storage
moves source (target ∷ targets) storage =
    moves source targets (move_value (value_in storage source) target storage)

-- ---- arithmetic

-- the result of an operation of the first operand on the second; a quotient has the places of the
-- receiver
abbrev pub operated : ArithmeticOperation → ℕ → Number → Number → Result Number SizeError
operated operation.Add places first second = sized (sum second first)
operated operation.Subtract places first second = sized (difference second first)
operated operation.Multiply places first second = sized (cut 18 (product second first))
operated operation.Divide places first second = divided places second first

-- the storage with a result in the receiver; none on a size error
abbrev pub stored_by : Option Picture → Spot → Number → List ℕ → Option (List ℕ)
stored_by None spot n storage = None
stored_by (Some p) spot n storage =
    if is_kept p n then Some (put_at spot (moved p n) storage) else None

-- the storage with a result in a spot; nothing on a size error
abbrev pub stored_in : Spot → Result Number SizeError → List ℕ → Option (List ℕ)
stored_in spot (Ok n) storage = stored_by spot.picture spot n storage
stored_in spot (Err error) storage = None

-- the operation is done on both operands as they are read, and the receiver gets the result
abbrev pub computed : ArithmeticOperation → Value → Value → Spot → List ℕ → Option (List ℕ)
computed op first second receiver storage =
    stored_in receiver
    (operated op (receiver_decimals receiver.picture) (number_of first) (number_of second)) storage

-- the operands of arithmetic as they are read, and the spot of the receiver
pub record Operands : Type 0 where
  pub first : Value
  pub second : Value
  pub receiver : Spot

-- the operands of arithmetic, where each was taken
abbrev pub operands_with : Option Value → Option Value → Option Spot → Option Operands
operands_with None second receiver = None
operands_with (Some first) None receiver = None
operands_with (Some first) (Some second) None = None
operands_with (Some first) (Some second) (Some receiver) =
    Some (record { first = first; second = second; receiver = receiver })

-- the operands of an arithmetic statement at this moment, nothing where a subscript is outside
abbrev pub operands_of : Registers → List ℕ → Arithmetic → Option Operands
operands_of registers storage a =
    operands_with (read registers storage a.first) (read registers storage a.second)
    (spot_of registers storage a.receiver)

-- the storage behind arithmetic, and none on a size error
abbrev pub result_of : ArithmeticOperation → Operands → List ℕ → Option (List ℕ)
result_of op found storage = computed op found.first found.second found.receiver storage
