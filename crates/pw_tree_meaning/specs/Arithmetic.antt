-- ADD, SUBTRACT, MULTIPLY and DIVIDE.
use Rattle.std.specs.Prelude.{ℕ, Option, Some, None, Result, Ok, Err, if◌then◌else◌}
use Rattle.pw_number.specs.Number.{Number}
use Rattle.pw_number.specs.Arithmetic.{sized, sum, difference, product, cut, divided}
use Rattle.pw_number.specs.declared.size_error.SizeError.{SizeError}
use Rattle.pw_picture.specs.declared.picture.Picture.{Picture}
use Rattle.pw_picture.specs.Room.{decimals_of}
use Rattle.pw_picture.specs.Stored.{is_kept, moved}
use Rattle.pw_forms.specs.declared.operand.Operand.{Operand}
use Rattle.pw_forms.specs.declared.statement.Operation.{Operation}
use Rattle.pw_forms.specs.declared.statement.Operation.TheVariants as operation
use Rattle.pw_forms.specs.declared.statement.ArithmeticForm as arithmetic
use Rattle.pw_tree_meaning.specs.Program.{Program}
use Rattle.pw_tree_meaning.specs.Store.{Spot, put_at}
use Rattle.pw_tree_meaning.specs.State.{ProgramState, Out}
use Rattle.pw_tree_meaning.specs.Operands.{spot_in, value_in, with_operand}
use Rattle.pw_tree_meaning.specs.Values.{Value, number_of}

-- the result of an operation of the first operand on the second; a quotient has the places of the
-- receiver
abbrev pub operated : Operation → ℕ → Number → Number → Result Number SizeError
operated operation.Add places first second = sized (sum second first)
operated operation.Subtract places first second = sized (difference second first)
operated operation.Multiply places first second = sized (cut 18 (product second first))
operated operation.Divide places first second = divided places second first

-- the places of a receiver
abbrev pub receiver_decimals : Option Picture → ℕ
receiver_decimals None = 0
receiver_decimals (Some p) = decimals_of p

-- the state with a result stored in the receiver; none on a size error, which leaves all as it is
abbrev pub stored_by : Option Picture → Spot → Number → ProgramState → Option ProgramState
stored_by None spot n s = None
stored_by (Some p) spot n s =
    if is_kept p n then Some (record s { store = put_at spot (moved p n) s.store }) else None

-- the state with a result in a spot; nothing on a size error
abbrev pub stored_in : Spot → Result Number SizeError → ProgramState → Option ProgramState
stored_in spot (Ok n) s = stored_by spot.picture spot n s
stored_in spot (Err error) s = None

-- both operands are read, the operation is done, and the receiver gets the result
abbrev pub computed : Operation → Value → Value → Spot → ProgramState → Option ProgramState
computed op first second receiver s =
    stored_in receiver
    (operated op (receiver_decimals receiver.picture) (number_of first) (number_of second)) s

-- what follows: the one on a size error, with all as it was, or else the other
abbrev pub or_else : Option ProgramState → ProgramState → (ProgramState → Out) → (ProgramState → Out) → Out
or_else None s on_error else' = on_error s
or_else (Some after) s on_error else' = else' after

-- the item that receives: that of GIVING, or else the second operand
abbrev pub receiver_by : Option Operand → Operand → Operand
receiver_by None second = second
receiver_by (Some item) second = item

-- the item that receives: that of GIVING, and else the second operand
abbrev pub receiver_of : arithmetic.ArithmeticForm → Operand
receiver_of a = receiver_by a.giving a.second

-- an arithmetic statement, with what follows it on a size error and else
abbrev pub arithmetic_on : Program → arithmetic.ArithmeticForm → (ProgramState → Out) → (ProgramState → Out)
    → ProgramState → Out
arithmetic_on program a on_error else' s =
    with_operand program a.first s (λ first.
    with_operand program a.second s (λ second.
    with_operand program (receiver_of a) s (λ receiver.
    or_else
    (computed a.operation (value_in first s.store) (value_in second s.store) (spot_in receiver) s)
    s on_error else')))
