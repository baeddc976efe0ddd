-- What conditions and arithmetic become.
use Rattle.std.specs.Prelude.{map, Option, Some, None}
use Rattle.pw_data.specs.Layouts.{Laid}
use Rattle.pw_forms.specs.declared.cond.ComparisonForm.{ComparisonForm}
use Rattle.pw_forms.specs.declared.cond.ComparisonForm.TheVariants as comparisons
use Rattle.pw_forms.specs.declared.cond.ConditionForm.{ConditionForm}
use Rattle.pw_forms.specs.declared.cond.Operator.{Operator}
use Rattle.pw_forms.specs.declared.cond.Operator.TheVariants as operators
use Rattle.pw_forms.specs.declared.operand.Operand.{Operand}
use Rattle.pw_forms.specs.declared.statement.ArithmeticForm.{ArithmeticForm}
use Rattle.pw_forms.specs.declared.statement.Operation.{Operation}
use Rattle.pw_forms.specs.declared.statement.Operation.TheVariants as operations
use Rattle.pw_code.specs.declared.cond.Comparison as tests
use Rattle.pw_code.specs.declared.cond.Comparison.TheVariants as comparison
use Rattle.pw_code.specs.declared.cond.Cond as conds
use Rattle.pw_code.specs.declared.cond.ComparisonOperator as signs
use Rattle.pw_code.specs.declared.cond.ComparisonOperator.TheVariants as operator
use Rattle.pw_code.specs.declared.instr.Arithmetic as computed
use Rattle.pw_code.specs.declared.instr.ArithmeticOperation as actions
use Rattle.pw_code.specs.declared.instr.ArithmeticOperation.TheVariants as operation
use Rattle.pw_compile.specs.Operands.{operand_of, place_in}

-- how a comparison compares, as code has it
abbrev pub operator_of : Operator → signs.ComparisonOperator
operator_of operators.Equal = operator.Equal
operator_of operators.Less = operator.Less
operator_of operators.Greater = operator.Greater
operator_of operators.LessEqual = operator.LessEqual
operator_of operators.GreaterEqual = operator.GreaterEqual

-- a comparison, as code has it
abbrev pub comparison_of : Laid → ComparisonForm → tests.Comparison
comparison_of layout (comparisons.Compare left negated op right) =
    comparison.Compare (operand_of layout left) negated (operator_of op) (operand_of layout right)
comparison_of layout (comparisons.Numeric one negated) =
    comparison.Numeric (operand_of layout one) negated

-- a condition, comparison by comparison
abbrev pub cond_of : Laid → ConditionForm → conds.Cond
cond_of layout cond = record { any = map (map (comparison_of layout)) cond.any }

-- an operation of arithmetic, as code has it
abbrev pub operation_of : Operation → actions.ArithmeticOperation
operation_of operations.Add = operation.Add
operation_of operations.Subtract = operation.Subtract
operation_of operations.Multiply = operation.Multiply
operation_of operations.Divide = operation.Divide

-- the item of GIVING receives, and else the second operand
abbrev pub receiver_by : Option Operand → Operand → Operand
receiver_by None second = second
receiver_by (Some item) second = item

-- an arithmetic statement, as code has it
abbrev pub arithmetic_of : Laid → ArithmeticForm → computed.Arithmetic
arithmetic_of layout a = record {
  operation = operation_of a.operation;
  first = operand_of layout a.first;
  second = operand_of layout a.second;
  receiver = place_in layout (receiver_by a.giving a.second);
}
