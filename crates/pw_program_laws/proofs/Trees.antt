-- Words for the trees of a given program: its items outside OCCURS, and its statements, all of line 1.
use Rattle.std.proofs.Common.{ℕ, Bool, false, List, [], ◌∷◌, Some, None}
use Rattle.pw_data.specs.declared.item.Item.{Item}
use Rattle.pw_data.specs.declared.item.ItemKind.{ItemKind}
use Rattle.pw_forms.specs.declared.cond.ComparisonForm.TheVariants as comparison
use Rattle.pw_forms.specs.declared.cond.ConditionForm.{ConditionForm}
use Rattle.pw_forms.specs.declared.cond.Operator.{Operator}
use Rattle.pw_forms.specs.declared.operand.Operand.{Operand}
use Rattle.pw_forms.specs.declared.operand.Operand.TheVariants as operands
use Rattle.pw_forms.specs.declared.statement.ArithmeticForm as arithmetic
use Rattle.pw_forms.specs.declared.statement.Operation.TheVariants as operation
use Rattle.pw_forms.specs.declared.statement.Paragraph.{Paragraph}
use Rattle.pw_forms.specs.declared.statement.Statement.{Statement}
use Rattle.pw_forms.specs.declared.statement.Statement as form

-- an elementary item, and a group, by level, name, place and size
abbrev pub elementary : ℕ → List ℕ → ItemKind → ℕ → ℕ → Item
elementary level name k at size = record { name = Some name; level = level; linked = false; kind = Some k; at = at; size = size; occurs = 0; step = 0 }

abbrev pub group : ℕ → List ℕ → ℕ → ℕ → Item
group level name at size = record { name = Some name; level = level; linked = false; kind = None; at = at; size = size; occurs = 0; step = 0 }

-- an item without a subscript
abbrev pub own : List ℕ → Operand
own name = operands.Item name None

abbrev pub move : Operand → List ℕ → Statement
move from to = form.Move 1 from (own to ∷ [])

abbrev pub add : Operand → List ℕ → arithmetic.ArithmeticForm
add first second = record { operation = operation.Add; first = first; second = own second; giving = None }

-- one comparison
abbrev pub compare : List ℕ → Bool → Operator → Operand → ConditionForm
compare left negated op right = record { any = (comparison.Compare (own left) negated op right ∷ []) ∷ [] }

abbrev pub paragraph : List ℕ → List Statement → Paragraph
paragraph name body = record { name = name; line = 1; body = body }
