-- Conditions.
use Rattle.std.specs.Prelude.{List, Bool, codes, None, if◌then◌else◌}
use Rattle.pw_text.specs.declared.token.TokenKind.{TokenKind}
use Rattle.pw_text.specs.declared.token.TokenKind.TheVariants as kind
use Rattle.pw_text.specs.declared.token.Token.{Token}
use Rattle.pw_forms.specs.declared.operand.Operand.{Operand}
use Rattle.pw_forms.specs.declared.cond.Operator.{Operator}
use Rattle.pw_forms.specs.declared.cond.Operator.TheVariants as operators
use Rattle.pw_forms.specs.declared.cond.ComparisonForm.{ComparisonForm}
use Rattle.pw_forms.specs.declared.cond.ComparisonForm.TheVariants as comparisons
use Rattle.pw_forms.specs.declared.cond.ConditionForm.{ConditionForm}
use Rattle.pw_forms.specs.Words.{is_the_word}
use Rattle.pw_forms.specs.Readers.{Reader, ◌>>=◌, ◌>>◌, pure, token, eats, separated}
use Rattle.pw_forms.specs.Operands.{operand}

-- an operator that is a word
unfoldable pub word_operator : Token → Reader Operator
word_operator word = λ rest.
    if is_the_word rest.text word (codes "EQUAL")
    then (do eats (codes "TO"); pure operators.Equal) rest
    else if is_the_word rest.text word (codes "GREATER")
    then (do eats (codes "THAN"); pure operators.Greater) rest
    else if is_the_word rest.text word (codes "LESS")
    then (do eats (codes "THAN"); pure operators.Less) rest
    else None

-- an operator that begins with a token
abbrev pub operator_by : TokenKind → Token → Reader Operator
operator_by kind.Equal first = pure operators.Equal
operator_by kind.Less first = pure operators.Less
operator_by kind.Greater first = pure operators.Greater
operator_by kind.LessEqual first = pure operators.LessEqual
operator_by kind.GreaterEqual first = pure operators.GreaterEqual
operator_by _ first = word_operator first

-- `=`, `<`, `>`, `<=`, `>=`, EQUAL [TO], GREATER [THAN] or LESS [THAN]
unfoldable pub operator : Reader Operator
operator = do
  first ← token
  operator_by first.kind first

-- op b
unfoldable pub compared : Operand → Bool → Reader ComparisonForm
compared left negated = do
  op ← operator
  right ← operand
  pure (comparisons.Compare left negated op right)

-- `a [IS] [NOT] NUMERIC`, or `a [IS] [NOT] op b`
unfoldable pub comparison : Reader ComparisonForm
comparison = do
  left ← operand
  eats (codes "IS")
  negated ← eats (codes "NOT")
  numeric ← eats (codes "NUMERIC")
  if numeric then pure (comparisons.Numeric left negated) else compared left negated

-- comparisons of which each must hold
unfoldable pub all : Reader (List ComparisonForm)
all = separated (codes "AND") comparison

-- comparisons joined by AND and OR, AND first
unfoldable pub condition : Reader ConditionForm
condition = do
  any ← separated (codes "OR") all
  pure (record { any = any })
