-- The number literals of operands and of conditions are those that their tokens write.
use Rattle.std.proofs.Common.{◌≡◌, ℕ, Bool, true, false, not, List, Option, Some, None, ◌&&◌, if◌then◌else◌, refl, sym, subst}
use Rattle.std.specs.Prelude.{codes, option_map}
use Rattle.pw_words.specs.Words.{Word}
use Rattle.pw_operands.specs.Resolved.{Each}
use Rattle.pw_text.specs.Cursor.{spelling}
use Rattle.pw_text.specs.Literals.{unquoted}
use Rattle.pw_text.specs.declared.token.Token.{Token}
use Rattle.pw_text.specs.declared.token.TokenKind.{TokenKind}
use Rattle.pw_text.specs.declared.token.TokenKind.TheVariants as kind
use Rattle.pw_forms.specs.declared.cond.ComparisonForm.TheVariants as comparisons
use Rattle.pw_forms.specs.declared.cond.ConditionForm.{ConditionForm}
use Rattle.pw_forms.specs.declared.cond.Operator.{Operator}
use Rattle.pw_forms.specs.declared.cond.Operator.TheVariants as operators
use Rattle.pw_forms.specs.declared.operand.Operand.{Operand}
use Rattle.pw_forms.specs.declared.operand.Operand.TheVariants as operands
use Rattle.pw_forms.specs.declared.operand.Subscript.TheVariants as subscripts
use Rattle.pw_forms.specs.Words.{is_item_name, is_name_token, is_receive, is_the_word, is_word, token_name}
use Rattle.pw_forms.specs.Readers.{Rest, Reader, ◌>>=◌, pure, token, takes, eats}
use Rattle.pw_forms.specs.Operands.{operand, operand_by, item, figurative, subscript_by, subscript_behind, code, is_code, value_of, name, file_name, program_by, program_name, key, key_of}
use Rattle.pw_forms.specs.Conditions.{word_operator, operator_by, operator, compared, comparison, all, condition}
use Rattle.pw_compiler_laws.specs.Premises.{IsLiteral, AreLiterals}
use Rattle.pw_compiler_laws.specs.Tokens.{Says, HasSpelledNumber}
use Rattle.pw_compiler_laws.proofs.numbers.Steps.{Any, Good, Yields, found-is, found-if, yields-bind, yields-any, yields-pure, yields-fails, yields-if, token-gives, eats-gives, takes-gives, separated-gives}
use Rattle.pw_tree_meaning.proofs.sides.Readers.{as_read}

module _ (text : List ℕ) where
  -- behind a token comes what needs nothing of it
  after-token : {B : Type 0} (Q : B → Type 0) (k : Token → Reader B) → ((x : Token) → Yields text Q (k x)) → Yields text Q (token >>= k)
  after-token Q k h = yields-bind text (HasSpelledNumber text) Q token k (token-gives text) (λ x _. h x)

  -- ---- items

  subscript-gives : (found : TokenKind) (value : Token) → Yields text Any (subscript_by found value)
  subscript-gives kind.Number value rest s after good e = found-is text Any (subscripts.Number (spelling rest.text value)) s rest after good tt e
  subscript-gives _ value rest s after good e = found-if text Any (is_item_name rest.server rest.text value) (subscripts.Item (token_name rest.text value)) s rest after good tt e

  behind-gives : Yields text Any subscript_behind
  unfolding subscript_behind
  behind-gives =
      yields-any text Any (takes kind.LeftParen) _ (takes-gives text kind.LeftParen) (λ opens. yields-if text Any opens _ _
      (after-token Any _ (λ value. yields-any text Any (subscript_by value.kind value) _ (subscript-gives value.kind value)
      (λ s. yields-any text Any (takes kind.RightParen) _ (takes-gives text kind.RightParen) (λ closes. yields-if text Any closes _ _ (yields-pure text Any (Some s) tt) (yields-fails text Any)))))
      (yields-pure text Any None tt))

  item-gives : (first : Token) → Yields text IsLiteral (item first)
  unfolding item
  item-gives first =
      yields-any text IsLiteral subscript_behind _ behind-gives
      (λ s rest one after good e. found-is text IsLiteral (operands.Item (token_name rest.text first) s) one rest after good tt e)

  abbrev beside : Rest → Operand → Operand × Rest
  beside rest found = (found, rest)

  figure-gives : (rest : Rest) (o : Option Operand) → ((found : Operand) → o ≡ Some found → IsLiteral found) → (one : Operand) (after : Rest) → Good text rest → option_map (beside rest) o ≡ as_read one after → IsLiteral one × Good text after
  figure-gives rest None h one after good e = absurd cc
  figure-gives rest (Some found) h one after good e = found-is text IsLiteral found one rest after good (h found refl) e

  figurative-plain : (a b : Bool) (found : Operand) → (if a then Some operands.Spaces else if b then Some operands.Zeros else None) ≡ Some found → IsLiteral found
  figurative-plain true b found e = let same : operands.Spaces ≡ found = cc in subst IsLiteral same tt
  figurative-plain false true found e = let same : operands.Zeros ≡ found = cc in subst IsLiteral same tt
  figurative-plain false false found e = absurd cc

  figurative-is : (own : List ℕ) (word : Token) (found : Operand) → figurative own word ≡ Some found → IsLiteral found
  unfolding figurative
  figurative-is own word found e = figurative-plain _ _ found e

  other-gives : (first : Token) (b : Bool) (rest : Rest) (one : Operand) (after : Rest) → Good text rest
      → (if b then item first rest else option_map (beside rest) (figurative rest.text first)) ≡ as_read one after → IsLiteral one × Good text after
  other-gives first true rest one after good e = item-gives first rest one after good e
  other-gives first false rest one after good e = figure-gives rest (figurative rest.text first) (λ found is. figurative-is rest.text first found is) one after good e

  operand-by-gives : (found : TokenKind) (first : Token) → Says found (spelling text first) → Yields text IsLiteral (operand_by found first)
  operand-by-gives kind.Number first says rest one after good e =
      found-is text IsLiteral (operands.Number (spelling rest.text first)) one rest after good (subst (λ (own : List ℕ). IsLiteral (operands.Number (spelling own first))) (sym good.same) says) e
  operand-by-gives kind.Text first says rest one after good e = found-is text IsLiteral (operands.Text (unquoted false (spelling rest.text first))) one rest after good tt e
  operand-by-gives _ first says rest one after good e = other-gives first (is_item_name rest.server rest.text first) rest one after good e

  pub operand-gives : Yields text IsLiteral operand
  unfolding operand
  operand-gives = yields-bind text (HasSpelledNumber text) IsLiteral token _ (token-gives text) (λ first says. operand-by-gives first.kind first says)

  -- ---- names

  pub name-gives : Yields text Any name
  unfolding name
  name-gives = after-token Any _ (λ word rest x after good e. found-if text Any (is_name_token rest.server rest.text word) (token_name rest.text word) x rest after good tt e)

  pub file-gives : Yields text Any file_name
  unfolding file_name
  file-gives = after-token Any _ (λ word rest x after good e. found-if text Any (is_word word.kind && not (is_receive rest.text word)) (token_name rest.text word) x rest after good tt e)

  program-by-gives : (found : TokenKind) (first : Token) → Yields text Any (program_by found first)
  program-by-gives kind.Text first rest x after good e = found-is text Any (unquoted false (spelling rest.text first)) x rest after good tt e
  program-by-gives _ first rest x after good e = found-if text Any (is_word first.kind && not (is_receive rest.text first)) (token_name rest.text first) x rest after good tt e

  pub program-gives : Yields text Any program_name
  unfolding program_name
  program-gives = after-token Any _ (λ first. program-by-gives first.kind first)

  key-by : (b : Bool) (o : Option ℕ) (x : ℕ) (rest after : Rest) → Good text rest → (if b then option_map (λ number. (number, rest)) o else None) ≡ as_read x after → Unit {0} × Good text after
  key-by true None x rest after good e = absurd cc
  key-by true (Some number) x rest after good e = found-is text Any number x rest after good tt e
  key-by false o x rest after good e = absurd cc

  pub key-gives : Yields text Any key
  unfolding key
  key-gives = after-token Any _ (λ word rest x after good e. key-by (is_word word.kind) (key_of (spelling rest.text word)) x rest after good e)

  code-by : (a b : Bool) (value x : ℕ) (rest after : Rest) → Good text rest → (if a && b then as_read value rest else None) ≡ as_read x after → Unit {0} × Good text after
  code-by a b value x rest after good e = found-if text Any (a && b) value x rest after good tt e

  pub code-gives : Yields text Any code
  unfolding code
  code-gives = after-token Any _ (λ number rest x after good e. code-by _ (is_code (spelling rest.text number)) (value_of (spelling rest.text number)) x rest after good e)

  -- ---- conditions

  worded : (word : Word) (found : Operator) → Yields text Any (eats word >>= (λ _. pure found))
  worded word found = yields-any text Any (eats word) _ (eats-gives text word) (λ _. yields-pure text Any found tt)

  word-by : (a b c : Bool) (rest : Rest) (x : Operator) (after : Rest) → Good text rest
      → (if a then (eats (codes "TO") >>= (λ _. pure operators.Equal)) rest else if b then (eats (codes "THAN") >>= (λ _. pure operators.Greater)) rest
      else if c then (eats (codes "THAN") >>= (λ _. pure operators.Less)) rest else None) ≡ as_read x after → Unit {0} × Good text after
  word-by true b c rest x after good e = worded (codes "TO") operators.Equal rest x after good e
  word-by false true c rest x after good e = worded (codes "THAN") operators.Greater rest x after good e
  word-by false false true rest x after good e = worded (codes "THAN") operators.Less rest x after good e
  word-by false false false rest x after good e = absurd cc

  word-operator-gives : (word : Token) → Yields text Any (word_operator word)
  unfolding word_operator
  word-operator-gives word rest x after good e = word-by (is_the_word rest.text word (codes "EQUAL")) (is_the_word rest.text word (codes "GREATER")) (is_the_word rest.text word (codes "LESS")) rest x after good e

  operator-by-gives : (found : TokenKind) (first : Token) → Yields text Any (operator_by found first)
  operator-by-gives kind.Equal first = yields-pure text Any operators.Equal tt
  operator-by-gives kind.Less first = yields-pure text Any operators.Less tt
  operator-by-gives kind.Greater first = yields-pure text Any operators.Greater tt
  operator-by-gives kind.LessEqual first = yields-pure text Any operators.LessEqual tt
  operator-by-gives kind.GreaterEqual first = yields-pure text Any operators.GreaterEqual tt
  operator-by-gives _ first = word-operator-gives first

  operator-gives : Yields text Any operator
  unfolding operator
  operator-gives = after-token Any _ (λ first. operator-by-gives first.kind first)

  compared-gives : (left : Operand) (negated : Bool) → IsLiteral left → Yields text AreLiterals (compared left negated)
  unfolding compared
  compared-gives left negated is =
      yields-any text AreLiterals operator _ operator-gives (λ op. yields-bind text IsLiteral AreLiterals operand _ operand-gives (λ right also.
      yields-pure text AreLiterals (comparisons.Compare left negated op right) (is, also)))

  comparison-gives : Yields text AreLiterals comparison
  unfolding comparison
  comparison-gives =
      yields-bind text IsLiteral AreLiterals operand _ operand-gives (λ left is.
      yields-any text AreLiterals (eats (codes "IS")) _ (eats-gives text (codes "IS")) (λ _.
      yields-any text AreLiterals (eats (codes "NOT")) _ (eats-gives text (codes "NOT")) (λ negated.
      yields-any text AreLiterals (eats (codes "NUMERIC")) _ (eats-gives text (codes "NUMERIC")) (λ numeric.
      yields-if text AreLiterals numeric _ _ (yields-pure text AreLiterals (comparisons.Numeric left negated) is) (compared-gives left negated is)))))

  all-gives : Yields text (Each AreLiterals) all
  unfolding all
  all-gives = separated-gives text AreLiterals (codes "AND") comparison comparison-gives

  pub condition-gives : Yields text (λ (cond : ConditionForm). Each (Each AreLiterals) cond.any) condition
  unfolding condition
  condition-gives =
      yields-bind text (Each (Each AreLiterals)) (λ (cond : ConditionForm). Each (Each AreLiterals) cond.any) _ _ (separated-gives text (Each AreLiterals) (codes "OR") all all-gives)
      (λ any is. yields-pure text (λ (cond : ConditionForm). Each (Each AreLiterals) cond.any) (record { any = any }) is)
