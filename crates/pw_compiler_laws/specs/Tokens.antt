-- Tokens of which the numbers are those that they are written as.
use Rattle.std.specs.Prelude.{ℕ, List}
use Rattle.pw_forms.specs.declared.operand.Operand.TheVariants as operands
use Rattle.pw_text.specs.Cursor.{spelling}
use Rattle.pw_text.specs.declared.token.Token.{Token}
use Rattle.pw_text.specs.declared.token.TokenKind.{TokenKind}
use Rattle.pw_text.specs.declared.token.TokenKind.TheVariants as kind
use Rattle.pw_compiler_laws.specs.Premises.{IsLiteral}

-- the bytes of a token of this kind: a number is the literal that they write
abbrev pub Says : TokenKind → List ℕ → Type 0
Says kind.Number bytes = IsLiteral (operands.Number bytes)
Says _ bytes = Unit {0}

-- a token of a text that is a number is the number that it is written as, and has at most 18 digits
abbrev pub HasSpelledNumber : List ℕ → Token → Type 0
HasSpelledNumber text token = Says token.kind (spelling text token)
