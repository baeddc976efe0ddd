-- What the reader of procedures sees to in statements, whatever their names stand for.
use Rattle.std.specs.Prelude.{◌≡◌, ◌≤◌, length, Some}
use Rattle.std.specs.Str.{str_to_ascii_uppercase}
use Rattle.pw_words.specs.Words.{Word}
use Rattle.pw_forms.specs.declared.operand.Operand.{Operand}
use Rattle.pw_forms.specs.declared.operand.Operand.TheVariants as operands
use Rattle.pw_forms.specs.declared.operand.Subscript.TheVariants as subscripts
use Rattle.pw_forms.specs.declared.statement.Statement.{Statement, Row_of-Statement, end_of-Statement, more_of-Statement}
use Rattle.pw_forms.specs.declared.statement.Statement as form
use Rattle.pw_operands.specs.Resolved.{Each}
use Rattle.pw_code.specs.Instrs.{most_keys}

-- the word has no letter in lower case
abbrev pub IsUpper : Word → Type 0
IsUpper word = str_to_ascii_uppercase word ≡ word

-- a subscript that is a name is in upper case
abbrev pub HasUpperIndex : Operand → Type 0
HasUpperIndex (operands.Item name (Some (subscripts.Item index))) = IsUpper index
HasUpperIndex _ = Unit {0}

abbrev mutual
  -- the subscripts of a CALL's arguments are in upper case, an ACCEPT has not too many keys, and a SEND not too many
  -- codes, of at most 4 digits; the same of the statements of branches
  pub IsWritten : Statement → Type 0
  IsWritten (form.OnSizeError' line a n first m second) = RowIsWritten first × RowIsWritten second
  IsWritten (form.If' line cond n first m second) = RowIsWritten first × RowIsWritten second
  IsWritten (form.Accept line name keys) = length keys ≤ most_keys
  IsWritten (form.Call line name arguments) = Each HasUpperIndex arguments
  IsWritten (form.Send line message class codes) =
      (length codes ≤ most_keys) × Each (λ code. code.number ≤ 9999) codes
  IsWritten _ = Unit {0}

  pub RowIsWritten : {n : _} → Row_of-Statement n → Type 0
  RowIsWritten end_of-Statement = Unit {0}
  RowIsWritten (more_of-Statement one rest) = IsWritten one × RowIsWritten rest
