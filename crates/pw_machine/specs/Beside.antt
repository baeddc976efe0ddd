-- Operands beside another, character by character.
use Rattle.std.specs.Prelude.{ℕ, max, slice_index_or, length, Option, Some, None}
use Rattle.pw_base.specs.Characters.{digit_zero, space}
use Rattle.pw_tree_meaning.specs.Values.{Value, Spaces', Zeros', operand_text}

-- the character that fills, of SPACES and ZEROS
abbrev pub fill_of : Value → Option ℕ
fill_of Spaces' = Some space
fill_of Zeros' = Some digit_zero
fill_of _ = None

-- the character at a place of an operand beside another: SPACES and ZEROS fill, and spaces follow a text
abbrev pub char_beside : Value → ℕ → ℕ
char_beside Spaces' place = space
char_beside Zeros' place = digit_zero
char_beside other place = slice_index_or (operand_text other) place space

-- as many characters as two operands have beside each other
abbrev pub size_beside : Value → Value → ℕ
size_beside Spaces' Spaces' = 1
size_beside Spaces' Zeros' = 1
size_beside Zeros' Spaces' = 1
size_beside Zeros' Zeros' = 1
size_beside Spaces' b = length (operand_text b)
size_beside Zeros' b = length (operand_text b)
size_beside a Spaces' = length (operand_text a)
size_beside a Zeros' = length (operand_text a)
size_beside a b = max (length (operand_text a)) (length (operand_text b))
