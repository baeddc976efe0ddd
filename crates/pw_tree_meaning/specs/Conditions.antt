-- Conditions: all their operands are read, whatever an earlier comparison gave.
use Rattle.std.specs.Prelude.{ℕ, max, Bool, true, false, not, ◌&&◌, ◌||◌, ◌==◌, List, [], ◌∷◌, length, Option, Some, None, if◌then◌else◌}
use Rattle.std.specs.Char.{is_ascii_digit}
use Rattle.std.specs.List.{list_all}
use Rattle.std.specs.Ordering.{nat_cmp, is_eq, is_lt, is_gt, is_le, is_ge}
use Rattle.std.specs.declared.cmp.Ordering.{Ordering}
use Rattle.std.specs.Cmp.Lexicographic.{slice_cmp}
use Rattle.pw_base.specs.Characters.{hyphen, plus_sign}
use Rattle.pw_number.specs.Order.{order}
use Rattle.pw_picture.specs.declared.picture.Picture.{Picture}
use Rattle.pw_picture.specs.declared.picture.Picture.TheVariants as picture
use Rattle.pw_picture.specs.Text.{fitted}
use Rattle.pw_forms.specs.declared.cond.ConditionForm.{ConditionForm}
use Rattle.pw_forms.specs.declared.cond.ComparisonForm.{ComparisonForm}
use Rattle.pw_forms.specs.declared.cond.ComparisonForm.TheVariants as comparison
use Rattle.pw_forms.specs.declared.cond.Operator.{Operator}
use Rattle.pw_forms.specs.declared.cond.Operator.TheVariants as operator
use Rattle.pw_tree_meaning.specs.Program.{Program}
use Rattle.pw_tree_meaning.specs.State.{ProgramState}
use Rattle.pw_tree_meaning.specs.Values.{Value, Chars, Register, Number', Text', Spaces', Zeros', operand_text, text_in, is_number_operand, number_of}
use Rattle.pw_tree_meaning.specs.Operands.{ResolvedOperand, value_in, operand_taken}

-- ---- how two operands compare

-- two texts compare by their bytes, the shorter with spaces behind it
abbrev pub text_order : List ℕ → List ℕ → Ordering
text_order a b =
    let size = max (length a) (length b) in
    slice_cmp nat_cmp (fitted size a) (fitted size b)

-- how long an operand is beside another: SPACES and ZEROS take the other's length, and beside each
-- other are one character
abbrev pub length_of : Value → Value → ℕ
length_of Spaces' Spaces' = 1
length_of Spaces' Zeros' = 1
length_of Zeros' Spaces' = 1
length_of Zeros' Zeros' = 1
length_of Spaces' other = length (operand_text other)
length_of Zeros' other = length (operand_text other)
length_of own other = length (operand_text own)

-- the characters of an operand beside another: a number those that MOVE to a text takes
abbrev pub beside : Value → Value → List ℕ
beside own other = text_in (length_of own other) own

-- ZEROS is a number beside a number
abbrev pub is_zeros : Value → Bool
is_zeros Zeros' = true
is_zeros _ = false

-- the two compare as numbers: each is one, or one is and the other is ZEROS
abbrev pub are_numbers : Value → Value → Bool
are_numbers a b = (is_number_operand a && (is_number_operand b || is_zeros b)) || (is_zeros a && is_number_operand b)

-- how two operands compare: numbers by value, all else as texts
abbrev pub compared : Value → Value → Ordering
compared a b =
    if are_numbers a b then order (number_of a) (number_of b)
    else text_order (beside a b) (beside b a)

-- the comparison holds by this operator
abbrev pub holds_by : Operator → Ordering → Bool
holds_by operator.Equal found = is_eq found
holds_by operator.Less found = is_lt found
holds_by operator.Greater found = is_gt found
holds_by operator.LessEqual found = is_le found
holds_by operator.GreaterEqual found = is_ge found

-- ---- NUMERIC

-- a character is a sign
abbrev pub is_sign : ℕ → Bool
is_sign char = char == plus_sign || char == hyphen

-- digits behind a sign
abbrev pub are_signed_digits : List ℕ → Bool
are_signed_digits [] = false
are_signed_digits (sign ∷ chars) = is_sign sign && list_all is_ascii_digit chars

-- the characters of an item are numeric: all digits, and in a signed Number digits behind a sign
abbrev pub is_numeric_item : Option Picture → List ℕ → Bool
is_numeric_item (Some (picture.Number digits places true)) chars = are_signed_digits chars
is_numeric_item _ chars = list_all is_ascii_digit chars

-- an operand is numeric; of a literal its characters are looked at
abbrev pub is_numeric : Value → Bool
is_numeric (Chars picture chars) = is_numeric_item picture chars
is_numeric (Register digits value) = true
is_numeric (Number' spelling) = true
is_numeric (Text' chars) = list_all is_ascii_digit chars
is_numeric Spaces' = false
is_numeric Zeros' = true

-- ---- conditions; none where a subscript is outside

-- NOT turns what holds
abbrev pub condition_turned : Bool → Bool → Bool
condition_turned negated holds = if negated then not holds else holds

-- a test of an operand that was taken, where it was
abbrev pub of_one : (ResolvedOperand → Bool) → Option ResolvedOperand → Option Bool
of_one test None = None
of_one test (Some a) = Some (test a)

-- a test of two operands that were taken, where both were
abbrev pub of_two : (ResolvedOperand → ResolvedOperand → Bool) → Option ResolvedOperand → Option ResolvedOperand → Option Bool
of_two test None b = None
of_two test (Some a) b = of_one (test a) b

-- a comparison at this moment
abbrev pub comparison_holds : Program → ProgramState → ComparisonForm → Option Bool
comparison_holds program s (comparison.Compare left negated op right) =
    of_two
    (λ a b. condition_turned negated (holds_by op (compared (value_in a s.store) (value_in b s.store))))
    (operand_taken program s left) (operand_taken program s right)
comparison_holds program s (comparison.Numeric operand negated) =
    of_one (λ a. condition_turned negated (is_numeric (value_in a s.store))) (operand_taken program s operand)

-- two parts of a condition: neither is left out
abbrev pub of_both : (Bool → Bool → Bool) → Option Bool → Option Bool → Option Bool
of_both join None b = None
of_both join (Some a) None = None
of_both join (Some a) (Some b) = Some (join a b)

-- each of the comparisons holds
abbrev pub all_hold : Program → ProgramState → List ComparisonForm → Option Bool
all_hold program s [] = Some true
all_hold program s (c ∷ cs) =
    of_both (λ a b. a && b) (comparison_holds program s c) (all_hold program s cs)

-- in one of the lists each comparison holds
abbrev pub any_holds : Program → ProgramState → List (List ComparisonForm) → Option Bool
any_holds program s [] = Some false
any_holds program s (cs ∷ css) =
    of_both (λ a b. a || b) (all_hold program s cs) (any_holds program s css)

-- a condition at this moment
abbrev pub holds : Program → ProgramState → ConditionForm → Option Bool
holds program s cond = any_holds program s cond.any
