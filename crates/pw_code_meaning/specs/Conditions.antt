-- Conditions: all their operands are read, whatever an earlier comparison gave.
pub use Rattle.pw_tree_meaning.specs.Conditions.{text_order, length_of, beside, is_zeros, are_numbers, compared, is_sign, are_signed_digits, is_numeric_item, is_numeric, condition_turned, of_both}
use Rattle.std.specs.Prelude.{ℕ, Bool, true, false, ◌&&◌, ◌||◌, List, [], ◌∷◌, Option, Some, None}
use Rattle.std.specs.Ordering.{is_eq, is_lt, is_gt, is_le, is_ge}
use Rattle.std.specs.declared.cmp.Ordering.{Ordering}
use Rattle.pw_tree_meaning.specs.Values.{Value}
use Rattle.pw_code.specs.declared.cond.Comparison.{Comparison}
use Rattle.pw_code.specs.declared.cond.Comparison.TheVariants as comparison
use Rattle.pw_code.specs.declared.cond.Cond.{Cond}
use Rattle.pw_code.specs.declared.cond.ComparisonOperator.{ComparisonOperator}
use Rattle.pw_code.specs.declared.cond.ComparisonOperator.TheVariants as operator
use Rattle.pw_code_meaning.specs.Reading.{Registers, read}

-- the comparison holds by this operator
abbrev pub holds_by : ComparisonOperator → Ordering → Bool
holds_by operator.Equal found = is_eq found
holds_by operator.Less found = is_lt found
holds_by operator.Greater found = is_gt found
holds_by operator.LessEqual found = is_le found
holds_by operator.GreaterEqual found = is_ge found

-- ---- conditions; none where a subscript is outside

-- a test of a value, where there is one
abbrev pub of_one : {A : Type 0} → (Value → A) → Option Value → Option A
of_one test None = None
of_one test (Some a) = Some (test a)

-- a test of two values, where there are both
abbrev pub of_two : {A : Type 0} → (Value → Value → A) → Option Value → Option Value → Option A
of_two test None b = None
of_two test (Some a) b = of_one (test a) b

-- a comparison at this moment
abbrev pub comparison_holds : Registers → List ℕ → Comparison → Option Bool
comparison_holds registers storage (comparison.Compare left negated op right) =
    of_two (λ a b. condition_turned negated (holds_by op (compared a b)))
    (read registers storage left) (read registers storage right)
comparison_holds registers storage (comparison.Numeric one negated) =
    of_one (λ a. condition_turned negated (is_numeric a)) (read registers storage one)

-- each of the comparisons holds
abbrev pub all_hold : Registers → List ℕ → List Comparison → Option Bool
all_hold registers storage [] = Some true
all_hold registers storage (c ∷ cs) =
    of_both (λ a b. a && b) (comparison_holds registers storage c) (all_hold registers storage cs)

-- in one of the lists each comparison holds
abbrev pub any_holds : Registers → List ℕ → List (List Comparison) → Option Bool
any_holds registers storage [] = Some false
any_holds registers storage (cs ∷ css) =
    of_both (λ a b. a || b) (all_hold registers storage cs) (any_holds registers storage css)

-- a condition at this moment
abbrev pub code_condition_holds : Registers → List ℕ → Cond → Option Bool
code_condition_holds registers storage cond = any_holds registers storage cond.any
