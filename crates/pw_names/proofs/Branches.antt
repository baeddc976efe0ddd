-- The faults of a statement with branches.
use Rattle.std.proofs.Common.{◌≡◌, ℕ, List, ◌++◌, refl, ap, ◌∙◌}
use Rattle.std.specs.List.{flat_map}
use mathlib.Core.Former.{Count}
use Rattle.pw_forms.specs.declared.cond.ConditionForm.{ConditionForm}
use Rattle.pw_forms.specs.declared.statement.ArithmeticForm.{ArithmeticForm}
use Rattle.pw_forms.specs.declared.statement.Statement.{Statement, Row_of-Statement, end_of-Statement, more_of-Statement, items-the_row-Statement, items_hidden-the_row-Statement-0}
use Rattle.pw_forms.specs.declared.statement.Statement.TheVariants as statements
use Rattle.pw_operands.proofs.Branches.{first_of, second_of}
use Rattle.pw_names.specs.Calls.{CallScope}
use Rattle.pw_names.specs.Faults.{own_faults, faults, row_faults}

module _ (program : CallScope) where
  row_faults-items : (n : Count) (row : Row_of-Statement n) → row_faults program row ≡ flat_map (faults program) (items-the_row-Statement n row)
  row_faults-items n end_of-Statement = refl
  row_faults-items n (more_of-Statement statement rest) = ap (λ xs. faults program statement ++ xs) (row_faults-items _ rest)

  pub row-faults : (n : Count) (row : Row_of-Statement n) (branch : List Statement) → items-the_row-Statement n row ≡ branch → row_faults program row ≡ flat_map (faults program) branch
  row-faults n row branch is = row_faults-items n row ∙ ap (flat_map (faults program)) is

  pub faults-If : (line : ℕ) (cond : ConditionForm) (first second : List Statement)
      → faults program (statements.If line cond first second) ≡ own_faults program (statements.If line cond first second) ++ (flat_map (faults program) first ++ flat_map (faults program) second)
  faults-If line cond first second =
      let whole = statements.If line cond first second in
      let a = first_of whole in
      let b = second_of whole in
      let one : row_faults program a.1 ≡ flat_map (faults program) first = row-faults a.0 a.1 first (items_hidden-the_row-Statement-0 first) in
      let two : row_faults program b.1 ≡ flat_map (faults program) second = row-faults b.0 b.1 second (items_hidden-the_row-Statement-0 second) in
      ap (λ xs. own_faults program whole ++ (xs ++ row_faults program b.1)) one ∙ ap (λ ys. own_faults program whole ++ (flat_map (faults program) first ++ ys)) two

  pub faults-OnSizeError : (line : ℕ) (arithmetic : ArithmeticForm) (first second : List Statement)
      → faults program (statements.OnSizeError line arithmetic first second) ≡ own_faults program (statements.OnSizeError line arithmetic first second) ++ (flat_map (faults program) first ++ flat_map (faults program) second)
  faults-OnSizeError line arithmetic first second =
      let whole = statements.OnSizeError line arithmetic first second in
      let a = first_of whole in
      let b = second_of whole in
      let one : row_faults program a.1 ≡ flat_map (faults program) first = row-faults a.0 a.1 first (items_hidden-the_row-Statement-0 first) in
      let two : row_faults program b.1 ≡ flat_map (faults program) second = row-faults b.0 b.1 second (items_hidden-the_row-Statement-0 second) in
      ap (λ xs. own_faults program whole ++ (xs ++ row_faults program b.1)) one ∙ ap (λ ys. own_faults program whole ++ (flat_map (faults program) first ++ ys)) two
