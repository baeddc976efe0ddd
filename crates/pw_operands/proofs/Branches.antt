-- The statements of a branch, as a list.
use Rattle.std.proofs.Common.{ℕ, List, ◌↔◌, sym, subst}
use mathlib.Core.Former.{Count}
use Rattle.pw_forms.specs.declared.cond.ConditionForm.{ConditionForm}
use Rattle.pw_forms.specs.declared.statement.ArithmeticForm.{ArithmeticForm}
use Rattle.pw_forms.specs.declared.statement.Statement.{Statement, Row_of-Statement, end_of-Statement, more_of-Statement, items-the_row-Statement, items_hidden-the_row-Statement-0}
use Rattle.pw_forms.specs.declared.statement.Statement as form
use Rattle.pw_forms.specs.declared.statement.Statement.TheVariants as statements
use Rattle.pw_operands.specs.Scope.{Scope}
use Rattle.pw_operands.specs.Resolved.{Each, StatementFits, Resolves, RowResolves}

-- the first and the second branch of a statement
abbrev pub first_of : Statement → (n : Count) × Row_of-Statement n
first_of (form.OnSizeError' line arithmetic n first m second) = (_, first)
first_of (form.If' line cond n first m second) = (_, first)
first_of _ = (_, end_of-Statement)

abbrev pub second_of : Statement → (n : Count) × Row_of-Statement n
second_of (form.OnSizeError' line arithmetic n first m second) = (_, second)
second_of (form.If' line cond n first m second) = (_, second)
second_of _ = (_, end_of-Statement)

module _ (scope : Scope) where
  from_row : (n : Count) (row : Row_of-Statement n) → RowResolves scope row → Each (Resolves scope) (items-the_row-Statement n row)
  from_row n end_of-Statement all = tt
  from_row n (more_of-Statement statement rest) all = (all.0, from_row _ rest all.1)

  to_row : (n : Count) (row : Row_of-Statement n) → Each (Resolves scope) (items-the_row-Statement n row) → RowResolves scope row
  to_row n end_of-Statement all = tt
  to_row n (more_of-Statement statement rest) all = (all.0, to_row _ rest all.1)

  -- a statement with branches resolves where it stands and each statement of its branches resolves
  pub Resolves-If : (line : ℕ) (cond : ConditionForm) (first second : List Statement)
      → Resolves scope (statements.If line cond first second) ↔ (StatementFits scope (statements.If line cond first second) × Each (Resolves scope) first × Each (Resolves scope) second)
  Resolves-If line cond first second =
      let a = first_of (statements.If line cond first second) in
      let b = second_of (statements.If line cond first second) in
      let one = items_hidden-the_row-Statement-0 first in
      let two = items_hidden-the_row-Statement-0 second in (
        λ all. (all.0, subst (Each (Resolves scope)) one (from_row a.0 a.1 all.1), subst (Each (Resolves scope)) two (from_row b.0 b.1 all.2)),
        λ all. (all.0, to_row a.0 a.1 (subst (Each (Resolves scope)) (sym one) all.1), to_row b.0 b.1 (subst (Each (Resolves scope)) (sym two) all.2)),
      )

  pub Resolves-OnSizeError : (line : ℕ) (arithmetic : ArithmeticForm) (first second : List Statement)
      → Resolves scope (statements.OnSizeError line arithmetic first second)
      ↔ (StatementFits scope (statements.OnSizeError line arithmetic first second) × Each (Resolves scope) first × Each (Resolves scope) second)
  Resolves-OnSizeError line arithmetic first second =
      let a = first_of (statements.OnSizeError line arithmetic first second) in
      let b = second_of (statements.OnSizeError line arithmetic first second) in
      let one = items_hidden-the_row-Statement-0 first in
      let two = items_hidden-the_row-Statement-0 second in (
        λ all. (all.0, subst (Each (Resolves scope)) one (from_row a.0 a.1 all.1), subst (Each (Resolves scope)) two (from_row b.0 b.1 all.2)),
        λ all. (all.0, to_row a.0 a.1 (subst (Each (Resolves scope)) (sym one) all.1), to_row b.0 b.1 (subst (Each (Resolves scope)) (sym two) all.2)),
      )
