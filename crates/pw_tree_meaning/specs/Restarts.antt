-- Programs that never restart a transaction by themselves.
use Rattle.std.specs.Prelude.{List}
use Rattle.pw_forms.specs.declared.statement.Statement.{Statement}
use Rattle.pw_forms.specs.declared.statement.Statement as form
use Rattle.pw_forms.specs.declared.statement.Statement.{Row_of-Statement, end_of-Statement, more_of-Statement}
use Rattle.pw_operands.specs.Resolved.{Each}
use Rattle.pw_tree_meaning.specs.Program.{Program}

-- the statement is no RESTART-TRANSACTION, and has none in its branches
abbrev mutual
  pub HasNoRestart : Statement → Type 0
  HasNoRestart (form.OnSizeError' line a n first m second) =
      RowHasNoRestart first × RowHasNoRestart second
  HasNoRestart (form.If' line cond n first m second) =
      RowHasNoRestart first × RowHasNoRestart second
  HasNoRestart (form.Restart line) = ⊥
  HasNoRestart _ = Unit {0}

  pub RowHasNoRestart : {n : _} → Row_of-Statement n → Type 0
  RowHasNoRestart end_of-Statement = Unit {0}
  RowHasNoRestart (more_of-Statement one rest) = HasNoRestart one × RowHasNoRestart rest

-- no statement of the programs is one
abbrev pub NeverRestarts : List Program → Type 0
NeverRestarts programs =
    Each (λ program. Each (λ paragraph. Each HasNoRestart paragraph.body) program.paragraphs)
    programs
