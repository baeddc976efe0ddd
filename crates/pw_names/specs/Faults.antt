-- The faults of the names of programs.
use Rattle.std.specs.Prelude.{List, [], ◌++◌, flat_map}
use Rattle.pw_base.specs.declared.fault.Fault.{Fault}
use Rattle.pw_forms.specs.declared.statement.Paragraph.{Paragraph}
use Rattle.pw_forms.specs.declared.statement.Statement.{Statement, Row_of-Statement, end_of-Statement, more_of-Statement}
use Rattle.pw_forms.specs.declared.statement.Statement as form
use Rattle.pw_names.specs.Calls.{CallScope, statement_flaws}
use Rattle.pw_names.specs.Lines.{line_of}
use Rattle.pw_names.specs.Order.{at_line}

-- the faults of a statement, without the statements of its branches
abbrev pub own_faults : CallScope → Statement → List Fault
own_faults program statement = at_line (line_of statement) (statement_flaws program statement)

abbrev mutual
  -- the faults of a statement and of its branches
  pub faults : CallScope → Statement → List Fault
  faults program (form.OnSizeError' line arithmetic n first m second) =
      own_faults program (form.OnSizeError' line arithmetic n first m second)
      ++ (row_faults program first ++ row_faults program second)
  faults program (form.If' line cond n first m second) =
      own_faults program (form.If' line cond n first m second)
      ++ (row_faults program first ++ row_faults program second)
  faults program statement = own_faults program statement

  -- the faults of the statements of a branch
  pub row_faults : {n : _} → CallScope → Row_of-Statement n → List Fault
  row_faults program end_of-Statement = []
  row_faults program (more_of-Statement statement rest) =
      faults program statement ++ row_faults program rest

-- the faults of a paragraph
abbrev pub paragraph_faults : CallScope → Paragraph → List Fault
paragraph_faults program paragraph = flat_map (faults program) paragraph.body

-- the faults of a program
abbrev pub program_faults : CallScope → List Fault
program_faults program = flat_map (paragraph_faults program) program.scope.paragraphs
