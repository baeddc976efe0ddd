-- How many instructions a statement takes, and where each paragraph begins and ends.
use Rattle.std.specs.Prelude.{ℕ, ◌+◌, List, [], ◌∷◌}
use Rattle.pw_forms.specs.declared.statement.Paragraph.{Paragraph}
use Rattle.pw_forms.specs.declared.statement.Statement.{Statement, Row_of-Statement, end_of-Statement, more_of-Statement}
use Rattle.pw_forms.specs.declared.statement.Statement as form
use Rattle.pw_code.specs.declared.instr.Turn.{Turn}

abbrev mutual
  -- A choice takes a jump in front of each branch, PERFORM UNTIL its count and its test, and SEND what
  -- follows a reply without a code.
  pub size : Statement → ℕ
  size (form.OnSizeError' line a n first m second) = 1 + row_size first + 1 + row_size second
  size (form.If' line cond n first m second) = 1 + row_size first + 1 + row_size second
  size (form.PerformUntil line paragraph cond) = 2
  size (form.Send line message class codes) = 2
  size _ = 1

  pub row_size : {n : _} → Row_of-Statement n → ℕ
  row_size end_of-Statement = 0
  row_size (more_of-Statement one rest) = size one + row_size rest

-- the statements of a paragraph
abbrev pub body_size : List Statement → ℕ
body_size [] = 0
body_size (one ∷ rest) = size one + body_size rest

-- Where each paragraph begins and where its end stands, from a place on. An end takes one instruction.
abbrev pub turns_from : ℕ → List Paragraph → List Turn
turns_from at [] = []
turns_from at (paragraph ∷ paragraphs) =
    (record { start = at; end = at + body_size paragraph.body })
    ∷ turns_from (at + body_size paragraph.body + 1) paragraphs
