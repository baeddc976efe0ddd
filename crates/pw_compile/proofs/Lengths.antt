-- How long the code of statements and of procedures is.
use Rattle.std.proofs.Common.{◌≡◌, ℕ, ◌+◌, ◌<◌, ◌^◌, List, [], ◌∷◌, ◌++◌, length, refl, ap, arith}
use Rattle.std.proofs.lemmas.List.{length-append}
use Rattle.pw_forms.specs.declared.statement.Paragraph.{Paragraph}
use Rattle.pw_forms.specs.declared.statement.Statement.{Statement, Row_of-Statement, end_of-Statement, more_of-Statement}
use Rattle.pw_forms.specs.declared.statement.Statement as form
use Rattle.pw_code.specs.declared.instr.Instr.TheVariants as instr
use Rattle.pw_compile.specs.Emitted.{statement_code, row_code, body_code, procedure_code}
use Rattle.pw_compile.specs.Lengths.{instructions_of}
use Rattle.pw_compile.specs.Plan.{Plan}
use Rattle.pw_compile.specs.Sizes.{size, row_size, body_size}

module _ (plan : Plan) where
  mutual
    pub statement_length : (one : Statement) → length (statement_code plan one) ≡ size one
    statement_length (form.OnSizeError' line a n first m second) =
        omega (arith, length-append (row_code plan first) (instr.Jump (row_size second) ∷ row_code plan second), row_length first, row_length second)
    statement_length (form.If' line cond n first m second) =
        omega (arith, length-append (row_code plan first) (instr.Jump (row_size second) ∷ row_code plan second), row_length first, row_length second)
    statement_length (form.Move line from to) = refl
    statement_length (form.Arithmetic line a) = refl
    statement_length (form.Perform line paragraph) = refl
    statement_length (form.PerformTimes line paragraph times) = refl
    statement_length (form.PerformUntil line paragraph cond) = refl
    statement_length (form.PerformOneOf line paragraphs position) = refl
    statement_length (form.Exit line) = refl
    statement_length (form.ExitProgram line) = refl
    statement_length (form.StopRun line) = refl
    statement_length (form.DisplayBase line screen) = refl
    statement_length (form.Display line shown) = refl
    statement_length (form.Accept line screen keys) = refl
    statement_length (form.Call line called arguments) = refl
    statement_length (form.Send line message class codes) = refl
    statement_length (form.Begin line) = refl
    statement_length (form.End line) = refl
    statement_length (form.Abort line) = refl
    statement_length (form.Restart line) = refl
    statement_length (form.Receive line into) = refl
    statement_length (form.Reply line from) = refl
    statement_length (form.Read line file locking key into) = refl
    statement_length (form.ReadNext line file locking key into) = refl
    statement_length (form.Write line file from) = refl
    statement_length (form.Rewrite line file from) = refl
    statement_length (form.Delete line file key) = refl

    pub row_length : {n : _} (row : Row_of-Statement n) → length (row_code plan row) ≡ row_size row
    row_length end_of-Statement = refl
    row_length (more_of-Statement one rest) = omega (arith, length-append (statement_code plan one) (row_code plan rest), statement_length one, row_length rest)

  pub body_length : (ones : List Statement) → length (body_code plan ones) ≡ body_size ones
  body_length [] = refl
  body_length (one ∷ rest) = omega (arith, length-append (statement_code plan one) (body_code plan rest), statement_length one, body_length rest)

  pub code_long : (ps : List Paragraph) (at : ℕ) → length (procedure_code plan at ps) ≡ instructions_of ps
  code_long [] at = refl
  code_long (p ∷ ps) at =
      omega (
        arith,
        length-append (body_code plan p.body) (instr.ParagraphEnd at ∷ procedure_code plan (at + body_size p.body + 1) ps),
        body_length p.body,
        code_long ps (at + body_size p.body + 1),
      )

  -- the code of paragraphs that take so few instructions
  pub code_short : (ps : List Paragraph) → instructions_of ps < 2 ^ 32 → length (procedure_code plan 0 ps) < 2 ^ 32
  code_short ps few = omega (arith, few, code_long ps 0)
