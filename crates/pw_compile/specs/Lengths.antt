-- How many instructions a procedure takes.
use Rattle.std.specs.Prelude.{ℕ, ◌+◌, List, [], ◌∷◌}
use Rattle.pw_forms.specs.declared.statement.Paragraph.{Paragraph}
use Rattle.pw_compile.specs.Sizes.{body_size}

-- those of paragraphs, each with its end
abbrev pub instructions_of : List Paragraph → ℕ
instructions_of [] = 0
instructions_of (paragraph ∷ paragraphs) =
    body_size paragraph.body + 1 + instructions_of paragraphs
