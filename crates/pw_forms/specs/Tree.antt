-- The tree of the statements, from the last piece on.
use Rattle.std.specs.Prelude.{ℕ, List, [], ◌∷◌, ◌++◌}
use Rattle.pw_words.specs.Words.{Word}
use Rattle.pw_forms.specs.declared.form.Head.{Head}
use Rattle.pw_forms.specs.declared.form.Head.TheVariants as heads
use Rattle.pw_forms.specs.declared.statement.Statement.{Statement}
use Rattle.pw_forms.specs.declared.statement.Statement.TheVariants as statements
use Rattle.pw_forms.specs.declared.statement.Paragraph.{Paragraph}
use Rattle.pw_forms.specs.declared.statement.Procedure.{Procedure}
use Rattle.pw_forms.specs.declared.piece.Piece.{Piece}
use Rattle.pw_forms.specs.declared.piece.Piece.TheVariants as pieces
use Rattle.pw_forms.specs.declared.piece.Placed.{Placed}

-- the statements of the paragraph up to the next name, and the paragraphs from there on
pub record ParagraphsBehind : Type 0 where
  pub statements : List Statement
  pub paragraphs : List Paragraph

-- nothing stands there
abbrev pub nothing_behind : ParagraphsBehind
nothing_behind = record { statements = []; paragraphs = [] }

-- What stands from a piece on: a block of statements, and why it ends. It ends at a period or at the
-- end of the text, or at an ELSE or END-IF of a branch that was opened before the piece.
pub data Levels : Type 0 where
  Closed : (block : List Statement) → (behind : ParagraphsBehind) → Levels
  AtElse : (block : List Statement) → (inside : Levels) → Levels
  AtEndIf : (block : List Statement) → (inside : Levels) → Levels

-- statements before what stands from a piece on
abbrev pub prepend : List Statement → Levels → Levels
prepend front (Closed block behind) = Closed (front ++ block) behind
prepend front (AtElse block inside) = AtElse (front ++ block) inside
prepend front (AtEndIf block inside) = AtEndIf (front ++ block) inside

-- the statement that a head and its two branches are
abbrev pub closed : Head → List Statement → List Statement → Statement
closed (heads.If line cond) first second = statements.If line cond first second
closed (heads.OnSizeError line arithmetic) first second =
    statements.OnSizeError line arithmetic first second

-- a branch that has its ELSE, and what stands from there on; an outer ELSE closes it too
abbrev pub with_else : Head → List Statement → Levels → Levels
with_else head first (Closed second behind) = Closed (closed head first second ∷ []) behind
with_else head first (AtElse second inside) = AtElse (closed head first second ∷ []) inside
with_else head first (AtEndIf second inside) = prepend (closed head first second ∷ []) inside

-- a head, and what stands behind it
abbrev pub opened : Head → Levels → Levels
opened head (Closed first behind) = Closed (closed head first [] ∷ []) behind
opened head (AtElse first inside) = with_else head first inside
opened head (AtEndIf first inside) = prepend (closed head first [] ∷ []) inside

-- what stands from a piece on, behind a period
abbrev pub behind_period : Levels → ParagraphsBehind
behind_period (Closed block behind) = record behind { statements = block ++ behind.statements }
behind_period (AtElse block inside) = record { statements = block; paragraphs = [] }
behind_period (AtEndIf block inside) = record { statements = block; paragraphs = [] }

-- a paragraph, and what stands behind its name
abbrev pub paragraph : ℕ → Word → ParagraphsBehind → ParagraphsBehind
paragraph line name behind =
    record {
      statements = [];
      paragraphs = (record { name = name; line = line; body = behind.statements }) ∷ behind.paragraphs;
    }

-- a piece, and what stands behind it
abbrev pub level_of : ℕ → Piece → Levels → Levels
level_of line (pieces.Name name) rest = Closed [] (paragraph line name (behind_period rest))
level_of line pieces.Period rest = Closed [] (behind_period rest)
level_of line (pieces.Whole statement) rest = prepend (statement ∷ []) rest
level_of line (pieces.Opens head) rest = opened head rest
level_of line pieces.Else rest = AtElse [] rest
level_of line pieces.EndIf rest = AtEndIf [] rest
level_of line (pieces.Fault code) rest = rest

-- what stands from the first of the pieces on
unfoldable pub levels : List Placed → Levels
levels [] = Closed [] nothing_behind
levels (next ∷ pieces) = level_of next.line next.piece (levels pieces)

-- the procedure that pieces are
abbrev pub tree : List Placed → Procedure
tree pieces = record { paragraphs = (behind_period (levels pieces)).paragraphs }
