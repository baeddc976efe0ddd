-- The statements that were read, before what stands from the next piece on.
use Rattle.std.specs.Prelude.{List, [], ◌∷◌, Bool, is_some, Option, Some, None}
use Rattle.pw_forms.specs.declared.form.Head.{Head}
use Rattle.pw_forms.specs.declared.statement.Statement.{Statement}
use Rattle.pw_forms.specs.declared.branch.Open.{Open}
use Rattle.pw_forms.specs.declared.branch.OpenParagraph.{OpenParagraph}
use Rattle.pw_forms.specs.Tree.{Levels, prepend, with_else, opened, closed}

-- the statement of a head that closes, whose first branch is known where it has its ELSE
abbrev pub finished_head : Head → Option (List Statement) → List Statement → Statement
finished_head head None last = closed head last []
finished_head head (Some first) last = closed head first last

-- whether each of the branches has its ELSE, from the innermost on, before those that are known
abbrev pub branches_onto : List Bool → List Open → List Bool
branches_onto known [] = known
branches_onto known (open_branch ∷ inner) = branches_onto (is_some open_branch.first ∷ known) inner

-- whether each of the open branches has its ELSE, from the innermost on
abbrev pub branches : List Open → List Bool
branches all = branches_onto [] all

-- a head round what stands behind its last statement
abbrev pub inside : Head → Option (List Statement) → Levels → Levels
inside head None rest = opened head rest
inside head (Some first) rest = with_else head first rest

-- an open branch with the statements before it, round what stands behind its last statement
abbrev pub around : Open → Levels → Levels
around open_branch rest =
    prepend open_branch.before (inside open_branch.head open_branch.first rest)

-- the same of all open branches, from the outermost on
unfoldable pub nested : List Open → Levels → Levels
nested [] rest = rest
nested (open_branch ∷ inner) rest = around open_branch (nested inner rest)

-- a block, before what stands from the next piece on
abbrev pub stands : OpenParagraph → Levels → Levels
stands block rest = nested block.open.items (prepend block.current rest)
