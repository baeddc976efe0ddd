-- Programs whose statements are right: all of them where each verb is, and those without RESTART-TRANSACTION where each
-- verb but Redo is.
use Rattle.std.proofs.Common.{ℕ, zero, suc, Bool, List, [], ◌∷◌}
use Rattle.pw_forms.specs.declared.statement.Paragraph.{Paragraph}
use Rattle.pw_forms.specs.declared.statement.Statement.{Statement}
use Rattle.pw_forms.specs.declared.statement.Statement as form
use Rattle.pw_forms.specs.declared.statement.Statement.{Row_of-Statement, end_of-Statement, more_of-Statement}
use Rattle.pw_code.specs.declared.verb.Verb.{Verb}
use Rattle.pw_code.specs.declared.verb.Verb.TheVariants as verb
use Rattle.pw_tree_meaning.specs.Program.{Program, program_at}
use Rattle.pw_operands.specs.Resolved.{Each}
use Rattle.pw_tree_meaning.specs.Restarts.{HasNoRestart, RowHasNoRestart, NeverRestarts}
use Rattle.pw_tree_meaning.proofs.trees.Trees.{Rules}
use Rattle.pw_tree_meaning.proofs.trees.Statements.{Suited, SuitedRow, SuitedBody}
use Rattle.pw_tree_meaning.proofs.trees.Programs.{SuitedAll}

-- any verb but Redo
abbrev pub IsNoRedo : Verb → Type 0
IsNoRedo verb.Redo = ⊥
IsNoRedo _ = Unit {0}

module _ (r : Rules) (right : (v : Verb) → IsNoRedo v → r.Right v) (program : Program) (first : ℕ) (is_server : Bool) (message : List ℕ) where
  mutual
    suited : (one : Statement) → HasNoRestart one → Suited r program first is_server message one
    suited (form.OnSizeError' line a n first m second) free = (row-suited first free.0, row-suited second free.1)
    suited (form.If' line cond n first m second) free = (row-suited first free.0, row-suited second free.1)
    suited (form.StopRun line) free = λ e. right verb.Stop tt
    suited (form.DisplayBase line screen) free = right verb.Show tt
    suited (form.Display line shown) free = right verb.Show tt
    suited (form.Accept line screen keys) free = (λ number. right (verb.Accept number) tt, right verb.Show tt)
    suited (form.Send line sent class codes) free = λ chars. right (verb.Send _ chars) tt
    suited (form.Begin line) free = right verb.Begin tt
    suited (form.End line) free = right verb.End tt
    suited (form.Abort line) free = right verb.Drop tt
    suited (form.Restart line) free = absurd free
    suited (form.Reply line from) free = λ chars. right (verb.Reply chars) tt
    suited (form.Read line file locking key into) free = λ s found fits e. right (verb.File _) tt
    suited (form.ReadNext line file locking after into) free = λ s found fits e. right (verb.File _) tt
    suited (form.Write line file from) free = λ s found fits e. right (verb.File _) tt
    suited (form.Rewrite line file from) free = λ s found fits e. right (verb.File _) tt
    suited (form.Delete line file key) free = λ s found fits e. right (verb.File _) tt
    suited _ free = tt

    row-suited : {n : _} → (row : Row_of-Statement n) → RowHasNoRestart row → SuitedRow r program first is_server message row
    row-suited end_of-Statement free = tt
    row-suited (more_of-Statement one rest) free = (suited one free.0, row-suited rest free.1)

  body-suited : (body : List Statement) → Each HasNoRestart body → SuitedBody r program first is_server message body
  body-suited [] free = tt
  body-suited (one ∷ rest) free = (suited one free.0, body-suited rest free.1)

  pub each-suited : (paragraphs : List Paragraph) → Each (λ paragraph. Each HasNoRestart paragraph.body) paragraphs → SuitedAll r program first is_server message paragraphs
  each-suited [] free = tt
  each-suited (paragraph ∷ rest) free = (body-suited paragraph.body free.0, each-suited rest free.1)

pub never-restarts : (programs : List Program) (q : ℕ) → NeverRestarts programs → Each (λ paragraph. Each HasNoRestart paragraph.body) (program_at programs q).paragraphs
never-restarts [] q free = tt
never-restarts (program ∷ rest) zero free = free.0
never-restarts (program ∷ rest) (suc q) free = never-restarts rest q free.1

module _ (r : Rules) (right : (v : Verb) → r.Right v) (program : Program) (first : ℕ) (is_server : Bool) (message : List ℕ) where
  mutual
    fine : (one : Statement) → Suited r program first is_server message one
    fine (form.OnSizeError' line a n first m second) = (row-fine first, row-fine second)
    fine (form.If' line cond n first m second) = (row-fine first, row-fine second)
    fine (form.StopRun line) = λ e. right verb.Stop
    fine (form.DisplayBase line screen) = right verb.Show
    fine (form.Display line shown) = right verb.Show
    fine (form.Accept line screen keys) = (λ number. right (verb.Accept number), right verb.Show)
    fine (form.Send line sent class codes) = λ chars. right (verb.Send _ chars)
    fine (form.Begin line) = right verb.Begin
    fine (form.End line) = right verb.End
    fine (form.Abort line) = right verb.Drop
    fine (form.Restart line) = right verb.Redo
    fine (form.Reply line from) = λ chars. right (verb.Reply chars)
    fine (form.Read line file locking key into) = λ s found fits e. right (verb.File _)
    fine (form.ReadNext line file locking after into) = λ s found fits e. right (verb.File _)
    fine (form.Write line file from) = λ s found fits e. right (verb.File _)
    fine (form.Rewrite line file from) = λ s found fits e. right (verb.File _)
    fine (form.Delete line file key) = λ s found fits e. right (verb.File _)
    fine _ = tt

    row-fine : {n : _} → (row : Row_of-Statement n) → SuitedRow r program first is_server message row
    row-fine end_of-Statement = tt
    row-fine (more_of-Statement one rest) = (fine one, row-fine rest)

  body-fine : (body : List Statement) → SuitedBody r program first is_server message body
  body-fine [] = tt
  body-fine (one ∷ rest) = (fine one, body-fine rest)

  pub each-fine : (paragraphs : List Paragraph) → SuitedAll r program first is_server message paragraphs
  each-fine [] = tt
  each-fine (paragraph ∷ rest) = (body-fine paragraph.body, each-fine rest)
