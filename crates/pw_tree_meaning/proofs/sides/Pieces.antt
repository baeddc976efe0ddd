-- The statements of a procedure are those of its side, and written as its reader sees to.
use Rattle.std.proofs.Common.{◌≡◌, ℕ, Bool, List, Ok, refl, sym, subst}
use mathlib.Core.Former.{Count}
use Rattle.pw_text.specs.declared.token.Token.{Token}
use Rattle.pw_forms.specs.declared.form.Head.{Head}
use Rattle.pw_forms.specs.declared.form.Head.TheVariants as heads
use Rattle.pw_forms.specs.declared.statement.Paragraph.{Paragraph}
use Rattle.pw_forms.specs.declared.statement.Procedure.{Procedure}
use Rattle.pw_forms.specs.declared.statement.Statement.{Statement, Row_of-Statement, end_of-Statement, more_of-Statement, items-the_row-Statement, items_hidden-the_row-Statement-0}
use Rattle.pw_forms.specs.declared.statement.Statement.TheVariants as statements
use Rattle.pw_forms.specs.Tree.{closed}
use Rattle.pw_forms.specs.Procedures.{procedure_of}
use Rattle.pw_operands.specs.Resolved.{Each}
use Rattle.pw_operands.proofs.Branches.{first_of, second_of}
use Rattle.pw_tree_meaning.specs.Sound.{HasForms, RowHasForms}
use Rattle.pw_tree_meaning.specs.Written.{IsWritten, RowIsWritten}
use Rattle.pw_tree_meaning.proofs.sides.Holding.{procedure-holds}
use Rattle.pw_tree_meaning.proofs.sides.Readers.{IsStatement, form-of}
use Rattle.pw_tree_meaning.proofs.storage.Places.{each-all, each-map}

-- ---- a statement over branches

module _ (server : Bool) where
  forms-row : (n : Count) (row : Row_of-Statement n) → Each (HasForms server) (items-the_row-Statement n row) → RowHasForms server row
  forms-row n end_of-Statement all = tt
  forms-row n (more_of-Statement statement rest) all = (all.0, forms-row _ rest all.1)

  forms-closed : (head : Head) (first second : List Statement) → Each (HasForms server) first → Each (HasForms server) second → HasForms server (closed head first second)
  forms-closed (heads.If line cond) first second one two =
      let a = first_of (statements.If line cond first second) in
      let b = second_of (statements.If line cond first second) in (
        forms-row a.0 a.1 (subst (Each (HasForms server)) (sym (items_hidden-the_row-Statement-0 first)) one),
        forms-row b.0 b.1 (subst (Each (HasForms server)) (sym (items_hidden-the_row-Statement-0 second)) two),
      )
  forms-closed (heads.OnSizeError line arithmetic) first second one two =
      let a = first_of (statements.OnSizeError line arithmetic first second) in
      let b = second_of (statements.OnSizeError line arithmetic first second) in (
        forms-row a.0 a.1 (subst (Each (HasForms server)) (sym (items_hidden-the_row-Statement-0 first)) one),
        forms-row b.0 b.1 (subst (Each (HasForms server)) (sym (items_hidden-the_row-Statement-0 second)) two),
      )

written-row : (n : Count) (row : Row_of-Statement n) → Each IsWritten (items-the_row-Statement n row) → RowIsWritten row
written-row n end_of-Statement all = tt
written-row n (more_of-Statement statement rest) all = (all.0, written-row _ rest all.1)

written-closed : (head : Head) (first second : List Statement) → Each IsWritten first → Each IsWritten second → IsWritten (closed head first second)
written-closed (heads.If line cond) first second one two =
    let a = first_of (statements.If line cond first second) in
    let b = second_of (statements.If line cond first second) in (
      written-row a.0 a.1 (subst (Each IsWritten) (sym (items_hidden-the_row-Statement-0 first)) one),
      written-row b.0 b.1 (subst (Each IsWritten) (sym (items_hidden-the_row-Statement-0 second)) two),
    )
written-closed (heads.OnSizeError line arithmetic) first second one two =
    let a = first_of (statements.OnSizeError line arithmetic first second) in
    let b = second_of (statements.OnSizeError line arithmetic first second) in (
      written-row a.0 a.1 (subst (Each IsWritten) (sym (items_hidden-the_row-Statement-0 first)) one),
      written-row b.0 b.1 (subst (Each IsWritten) (sym (items_hidden-the_row-Statement-0 second)) two),
    )

-- ---- a procedure that was read

module _ (server : Bool) where
  -- of statements of a side, what is said of one of their two parts
  forms-of : (all : List Statement) → Each (IsStatement server) all → Each (HasForms server) all
  forms-of all each = each-map (IsStatement server) (HasForms server) all (λ statement is. is.0) each

  written-of : (all : List Statement) → Each (IsStatement server) all → Each IsWritten all
  written-of all each = each-map (IsStatement server) IsWritten all (λ statement is. is.1) each

  statement-closed : (head : Head) (first second : List Statement) → Unit {0} → Each (IsStatement server) first → Each (IsStatement server) second → IsStatement server (closed head first second)
  statement-closed head first second own one two = (
    forms-closed server head first second (forms-of first one) (forms-of second two),
    written-closed head first second (written-of first one) (written-of second two),
  )

  module _ (text : List ℕ) (tokens : List Token) (procedure : Procedure) (is : procedure_of server text tokens ≡ Ok procedure) where
    all-statements : Each (λ (paragraph : Paragraph). Each (IsStatement server) paragraph.body) procedure.paragraphs
    all-statements =
        procedure-holds (IsStatement server) (λ _. Unit {0}) statement-closed (λ _. Unit {0}) server text
        (λ v line rest free all found after e. form-of server v line free (record { server = server; text = text; tokens = rest }) refl found after e)
        tokens procedure (each-all (λ _. Unit {0}) tokens (λ token. tt)) is

    pub procedure-forms : Each (λ (paragraph : Paragraph). Each (HasForms server) paragraph.body) procedure.paragraphs
    procedure-forms =
        each-map (λ (paragraph : Paragraph). Each (IsStatement server) paragraph.body) (λ (paragraph : Paragraph). Each (HasForms server) paragraph.body)
        procedure.paragraphs (λ paragraph. forms-of paragraph.body) all-statements

    pub procedure-written : Each (λ (paragraph : Paragraph). Each IsWritten paragraph.body) procedure.paragraphs
    procedure-written =
        each-map (λ (paragraph : Paragraph). Each (IsStatement server) paragraph.body) (λ (paragraph : Paragraph). Each IsWritten paragraph.body)
        procedure.paragraphs (λ paragraph. written-of paragraph.body) all-statements
