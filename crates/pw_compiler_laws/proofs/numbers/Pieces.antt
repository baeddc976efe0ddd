-- The number literals of the statements of a procedure are those that its tokens write.
use Rattle.std.proofs.Common.{◌≡◌, ℕ, Bool, List, Ok, refl, sym, subst}
use mathlib.Core.Former.{Count}
use Rattle.pw_text.specs.declared.token.Token.{Token}
use Rattle.pw_forms.specs.declared.form.Head.{Head}
use Rattle.pw_forms.specs.declared.form.Head.TheVariants as heads
use Rattle.pw_forms.specs.declared.statement.Procedure.{Procedure}
use Rattle.pw_forms.specs.declared.statement.Statement.{Statement, Row_of-Statement, end_of-Statement, more_of-Statement, items-the_row-Statement, items_hidden-the_row-Statement-0}
use Rattle.pw_forms.specs.declared.statement.Statement.TheVariants as statements
use Rattle.pw_forms.specs.Tree.{closed}
use Rattle.pw_forms.specs.Procedures.{procedure_of}
use Rattle.pw_operands.specs.Resolved.{Each}
use Rattle.pw_operands.proofs.Branches.{first_of, second_of}
use Rattle.pw_compiler_laws.specs.Premises.{IsReadStatement, RowIsRead}
use Rattle.pw_compiler_laws.specs.Tokens.{HasSpelledNumber}
use Rattle.pw_compiler_laws.proofs.numbers.Forms.{HeadIsRead, form-gives}
use Rattle.pw_tree_meaning.proofs.sides.Holding.{procedure-holds}

-- ---- a statement over branches

to-row : (n : Count) (row : Row_of-Statement n) → Each IsReadStatement (items-the_row-Statement n row) → RowIsRead row
to-row n end_of-Statement all = tt
to-row n (more_of-Statement statement rest) all = (all.0, to-row _ rest all.1)

closed-of : (head : Head) (first second : List Statement) → HeadIsRead head → Each IsReadStatement first → Each IsReadStatement second → IsReadStatement (closed head first second)
closed-of (heads.If line cond) first second own one two =
    let a = first_of (statements.If line cond first second) in
    let b = second_of (statements.If line cond first second) in (
      own,
      to-row a.0 a.1 (subst (Each IsReadStatement) (sym (items_hidden-the_row-Statement-0 first)) one),
      to-row b.0 b.1 (subst (Each IsReadStatement) (sym (items_hidden-the_row-Statement-0 second)) two),
    )
closed-of (heads.OnSizeError line arithmetic) first second own one two =
    let a = first_of (statements.OnSizeError line arithmetic first second) in
    let b = second_of (statements.OnSizeError line arithmetic first second) in (
      own.0,
      own.1,
      to-row a.0 a.1 (subst (Each IsReadStatement) (sym (items_hidden-the_row-Statement-0 first)) one),
      to-row b.0 b.1 (subst (Each IsReadStatement) (sym (items_hidden-the_row-Statement-0 second)) two),
    )

-- a procedure that was read of such tokens
pub procedure-read : (server : Bool) (text : List ℕ) (tokens : List Token) (procedure : Procedure) → Each (HasSpelledNumber text) tokens → procedure_of server text tokens ≡ Ok procedure
    → Each (λ paragraph. Each IsReadStatement paragraph.body) procedure.paragraphs
procedure-read server text tokens procedure each is =
    procedure-holds IsReadStatement HeadIsRead closed-of (HasSpelledNumber text) server text
    (λ v line rest free all found after e. (form-gives text line v (record { server = server; text = text; tokens = rest }) found after (record { same = refl; all = all }) e).0)
    tokens procedure each is
