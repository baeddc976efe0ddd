-- TELLER as it is read.
use Rattle.std.proofs.Common.{ℕ, true, false, List, [], ◌∷◌, Some}
use Rattle.std.specs.Prelude.{codes}
use Rattle.pw_program_laws.proofs.Trees.{compare, elementary, group, move, own, paragraph}
use Rattle.pw_code.specs.declared.field.ScreenTable.{ScreenTable}
use Rattle.pw_data.specs.declared.item.Item.{Item}
use Rattle.pw_data.specs.declared.item.ItemKind.TheVariants as kind
use Rattle.pw_forms.specs.declared.cond.Operator.TheVariants as operator
use Rattle.pw_forms.specs.declared.lists.SendCode.{SendCode}
use Rattle.pw_forms.specs.declared.operand.Operand.TheVariants as operands
use Rattle.pw_forms.specs.declared.statement.Operation.TheVariants as operation
use Rattle.pw_forms.specs.declared.statement.Paragraph.{Paragraph}
use Rattle.pw_forms.specs.declared.statement.Statement.{Statement}
use Rattle.pw_forms.specs.declared.statement.Statement as form
use Rattle.pw_forms.specs.declared.statement.Statement.{Row_of-Statement, end_of-Statement, more_of-Statement}
use Rattle.pw_tree_meaning.specs.Program.{Program}

abbrev teller_items : List Item
teller_items =
    elementary 1 (codes "DONE") (kind.Text 1) 0 1
    ∷ elementary 1 (codes "MESSAGE") (kind.Text 40) 1 40
    ∷ elementary 1 (codes "FROM-ACCOUNT") (kind.Text 4) 41 4
    ∷ elementary 1 (codes "TO-ACCOUNT") (kind.Text 4) 45 4
    ∷ elementary 1 (codes "AMOUNT") (kind.Number 7 2 false) 49 7
    ∷ group 1 (codes "POSTING") 56 17
    ∷ elementary 2 (codes "P-OP") (kind.Text 1) 56 1
    ∷ elementary 2 (codes "P-ACCOUNT") (kind.Text 4) 57 4
    ∷ elementary 2 (codes "P-OTHER") (kind.Text 4) 61 4
    ∷ elementary 2 (codes "P-AMOUNT") (kind.Number 7 2 true) 65 8
    ∷ elementary 1 (codes "ANSWER") (kind.Text 36) 73 36
    ∷ elementary 1 (codes "PAYER") (kind.Text 36) 109 36
    ∷ group 1 (codes "SHOWN") 145 36
    ∷ elementary 2 (codes "A-CODE") (kind.Number 4 0 false) 145 4
    ∷ elementary 2 (codes "A-WHO") (kind.Text 15) 149 15
    ∷ elementary 2 (codes "A-BALANCE") (kind.Number 9 2 false) 164 9
    ∷ elementary 2 (codes "A-CHANGE") (kind.Number 7 2 true) 173 8
    ∷ elementary 1 (codes "BEFORE-ALL-ACCOUNTS") (kind.Text 4) 181 4
    ∷ group 1 (codes "TOTALS") 185 14
    ∷ elementary 2 (codes "T-CODE") (kind.Number 4 0 false) 185 4
    ∷ elementary 2 (codes "T-SUM") (kind.Number 10 2 false) 189 10
    ∷ []

abbrev teller_storage : List ℕ
teller_storage =
    codes "N                                                0000000         +0000000                                                                        0000               000000000+0000000    00000000000000"

-- ---- paragraphs

abbrev pub teller_main : List Statement
teller_main =
    form.DisplayBase 1 (codes "DESK")
    ∷ form.PerformUntil 1 (codes "NEXT-REQUEST") (compare (codes "DONE") false operator.Equal (operands.Text (codes "Y")))
    ∷ form.StopRun 1
    ∷ []

abbrev pub next_shown : List Statement
next_shown =
    form.If' 1 (compare (codes "DONE") false operator.Equal (operands.Text (codes "N"))) (tt ∷ tt ∷ [])
    (more_of-Statement (form.Display 1 (own (codes "DESK"))) (more_of-Statement (form.Display 1 (own (codes "MESSAGE"))) end_of-Statement)) []
    end_of-Statement
    ∷ []

abbrev pub next_taken : List Statement
next_taken =
    move operands.Spaces (codes "MESSAGE")
    ∷ form.PerformOneOf 1 (codes "TRANSFER" ∷ codes "INQUIRY" ∷ codes "CONTROL-TOTAL" ∷ codes "SIGN-OFF" ∷ []) (own (codes "TERMINATION-STATUS"))
    ∷ next_shown

abbrev next_request : List Statement
next_request = form.Accept 1 (codes "DESK") (1 ∷ 2 ∷ 3 ∷ 32 ∷ []) ∷ next_taken

abbrev sign_off : List Statement
sign_off = move (operands.Text (codes "Y")) (codes "DONE") ∷ []

abbrev pub transfer : List Statement
transfer =
    form.If' 1 (compare (codes "AMOUNT") false operator.Equal (operands.Number (codes "0"))) (tt ∷ [])
    (more_of-Statement (move (operands.Text (codes "HOW MUCH?")) (codes "MESSAGE")) end_of-Statement) []
    end_of-Statement
    ∷ form.If' 1 (compare (codes "FROM-ACCOUNT") false operator.Equal (own (codes "TO-ACCOUNT"))) (tt ∷ [])
    (more_of-Statement (move (operands.Text (codes "FROM AND TO ARE THE SAME ACCOUNT")) (codes "MESSAGE")) end_of-Statement) []
    end_of-Statement
    ∷ form.If' 1 (compare (codes "MESSAGE") false operator.Equal operands.Spaces) (tt ∷ [])
    (more_of-Statement (form.Perform 1 (codes "MOVE-MONEY")) end_of-Statement) []
    end_of-Statement
    ∷ []

-- what MOVE-MONEY does behind its requests
abbrev pub money_settled : List Statement
money_settled =
    form.If' 1 (compare (codes "MESSAGE") false operator.Equal operands.Spaces) (tt ∷ tt ∷ tt ∷ [])
    (more_of-Statement (form.End 1)
    (more_of-Statement (move (own (codes "PAYER")) (codes "SHOWN"))
    (more_of-Statement (move (operands.Text (codes "TRANSFER IS DONE")) (codes "MESSAGE")) end_of-Statement))) (tt ∷ [])
    (more_of-Statement (form.Abort 1) end_of-Statement)
    ∷ []

abbrev pub money_moved : List Statement
money_moved =
    form.If' 1 (compare (codes "FROM-ACCOUNT") false operator.Less (own (codes "TO-ACCOUNT"))) (tt ∷ tt ∷ [])
    (more_of-Statement (form.Perform 1 (codes "DEBIT")) (more_of-Statement (form.Perform 1 (codes "CREDIT")) end_of-Statement)) (tt ∷ tt ∷ [])
    (more_of-Statement (form.Perform 1 (codes "CREDIT")) (more_of-Statement (form.Perform 1 (codes "DEBIT")) end_of-Statement))
    ∷ money_settled

abbrev move_money : List Statement
move_money = form.Begin 1 ∷ money_moved

abbrev debit : List Statement
debit =
    move (own (codes "FROM-ACCOUNT")) (codes "P-ACCOUNT")
    ∷ move (own (codes "TO-ACCOUNT")) (codes "P-OTHER")
    ∷ form.Arithmetic 1 (record { operation = operation.Subtract; first = own (codes "AMOUNT"); second = operands.Number (codes "0"); giving = Some (own (codes "P-AMOUNT")) })
    ∷ form.If' 1 (compare (codes "MESSAGE") false operator.Equal operands.Spaces) (tt ∷ tt ∷ [])
    (more_of-Statement (form.Perform 1 (codes "POST")) (more_of-Statement (move (own (codes "ANSWER")) (codes "PAYER")) end_of-Statement)) []
    end_of-Statement
    ∷ []

abbrev credit : List Statement
credit =
    move (own (codes "TO-ACCOUNT")) (codes "P-ACCOUNT")
    ∷ move (own (codes "FROM-ACCOUNT")) (codes "P-OTHER")
    ∷ move (own (codes "AMOUNT")) (codes "P-AMOUNT")
    ∷ form.If' 1 (compare (codes "MESSAGE") false operator.Equal operands.Spaces) (tt ∷ [])
    (more_of-Statement (form.Perform 1 (codes "POST")) end_of-Statement) []
    end_of-Statement
    ∷ []

abbrev pub code : ℕ → List ℕ → SendCode
code number name = record { number = number; yields = own name }

abbrev pub post_codes : List SendCode
post_codes = code 0 (codes "ANSWER") ∷ code 1 (codes "ANSWER") ∷ code 2 (codes "ANSWER") ∷ code 3 (codes "ANSWER") ∷ []

-- what POST does behind its reply
abbrev pub post_answered : List Statement
post_answered =
    form.If' 1 (compare (codes "TERMINATION-STATUS") false operator.Equal (operands.Number (codes "2"))) (tt ∷ [])
    (more_of-Statement (form.Perform 1 (codes "NO-SUCH-ACCOUNT")) end_of-Statement) []
    end_of-Statement
    ∷ form.If' 1 (compare (codes "TERMINATION-STATUS") false operator.Equal (operands.Number (codes "3"))) (tt ∷ [])
    (more_of-Statement (move (operands.Text (codes "NOT ENOUGH MONEY")) (codes "MESSAGE")) end_of-Statement) []
    end_of-Statement
    ∷ form.If' 1 (compare (codes "TERMINATION-STATUS") false operator.Equal (operands.Number (codes "4"))) (tt ∷ [])
    (more_of-Statement (move (operands.Text (codes "THE ACCOUNT IS FULL")) (codes "MESSAGE")) end_of-Statement) []
    end_of-Statement
    ∷ []

abbrev post : List Statement
post =
    move (operands.Text (codes "P")) (codes "P-OP")
    ∷ form.Send 1 (own (codes "POSTING")) (codes "ACCOUNT-SRV") post_codes
    ∷ post_answered

abbrev no_such_account : List Statement
no_such_account =
    form.If' 1 (compare (codes "P-ACCOUNT") false operator.Equal (own (codes "FROM-ACCOUNT"))) (tt ∷ [])
    (more_of-Statement (move (operands.Text (codes "FROM: NO SUCH ACCOUNT")) (codes "MESSAGE")) end_of-Statement) (tt ∷ [])
    (more_of-Statement (move (operands.Text (codes "TO: NO SUCH ACCOUNT")) (codes "MESSAGE")) end_of-Statement)
    ∷ []

abbrev inquiry : List Statement
inquiry =
    move (operands.Text (codes "Q")) (codes "P-OP")
    ∷ move (own (codes "FROM-ACCOUNT")) (codes "P-ACCOUNT")
    ∷ form.Send 1 (own (codes "POSTING")) (codes "ACCOUNT-SRV") (code 0 (codes "SHOWN") ∷ code 1 (codes "SHOWN") ∷ [])
    ∷ form.If' 1 (compare (codes "TERMINATION-STATUS") false operator.Equal (operands.Number (codes "2"))) (tt ∷ [])
    (more_of-Statement (form.Perform 1 (codes "NO-SUCH-ACCOUNT")) end_of-Statement) []
    end_of-Statement
    ∷ []

abbrev control_total : List Statement
control_total = form.Send 1 (own (codes "BEFORE-ALL-ACCOUNTS")) (codes "TOTAL-SRV") (code 0 (codes "TOTALS") ∷ []) ∷ []

abbrev pub teller_behind : List Paragraph
teller_behind =
    paragraph (codes "NEXT-REQUEST") next_request
    ∷ paragraph (codes "SIGN-OFF") sign_off
    ∷ paragraph (codes "TRANSFER") transfer
    ∷ paragraph (codes "MOVE-MONEY") move_money
    ∷ paragraph (codes "DEBIT") debit
    ∷ paragraph (codes "CREDIT") credit
    ∷ paragraph (codes "POST") post
    ∷ paragraph (codes "NO-SUCH-ACCOUNT") no_such_account
    ∷ paragraph (codes "INQUIRY") inquiry
    ∷ paragraph (codes "CONTROL-TOTAL") control_total
    ∷ []

abbrev pub teller_program : List ScreenTable → Program
teller_program screens = record {
  name = codes "TELLER";
  layout = record { items = teller_items; storage = teller_storage };
  screens = screens;
  parameters = [];
  paragraphs = paragraph (codes "MAIN") teller_main ∷ teller_behind;
}
