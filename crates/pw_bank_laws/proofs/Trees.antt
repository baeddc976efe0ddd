-- The programs of the bank's servers as they are read.
use Rattle.std.proofs.Common.{ℕ, true, false, List, [], ◌∷◌}
use Rattle.std.specs.Prelude.{codes}
use Rattle.pw_data.specs.declared.item.Item.{Item}
use Rattle.pw_data.specs.declared.item.ItemKind.TheVariants as kind
use Rattle.pw_forms.specs.declared.cond.Operator.TheVariants as operator
use Rattle.pw_forms.specs.declared.operand.Operand.TheVariants as operands
use Rattle.pw_forms.specs.declared.statement.Paragraph.{Paragraph}
use Rattle.pw_forms.specs.declared.statement.Statement.{Statement}
use Rattle.pw_forms.specs.declared.statement.Statement as form
use Rattle.pw_forms.specs.declared.statement.Statement.{Row_of-Statement, end_of-Statement, more_of-Statement}
use Rattle.pw_program_laws.proofs.Trees.{add, compare, elementary, group, move, own, paragraph}
use Rattle.pw_tree_meaning.specs.Program.{Program}

-- ---- items

abbrev account_items : List Item
account_items =
    group 1 (codes "POSTING") 0 17
    ∷ elementary 2 (codes "P-OP") (kind.Text 1) 0 1
    ∷ elementary 2 (codes "P-ACCOUNT") (kind.Text 4) 1 4
    ∷ elementary 2 (codes "P-OTHER") (kind.Text 4) 5 4
    ∷ elementary 2 (codes "P-AMOUNT") (kind.Number 7 2 true) 9 8
    ∷ group 1 (codes "ACCOUNT-REC") 17 27
    ∷ group 2 (codes "R-WHO") 17 15
    ∷ elementary 3 (codes "R-ACCOUNT") (kind.Text 4) 17 4
    ∷ elementary 3 (codes "R-OWNER") (kind.Text 11) 21 11
    ∷ elementary 2 (codes "R-BALANCE") (kind.Number 9 2 false) 32 9
    ∷ elementary 2 (codes "R-LINES") (kind.Number 3 0 false) 41 3
    ∷ group 1 (codes "STATEMENT-LINE") 44 19
    ∷ group 2 (codes "L-KEY") 44 7
    ∷ elementary 3 (codes "L-ACCOUNT") (kind.Text 4) 44 4
    ∷ elementary 3 (codes "L-NUMBER") (kind.Number 3 0 false) 48 3
    ∷ elementary 2 (codes "L-OTHER") (kind.Text 4) 51 4
    ∷ elementary 2 (codes "L-AMOUNT") (kind.Number 7 2 true) 55 8
    ∷ group 1 (codes "ANSWER") 63 36
    ∷ elementary 2 (codes "A-CODE") (kind.Number 4 0 false) 63 4
    ∷ elementary 2 (codes "A-WHO") (kind.Text 15) 67 15
    ∷ elementary 2 (codes "A-BALANCE") (kind.Number 9 2 false) 82 9
    ∷ elementary 2 (codes "A-CHANGE") (kind.Number 7 2 true) 91 8
    ∷ []

abbrev account_storage : List ℕ
account_storage =
    codes "         +0000000               000000000000    000    +00000000000               000000000+0000000"

abbrev total_items : List Item
total_items =
    group 1 (codes "ACCOUNT-REC") 0 24
    ∷ elementary 2 (codes "R-ACCOUNT") (kind.Text 4) 0 4
    ∷ elementary 2 (codes "R-OWNER") (kind.Text 11) 4 11
    ∷ elementary 2 (codes "R-BALANCE") (kind.Number 9 2 false) 15 9
    ∷ group 1 (codes "TOTALS") 24 14
    ∷ elementary 2 (codes "T-CODE") (kind.Number 4 0 false) 24 4
    ∷ elementary 2 (codes "T-SUM") (kind.Number 10 2 false) 28 10
    ∷ []

abbrev total_storage : List ℕ
total_storage = codes "               00000000000000000000000"

-- ---- statements

-- what MAIN of ACCOUNT-P does behind the work: it replies
abbrev pub account_tail : List Statement
account_tail =
    move (own (codes "R-WHO")) (codes "A-WHO")
    ∷ move (own (codes "R-BALANCE")) (codes "A-BALANCE")
    ∷ move (own (codes "L-AMOUNT")) (codes "A-CHANGE")
    ∷ form.Reply 1 (own (codes "ANSWER"))
    ∷ []

-- and behind the READ of the account
abbrev pub account_work : List Statement
account_work =
    form.If' 1 (compare (codes "FILE-STATUS") true operator.Equal (operands.Number (codes "0"))) (tt ∷ [])
    (more_of-Statement (move (operands.Number (codes "1")) (codes "A-CODE")) end_of-Statement) (tt ∷ [])
    (more_of-Statement
    (form.If' 1 (compare (codes "P-OP") false operator.Equal (operands.Text (codes "P"))) (tt ∷ [])
    (more_of-Statement (form.Perform 1 (codes "POST-IT")) end_of-Statement) (tt ∷ [])
    (more_of-Statement (form.Perform 1 (codes "READ-LAST-LINE")) end_of-Statement)) end_of-Statement)
    ∷ account_tail

-- and behind the message
abbrev pub account_open : List Statement
account_open =
    form.If' 1 (compare (codes "P-OP") false operator.Equal (operands.Text (codes "P"))) (tt ∷ [])
    (more_of-Statement (form.Read 1 (codes "ACCOUNTS") true (own (codes "P-ACCOUNT")) (own (codes "ACCOUNT-REC"))) end_of-Statement) (tt ∷ [])
    (more_of-Statement (form.Read 1 (codes "ACCOUNTS") false (own (codes "P-ACCOUNT")) (own (codes "ACCOUNT-REC"))) end_of-Statement)
    ∷ account_work

abbrev account_main : List Statement
account_main = form.Receive 1 (own (codes "POSTING")) ∷ account_open

abbrev post_it : List Statement
post_it =
    form.OnSizeError' 1 (add (own (codes "P-AMOUNT")) (codes "R-BALANCE")) (tt ∷ [])
    (more_of-Statement
    (form.If' 1 (compare (codes "P-AMOUNT") false operator.Less (operands.Number (codes "0"))) (tt ∷ [])
    (more_of-Statement (move (operands.Number (codes "2")) (codes "A-CODE")) end_of-Statement) (tt ∷ [])
    (more_of-Statement (move (operands.Number (codes "3")) (codes "A-CODE")) end_of-Statement)) end_of-Statement) []
    end_of-Statement
    ∷ form.OnSizeError' 1 (add (operands.Number (codes "1")) (codes "R-LINES")) (tt ∷ [])
    (more_of-Statement (move (operands.Number (codes "3")) (codes "A-CODE")) end_of-Statement) []
    end_of-Statement
    ∷ form.If' 1 (compare (codes "A-CODE") false operator.Equal (operands.Number (codes "0"))) (tt ∷ [])
    (more_of-Statement (form.Perform 1 (codes "WRITE-LINE")) end_of-Statement) []
    end_of-Statement
    ∷ []

abbrev write_line : List Statement
write_line =
    move (own (codes "R-ACCOUNT")) (codes "L-ACCOUNT")
    ∷ move (own (codes "R-LINES")) (codes "L-NUMBER")
    ∷ move (own (codes "P-OTHER")) (codes "L-OTHER")
    ∷ move (own (codes "P-AMOUNT")) (codes "L-AMOUNT")
    ∷ form.Write 1 (codes "STATEMENTS") (own (codes "STATEMENT-LINE"))
    ∷ form.If' 1 (compare (codes "FILE-STATUS") false operator.Equal (operands.Number (codes "0"))) (tt ∷ [])
    (more_of-Statement (form.Rewrite 1 (codes "ACCOUNTS") (own (codes "ACCOUNT-REC"))) end_of-Statement) (tt ∷ [])
    (more_of-Statement (move (operands.Number (codes "3")) (codes "A-CODE")) end_of-Statement)
    ∷ []

abbrev read_last_line : List Statement
read_last_line =
    move (own (codes "R-ACCOUNT")) (codes "L-ACCOUNT")
    ∷ move (own (codes "R-LINES")) (codes "L-NUMBER")
    ∷ form.Read 1 (codes "STATEMENTS") false (own (codes "L-KEY")) (own (codes "STATEMENT-LINE"))
    ∷ []

-- the paragraphs behind MAIN
abbrev pub account_behind : List Paragraph
account_behind =
    paragraph (codes "POST-IT") post_it ∷ paragraph (codes "WRITE-LINE") write_line ∷ paragraph (codes "READ-LAST-LINE") read_last_line ∷ []

abbrev pub account_program : Program
account_program = record {
  name = codes "ACCOUNT-P";
  layout = record { items = account_items; storage = account_storage };
  screens = [];
  parameters = [];
  paragraphs = paragraph (codes "MAIN") account_main ∷ account_behind;
}

abbrev total_main : List Statement
total_main =
    form.Receive 1 (own (codes "R-ACCOUNT"))
    ∷ form.PerformUntil 1 (codes "NEXT-ACCOUNT") (compare (codes "FILE-STATUS") false operator.Equal (operands.Number (codes "1")))
    ∷ form.Reply 1 (own (codes "TOTALS"))
    ∷ []

abbrev next_account : List Statement
next_account =
    form.ReadNext 1 (codes "ACCOUNTS") false (own (codes "R-ACCOUNT")) (own (codes "ACCOUNT-REC"))
    ∷ form.If' 1 (compare (codes "FILE-STATUS") false operator.Equal (operands.Number (codes "0"))) (tt ∷ [])
    (more_of-Statement (form.Arithmetic 1 (add (own (codes "R-BALANCE")) (codes "T-SUM"))) end_of-Statement) []
    end_of-Statement
    ∷ []

abbrev pub total_program : Program
total_program = record {
  name = codes "TOTAL-P";
  layout = record { items = total_items; storage = total_storage };
  screens = [];
  parameters = [];
  paragraphs = paragraph (codes "MAIN") total_main ∷ paragraph (codes "NEXT-ACCOUNT") next_account ∷ [];
}
