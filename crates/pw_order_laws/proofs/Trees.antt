-- The servers of the order entry as they are read.
use Rattle.std.proofs.Common.{ℕ, Bool, true, false, List, [], ◌∷◌}
use Rattle.std.specs.Prelude.{codes}
use Rattle.pw_data.specs.declared.item.Item.{Item}
use Rattle.pw_data.specs.declared.item.ItemKind.TheVariants as kind
use Rattle.pw_forms.specs.declared.cond.ComparisonForm.{ComparisonForm}
use Rattle.pw_forms.specs.declared.cond.ComparisonForm.TheVariants as comparison
use Rattle.pw_forms.specs.declared.cond.ConditionForm.{ConditionForm}
use Rattle.pw_forms.specs.declared.cond.Operator.{Operator}
use Rattle.pw_forms.specs.declared.cond.Operator.TheVariants as operator
use Rattle.pw_forms.specs.declared.operand.Operand.TheVariants as operands
use Rattle.pw_forms.specs.declared.statement.Statement.{Statement}
use Rattle.pw_forms.specs.declared.statement.Statement as form
use Rattle.pw_forms.specs.declared.statement.Statement.{Row_of-Statement, end_of-Statement, more_of-Statement}
use Rattle.pw_program_laws.proofs.Trees.{add, compare, elementary, group, move, own, paragraph}
use Rattle.pw_tree_meaning.specs.Program.{Program}

abbrev stock_items : List Item
stock_items =
    group 1 (codes "STOCK-MSG") 0 8
    ∷ elementary 2 (codes "K-ITEM") (kind.Text 4) 0 4
    ∷ elementary 2 (codes "K-CHANGE") (kind.Number 3 0 true) 4 4
    ∷ group 1 (codes "STOCK-REC") 8 20
    ∷ elementary 2 (codes "S-ITEM") (kind.Text 4) 8 4
    ∷ elementary 2 (codes "S-PRICE") (kind.Number 6 2 false) 12 6
    ∷ elementary 2 (codes "S-QTY") (kind.Number 5 0 false) 18 5
    ∷ elementary 2 (codes "S-DELIVERED") (kind.Number 5 0 false) 23 5
    ∷ group 1 (codes "STOCK-REPLY") 28 10
    ∷ elementary 2 (codes "K-CODE") (kind.Number 4 0 false) 28 4
    ∷ elementary 2 (codes "K-PRICE") (kind.Number 6 2 false) 32 6
    ∷ []

abbrev order_items : List Item
order_items =
    group 1 (codes "ORDER-REC") 0 34
    ∷ elementary 2 (codes "O-NUMBER") (kind.Number 4 0 false) 0 4
    ∷ elementary 2 (codes "O-REST") (kind.Text 30) 4 30
    ∷ group 1 (codes "CONTROL-REC") 34 8
    ∷ elementary 2 (codes "C-KEY") (kind.Text 4) 34 4
    ∷ elementary 2 (codes "C-NUMBER") (kind.Number 4 0 false) 38 4
    ∷ group 1 (codes "ORDER-REPLY") 42 8
    ∷ elementary 2 (codes "N-CODE") (kind.Number 4 0 false) 42 4
    ∷ elementary 2 (codes "N-NUMBER") (kind.Number 4 0 false) 46 4
    ∷ []

-- ---- statements

-- a comparison with a number
abbrev against : List ℕ → Bool → Operator → List ℕ → ConditionForm
against left negated op right = compare left negated op (operands.Number right)

abbrev no_number : List ℕ → List ComparisonForm
no_number name = comparison.Numeric (own name) true ∷ []

abbrev stock_main : List Statement
stock_main =
    form.Receive 1 (own (codes "STOCK-MSG"))
    ∷ form.Read 1 (codes "STOCK") true (own (codes "K-ITEM")) (own (codes "STOCK-REC"))
    ∷ form.If' 1 (against (codes "FILE-STATUS") true operator.Equal (codes "0")) (tt ∷ [])
    (more_of-Statement (move (operands.Number (codes "1")) (codes "K-CODE")) end_of-Statement) (tt ∷ [])
    (more_of-Statement
    (form.If' 1 (record { any = no_number (codes "S-PRICE") ∷ no_number (codes "S-QTY") ∷ no_number (codes "S-DELIVERED") ∷ [] }) (tt ∷ [])
    (more_of-Statement (move (operands.Number (codes "3")) (codes "K-CODE")) end_of-Statement) (tt ∷ [])
    (more_of-Statement (form.Perform 1 (codes "CHANGE-STOCK")) end_of-Statement)) end_of-Statement)
    ∷ form.Reply 1 (own (codes "STOCK-REPLY"))
    ∷ []

abbrev change_stock : List Statement
change_stock =
    form.OnSizeError' 1 (add (own (codes "K-CHANGE")) (codes "S-QTY")) (tt ∷ [])
    (more_of-Statement (move (operands.Number (codes "2")) (codes "K-CODE")) end_of-Statement) [] end_of-Statement
    ∷ form.If' 1 (against (codes "K-CHANGE") false operator.Greater (codes "0")) (tt ∷ [])
    (more_of-Statement
    (form.OnSizeError' 1 (add (own (codes "K-CHANGE")) (codes "S-DELIVERED")) (tt ∷ [])
    (more_of-Statement (move (operands.Number (codes "2")) (codes "K-CODE")) end_of-Statement) [] end_of-Statement) end_of-Statement) [] end_of-Statement
    ∷ form.If' 1 (against (codes "K-CODE") false operator.Equal (codes "0")) (tt ∷ [])
    (more_of-Statement (form.Rewrite 1 (codes "STOCK") (own (codes "STOCK-REC"))) end_of-Statement) [] end_of-Statement
    ∷ move (own (codes "S-PRICE")) (codes "K-PRICE")
    ∷ []

abbrev pub stock_program : Program
stock_program = record {
  name = codes "STOCK-P";
  layout = record { items = stock_items; storage = codes "    +000    00000000000000000000000000" };
  screens = [];
  parameters = [];
  paragraphs = paragraph (codes "MAIN") stock_main ∷ paragraph (codes "CHANGE-STOCK") change_stock ∷ [];
}

abbrev order_main : List Statement
order_main =
    form.Receive 1 (own (codes "O-REST"))
    ∷ form.Read 1 (codes "CONTROL") true (own (codes "C-KEY")) (own (codes "CONTROL-REC"))
    ∷ form.If' 1 (against (codes "FILE-STATUS") true operator.Equal (codes "0")) (tt ∷ [])
    (more_of-Statement (move (operands.Number (codes "1")) (codes "N-CODE")) end_of-Statement) [] end_of-Statement
    ∷ form.OnSizeError' 1 (add (operands.Number (codes "1")) (codes "C-NUMBER")) (tt ∷ [])
    (more_of-Statement (move (operands.Number (codes "1")) (codes "N-CODE")) end_of-Statement) [] end_of-Statement
    ∷ form.If' 1 (against (codes "N-CODE") false operator.Equal (codes "0")) (tt ∷ [])
    (more_of-Statement (form.Perform 1 (codes "NUMBER-IT")) end_of-Statement) [] end_of-Statement
    ∷ form.Reply 1 (own (codes "ORDER-REPLY"))
    ∷ []

abbrev number_it : List Statement
number_it =
    form.Move 1 (own (codes "C-NUMBER")) (own (codes "O-NUMBER") ∷ own (codes "N-NUMBER") ∷ [])
    ∷ form.Write 1 (codes "ORDERS") (own (codes "ORDER-REC"))
    ∷ form.If' 1 (against (codes "FILE-STATUS") false operator.Equal (codes "0")) (tt ∷ [])
    (more_of-Statement (form.Rewrite 1 (codes "CONTROL") (own (codes "CONTROL-REC"))) end_of-Statement) (tt ∷ [])
    (more_of-Statement (move (operands.Number (codes "1")) (codes "N-CODE")) end_of-Statement)
    ∷ []

abbrev pub order_program : Program
order_program = record {
  name = codes "ORDER-P";
  layout = record { items = order_items; storage = codes "0000                              LAST000000000000" };
  screens = [];
  parameters = [];
  paragraphs = paragraph (codes "MAIN") order_main ∷ paragraph (codes "NUMBER-IT") number_it ∷ [];
}
