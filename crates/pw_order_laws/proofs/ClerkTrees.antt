-- ORDERS as it is read.
use Rattle.std.proofs.Common.{ℕ, Bool, true, false, List, [], ◌∷◌, Option, Some, None}
use Rattle.std.specs.Prelude.{codes}
use Rattle.pw_code.specs.declared.field.ScreenTable.{ScreenTable}
use Rattle.pw_data.specs.declared.item.Item.{Item}
use Rattle.pw_data.specs.declared.item.ItemKind.{ItemKind}
use Rattle.pw_data.specs.declared.item.ItemKind.TheVariants as kind
use Rattle.pw_forms.specs.declared.cond.ComparisonForm.{ComparisonForm}
use Rattle.pw_forms.specs.declared.cond.ComparisonForm.TheVariants as comparison
use Rattle.pw_forms.specs.declared.cond.ConditionForm.{ConditionForm}
use Rattle.pw_forms.specs.declared.cond.Operator.{Operator}
use Rattle.pw_forms.specs.declared.cond.Operator.TheVariants as operator
use Rattle.pw_forms.specs.declared.lists.SendCode.{SendCode}
use Rattle.pw_forms.specs.declared.operand.Operand.{Operand}
use Rattle.pw_forms.specs.declared.operand.Operand.TheVariants as operands
use Rattle.pw_forms.specs.declared.operand.Subscript.TheVariants as subscripts
use Rattle.pw_forms.specs.declared.statement.Operation.{Operation}
use Rattle.pw_forms.specs.declared.statement.Operation.TheVariants as operation
use Rattle.pw_forms.specs.declared.statement.Statement.{Statement}
use Rattle.pw_forms.specs.declared.statement.Statement as form
use Rattle.pw_forms.specs.declared.statement.Statement.{Row_of-Statement, end_of-Statement, more_of-Statement}
use Rattle.pw_program_laws.proofs.Trees.{add, compare, elementary, group, move, own, paragraph}
use Rattle.pw_tree_meaning.specs.Program.{Program}

-- an item of the table of lines, of which there are two, seven characters behind one another
abbrev of_line : ℕ → List ℕ → Option ItemKind → ℕ → ℕ → Item
of_line level name k at size = record { name = Some name; level = level; linked = false; kind = k; at = at; size = size; occurs = 2; step = 7 }

abbrev clerk_items : List Item
clerk_items =
    elementary 1 (codes "DONE") (kind.Text 1) 0 1
    ∷ elementary 1 (codes "MESSAGE") (kind.Text 40) 1 40
    ∷ group 1 (codes "TYPED") 41 14
    ∷ elementary 2 (codes "ITEM-1") (kind.Text 4) 41 4
    ∷ elementary 2 (codes "QTY-1") (kind.Number 3 0 false) 45 3
    ∷ elementary 2 (codes "ITEM-2") (kind.Text 4) 48 4
    ∷ elementary 2 (codes "QTY-2") (kind.Number 3 0 false) 52 3
    ∷ group 1 (codes "ITEM-NUMBER") 55 4
    ∷ (record { name = None; level = 2; linked = false; kind = Some (kind.Text 1); at = 55; size = 1; occurs = 0; step = 0 })
    ∷ elementary 2 (codes "ITEM-DIGITS") (kind.Text 3) 56 3
    ∷ group 1 (codes "ORDER-MSG") 59 30
    ∷ elementary 2 (codes "O-CUSTOMER") (kind.Text 8) 59 8
    ∷ group 2 (codes "O-LINES") 67 14
    ∷ of_line 3 (codes "O-LINE") None 67 7
    ∷ of_line 4 (codes "O-ITEM") (Some (kind.Text 4)) 67 4
    ∷ of_line 4 (codes "O-QTY") (Some (kind.Number 3 0 false)) 71 3
    ∷ elementary 2 (codes "O-TOTAL") (kind.Number 8 2 false) 81 8
    ∷ group 1 (codes "ORDER-REPLY") 89 8
    ∷ elementary 2 (codes "N-CODE") (kind.Number 4 0 false) 89 4
    ∷ elementary 2 (codes "N-NUMBER") (kind.Number 4 0 false) 93 4
    ∷ group 1 (codes "STOCK-MSG") 97 8
    ∷ elementary 2 (codes "K-ITEM") (kind.Text 4) 97 4
    ∷ elementary 2 (codes "K-CHANGE") (kind.Number 3 0 true) 101 4
    ∷ group 1 (codes "STOCK-REPLY") 105 10
    ∷ elementary 2 (codes "K-CODE") (kind.Number 4 0 false) 105 4
    ∷ elementary 2 (codes "K-PRICE") (kind.Number 6 2 false) 109 6
    ∷ elementary 1 (codes "AMOUNT") (kind.Number 9 2 false) 115 9
    ∷ elementary 1 (codes "GOODS") (kind.Number 8 2 false) 124 8
    ∷ elementary 1 (codes "DISCOUNT") (kind.Number 7 2 true) 132 8
    ∷ elementary 1 (codes "I") (kind.Number 1 0 false) 140 1
    ∷ []

abbrev clerk_storage : List ℕ
clerk_storage =
    codes "N                                            000    000                000    0000000000000000000    +000000000000000000000000000000+00000000"

-- ---- statements

abbrev by_line : List ℕ → Operand
by_line name = operands.Item name (Some (subscripts.Item (codes "I")))

abbrev number : List ℕ → Operand
number spelling = operands.Number spelling

-- a comparison of an item
abbrev test : List ℕ → Bool → Operator → Operand → ComparisonForm
test name negated op right = comparison.Compare (own name) negated op right

abbrev is_blank : ConditionForm
is_blank = compare (codes "MESSAGE") false operator.Equal operands.Spaces

-- so much is told
abbrev tell : List ℕ → Statement
tell text = move (operands.Text text) (codes "MESSAGE")

abbrev if_one : ConditionForm → Statement → Statement
if_one cond one = form.If' 1 cond (tt ∷ []) (more_of-Statement one end_of-Statement) [] end_of-Statement

abbrev if_else : ConditionForm → Statement → Statement → Statement
if_else cond one other =
    form.If' 1 cond (tt ∷ []) (more_of-Statement one end_of-Statement) (tt ∷ []) (more_of-Statement other end_of-Statement)

abbrev perform : List ℕ → Statement
perform name = form.Perform 1 name

abbrev into : Operation → Operand → Operand → List ℕ → Statement
into op first second name = form.Arithmetic 1 (record { operation = op; first = first; second = second; giving = Some (own name) })

abbrev zero_all : Statement
zero_all =
    form.Move 1 (number (codes "0")) (own (codes "N-NUMBER") ∷ own (codes "GOODS") ∷ own (codes "DISCOUNT") ∷ own (codes "O-TOTAL") ∷ [])

abbrev next_line : Statement
next_line = form.Arithmetic 1 (add (number (codes "1")) (codes "I"))

abbrev has_status : List ℕ → ConditionForm
has_status status = compare (codes "TERMINATION-STATUS") false operator.Equal (number status)

-- ---- paragraphs

abbrev clerk_main : List Statement
clerk_main =
    form.DisplayBase 1 (codes "ORDER-FORM")
    ∷ form.PerformUntil 1 (codes "NEXT-REQUEST") (compare (codes "DONE") false operator.Equal (operands.Text (codes "Y")))
    ∷ form.StopRun 1
    ∷ []

-- behind an entry
abbrev pub next_taken : List Statement
next_taken =
    form.If' 1 (has_status (codes "3")) (tt ∷ []) (more_of-Statement (move (operands.Text (codes "Y")) (codes "DONE")) end_of-Statement) (tt ∷ tt ∷ tt ∷ [])
    (more_of-Statement (perform (codes "TAKE-REQUEST"))
    (more_of-Statement (form.Display 1 (own (codes "ORDER-FORM"))) (more_of-Statement (form.Display 1 (own (codes "MESSAGE"))) end_of-Statement)))
    ∷ []

abbrev next_request : List Statement
next_request = form.Accept 1 (codes "ORDER-FORM") (1 ∷ 2 ∷ 32 ∷ []) ∷ next_taken

abbrev take_request : List Statement
take_request =
    move operands.Spaces (codes "MESSAGE")
    ∷ zero_all
    ∷ form.PerformOneOf 1 (codes "TAKE-ORDER" ∷ codes "BOOK-DELIVERY" ∷ []) (own (codes "TERMINATION-STATUS"))
    ∷ []

-- behind the tests of an order's lines
abbrev pub order_checked : List Statement
order_checked = if_one is_blank (perform (codes "ENTER-ORDER")) ∷ []

-- until both lines are tested
abbrev pub all_checked : ConditionForm
all_checked = compare (codes "I") false operator.Greater (number (codes "2"))

-- behind the tests of the customer and of the pieces
abbrev pub lines_checked : List Statement
lines_checked =
    move (number (codes "1")) (codes "I")
    ∷ form.PerformUntil 1 (codes "CHECK-LINE") all_checked
    ∷ order_checked

abbrev take_order : List Statement
take_order =
    move (own (codes "TYPED")) (codes "O-LINES")
    ∷ if_one (compare (codes "O-CUSTOMER") false operator.Equal operands.Spaces) (tell (codes "WHO ORDERS?"))
    ∷ if_one
    (record { any = (test (codes "QTY-1") false operator.Equal (number (codes "0")) ∷ test (codes "QTY-2") false operator.Equal (number (codes "0")) ∷ []) ∷ [] })
    (tell (codes "HOW MANY PIECES?"))
    ∷ lines_checked

abbrev check_line : List Statement
check_line =
    move (by_line (codes "O-ITEM")) (codes "ITEM-NUMBER")
    ∷ if_one
    (record {
      any = (comparison.Compare (by_line (codes "O-QTY")) false operator.Greater (number (codes "0"))
          ∷ comparison.Numeric (own (codes "ITEM-DIGITS")) true ∷ []) ∷ [];
    })
    (tell (codes "AN ITEM IS A LETTER AND THREE DIGITS"))
    ∷ next_line
    ∷ []

-- behind the order was written, or refused
abbrev pub order_settled : List Statement
order_settled =
    form.If' 1 is_blank (tt ∷ tt ∷ []) (more_of-Statement (form.End 1) (more_of-Statement (tell (codes "ORDER IS ENTERED")) end_of-Statement)) (tt ∷ tt ∷ [])
    (more_of-Statement (form.Abort 1) (more_of-Statement zero_all end_of-Statement))
    ∷ []

-- behind the total
abbrev pub order_totalled : List Statement
order_totalled = if_one is_blank (perform (codes "WRITE-ORDER")) ∷ order_settled

-- behind the lines of an order
abbrev pub lines_taken : List Statement
lines_taken = if_one is_blank (perform (codes "ADD-UP")) ∷ order_totalled

-- until all lines are taken, or one is refused
abbrev pub all_taken : ConditionForm
all_taken =
    record {
      any = (test (codes "I") false operator.Greater (number (codes "2")) ∷ [])
          ∷ (test (codes "MESSAGE") true operator.Equal operands.Spaces ∷ []) ∷ [];
    }

-- behind the restarts were looked at
abbrev pub order_begun : List Statement
order_begun =
    move (number (codes "1")) (codes "I")
    ∷ form.PerformUntil 1 (codes "TAKE-LINE") all_taken
    ∷ lines_taken

abbrev enter_order : List Statement
enter_order =
    form.Begin 1
    ∷ if_one (compare (codes "RESTART-COUNTER") false operator.Greater (number (codes "0"))) (form.Display 1 (operands.Text (codes "TRYING THE ORDER AGAIN")))
    ∷ if_one (compare (codes "RESTART-COUNTER") false operator.Greater (number (codes "10"))) (tell (codes "THE STOCK IS TOO BUSY: TRY LATER"))
    ∷ order_begun

abbrev pub line_taken : List Statement
line_taken = next_line ∷ []

abbrev take_line : List Statement
take_line =
    if_one (record { any = (comparison.Compare (by_line (codes "O-QTY")) false operator.Greater (number (codes "0")) ∷ []) ∷ [] }) (perform (codes "TAKE-PIECES"))
    ∷ line_taken

-- the goods by a price
abbrev pub pieces_priced : List Statement
pieces_priced =
    into operation.Multiply (by_line (codes "O-QTY")) (own (codes "K-PRICE")) (codes "AMOUNT")
    ∷ form.OnSizeError' 1 (add (own (codes "AMOUNT")) (codes "GOODS")) (tt ∷ []) (more_of-Statement (tell (codes "ORDER IS TOO LARGE")) end_of-Statement) [] end_of-Statement
    ∷ []

abbrev pub pieces_taken : List Statement
pieces_taken = if_one (has_status (codes "3")) (perform (codes "NOT-ENOUGH")) ∷ pieces_priced

abbrev take_pieces : List Statement
take_pieces =
    move (by_line (codes "O-ITEM")) (codes "K-ITEM")
    ∷ into operation.Subtract (by_line (codes "O-QTY")) (number (codes "0")) (codes "K-CHANGE")
    ∷ perform (codes "CHANGE-STOCK")
    ∷ pieces_taken

abbrev pub code : ℕ → List ℕ → SendCode
code number name = record { number = number; yields = own name }

abbrev pub stock_codes : List SendCode
stock_codes =
    code 0 (codes "STOCK-REPLY") ∷ code 1 (codes "STOCK-REPLY") ∷ code 2 (codes "STOCK-REPLY") ∷ code 3 (codes "STOCK-REPLY") ∷ []

-- behind the reply of STOCK-P
abbrev pub stock_changed : List Statement
stock_changed =
    if_one (has_status (codes "2")) (tell (codes "NO SUCH ITEM"))
    ∷ if_one (has_status (codes "4")) (tell (codes "STOCK RECORD IS DAMAGED: CALL THE STORE"))
    ∷ []

abbrev change_stock : List Statement
change_stock = form.Send 1 (own (codes "STOCK-MSG")) (codes "STOCK-SRV") stock_codes ∷ stock_changed

abbrev not_enough : List Statement
not_enough =
    if_else (compare (codes "RESTART-COUNTER") false operator.Less (number (codes "2"))) (form.Restart 1) (tell (codes "NOT ENOUGH IN STOCK")) ∷ []

-- behind the discount
abbrev pub goods_totalled : List Statement
goods_totalled = into operation.Add (own (codes "DISCOUNT")) (own (codes "GOODS")) (codes "O-TOTAL") ∷ []

abbrev add_up : List Statement
add_up =
    if_one (compare (codes "GOODS") false operator.GreaterEqual (number (codes "500")))
    (into operation.Multiply (number (codes "-0.025")) (own (codes "GOODS")) (codes "DISCOUNT"))
    ∷ goods_totalled

abbrev pub order_codes : List SendCode
order_codes = code 0 (codes "ORDER-REPLY") ∷ code 1 (codes "ORDER-REPLY") ∷ []

-- behind the reply of ORDER-P
abbrev pub order_answered : List Statement
order_answered = if_one (has_status (codes "2")) (tell (codes "NO NUMBER FOR THE ORDER")) ∷ []

abbrev write_order : List Statement
write_order = form.Send 1 (own (codes "ORDER-MSG")) (codes "ORDER-SRV") order_codes ∷ order_answered

abbrev pub store_full : Statement
store_full = if_one (has_status (codes "3")) (tell (codes "THE STORE IS FULL"))

-- behind a delivery
abbrev pub delivery_done : List Statement
delivery_done = if_one is_blank (tell (codes "DELIVERY IS BOOKED")) ∷ []

abbrev book_delivery : List Statement
book_delivery =
    move (own (codes "ITEM-1")) (codes "K-ITEM")
    ∷ move (own (codes "QTY-1")) (codes "K-CHANGE")
    ∷ form.If' 1 (compare (codes "QTY-1") false operator.Equal (number (codes "0"))) (tt ∷ []) (more_of-Statement (tell (codes "HOW MANY PIECES?")) end_of-Statement)
    (tt ∷ tt ∷ [])
    (more_of-Statement (perform (codes "CHANGE-STOCK")) (more_of-Statement store_full end_of-Statement))
    ∷ delivery_done

abbrev pub clerk_program : List ScreenTable → Program
clerk_program screens = record {
  name = codes "ORDERS";
  layout = record { items = clerk_items; storage = clerk_storage };
  screens = screens;
  parameters = [];
  paragraphs = paragraph (codes "MAIN") clerk_main
      ∷ paragraph (codes "NEXT-REQUEST") next_request
      ∷ paragraph (codes "TAKE-REQUEST") take_request
      ∷ paragraph (codes "TAKE-ORDER") take_order
      ∷ paragraph (codes "CHECK-LINE") check_line
      ∷ paragraph (codes "ENTER-ORDER") enter_order
      ∷ paragraph (codes "TAKE-LINE") take_line
      ∷ paragraph (codes "TAKE-PIECES") take_pieces
      ∷ paragraph (codes "CHANGE-STOCK") change_stock
      ∷ paragraph (codes "NOT-ENOUGH") not_enough
      ∷ paragraph (codes "ADD-UP") add_up
      ∷ paragraph (codes "WRITE-ORDER") write_order
      ∷ paragraph (codes "BOOK-DELIVERY") book_delivery
      ∷ [];
}
