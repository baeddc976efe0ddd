-- The programs of the servers as they are read.
use Rattle.std.proofs.Common.{ℕ, Bool, true, false, List, [], ◌∷◌, ◌++◌, Option, Some, None}
use mathlib.Core.Former.{none_left, one_more}
use Rattle.std.specs.Prelude.{codes}
use Rattle.pw_data.specs.declared.item.Item.{Item}
use Rattle.pw_data.specs.declared.item.ItemKind.{ItemKind}
use Rattle.pw_data.specs.declared.item.ItemKind.TheVariants as kind
use Rattle.pw_forms.specs.declared.cond.ComparisonForm.{ComparisonForm}
use Rattle.pw_forms.specs.declared.cond.ComparisonForm.TheVariants as comparison
use Rattle.pw_forms.specs.declared.cond.ConditionForm.{ConditionForm}
use Rattle.pw_forms.specs.declared.cond.Operator.{Operator}
use Rattle.pw_forms.specs.declared.cond.Operator.TheVariants as operator
use Rattle.pw_forms.specs.declared.operand.Operand.{Operand}
use Rattle.pw_forms.specs.declared.operand.Operand.TheVariants as operands
use Rattle.pw_forms.specs.declared.operand.Subscript.TheVariants as subscripts
use Rattle.pw_forms.specs.declared.statement.ArithmeticForm as arithmetic
use Rattle.pw_forms.specs.declared.statement.Operation.TheVariants as operation
use Rattle.pw_forms.specs.declared.statement.Paragraph.{Paragraph}
use Rattle.pw_forms.specs.declared.statement.Statement.{Statement}
use Rattle.pw_forms.specs.declared.statement.Statement as form
use Rattle.pw_forms.specs.declared.statement.Statement.{Row_of-Statement, end_of-Statement, more_of-Statement}
use Rattle.pw_tree_meaning.specs.Program.{Program}

-- ---- items: of a table, with how often it occurs, and how far one begins behind the other

abbrev table_item : Option (List ℕ) → ℕ → Option ItemKind → ℕ → ℕ → ℕ → ℕ → Item
table_item name level k at size occurs step = record { name = name; level = level; linked = false; kind = k; at = at; size = size; occurs = occurs; step = step }

abbrev elementary : ℕ → List ℕ → ItemKind → ℕ → ℕ → Item
elementary level name k at size = table_item (Some name) level (Some k) at size 0 0

abbrev group : ℕ → List ℕ → ℕ → ℕ → Item
group level name at size = table_item (Some name) level None at size 0 0

abbrev sale_items : List Item
sale_items =
    group 1 (codes "SALE-REC") 0 25
    ∷ elementary 2 (codes "S-NAME") (kind.Text 6) 0 6
    ∷ elementary 2 (codes "S-LEG") (kind.Number 1 0 false) 6 1
    ∷ elementary 2 (codes "S-LEGS") (kind.Number 1 0 false) 7 1
    ∷ elementary 2 (codes "S-FLIGHT") (kind.Text 4) 8 4
    ∷ elementary 2 (codes "S-WANTED") (kind.Number 1 0 false) 12 1
    ∷ group 2 (codes "S-LIST") 13 12
    ∷ table_item (Some (codes "S-SEAT")) 3 None 13 3 4 3
    ∷ table_item (Some (codes "S-ROW")) 4 (Some (kind.Text 2)) 13 2 4 3
    ∷ table_item (Some (codes "S-LETTER")) 4 (Some (kind.Text 1)) 15 1 4 3
    ∷ group 1 (codes "SEAT-ROW") 25 42
    ∷ group 2 (codes "R-KEY") 25 6
    ∷ elementary 3 (codes "R-FLIGHT") (kind.Text 4) 25 4
    ∷ elementary 3 (codes "R-NUMBER") (kind.Text 2) 29 2
    ∷ table_item (Some (codes "R-SEAT")) 2 None 31 9 4 9
    ∷ table_item None 3 (Some (kind.Text 1)) 31 1 4 9
    ∷ table_item (Some (codes "R-LETTER")) 3 (Some (kind.Text 1)) 32 1 4 9
    ∷ table_item None 3 (Some (kind.Text 1)) 33 1 4 9
    ∷ table_item (Some (codes "R-HOLDER")) 3 (Some (kind.Text 6)) 34 6 4 9
    ∷ elementary 1 (codes "GOT") (kind.Number 1 0 false) 67 1
    ∷ elementary 1 (codes "I") (kind.Number 1 0 false) 68 1
    ∷ group 1 (codes "ANSWER") 69 25
    ∷ elementary 2 (codes "A-CODE") (kind.Number 4 0 false) 69 4
    ∷ elementary 2 (codes "A-FLIGHT") (kind.Text 5) 73 5
    ∷ elementary 2 (codes "A-TEXT") (kind.Text 16) 78 16
    ∷ []

abbrev sale_storage : List ℕ
sale_storage =
    codes "      00    0            " ++ codes "                                          " ++ codes "00" ++ codes "0000                     "

abbrev map_items : List Item
map_items =
    elementary 1 (codes "FLIGHT") (kind.Text 4) 0 4
    ∷ group 1 (codes "SEAT-ROW") 4 42
    ∷ group 2 (codes "R-KEY") 4 6
    ∷ elementary 3 (codes "R-FLIGHT") (kind.Text 4) 4 4
    ∷ elementary 3 (codes "R-NUMBER") (kind.Text 2) 8 2
    ∷ elementary 2 (codes "R-SEATS") (kind.Text 36) 10 36
    ∷ elementary 1 (codes "N") (kind.Number 1 0 false) 46 1
    ∷ group 1 (codes "MAP-REPLY") 47 118
    ∷ elementary 2 (codes "M-CODE") (kind.Number 4 0 false) 47 4
    ∷ table_item (Some (codes "M-ROW")) 2 None 51 38 3 38
    ∷ table_item (Some (codes "M-NUMBER")) 3 (Some (kind.Text 2)) 51 2 3 38
    ∷ table_item (Some (codes "M-SEATS")) 3 (Some (kind.Text 36)) 53 36 3 38
    ∷ []

abbrev map_storage : List ℕ
map_storage =
    codes "    " ++ codes "                                          " ++ codes "0" ++ codes "0000"
    ++ codes "                                      " ++ codes "                                      " ++ codes "                                      "

-- ---- statements, all of line 1

abbrev pub own : List ℕ → Operand
own name = operands.Item name None

abbrev pub of_table : List ℕ → List ℕ → Operand
of_table name index = operands.Item name (Some (subscripts.Item index))

abbrev pub move : Operand → Operand → Statement
move from to = form.Move 1 from (to ∷ [])

abbrev pub one_to : List ℕ → arithmetic.ArithmeticForm
one_to name = record { operation = operation.Add; first = operands.Number (codes "1"); second = own name; giving = None }

abbrev pub add_one : List ℕ → Statement
add_one name = form.Arithmetic 1 (one_to name)

abbrev pub compare : Operand → Bool → Operator → Operand → ComparisonForm
compare left negated op right = comparison.Compare left negated op right

abbrev pub one_of : List (List ComparisonForm) → ConditionForm
one_of any = record { any = any }

abbrev pub is_found : Operand → ConditionForm
is_found flight =
    one_of ((compare (own (codes "FILE-STATUS")) false operator.Equal (operands.Number (codes "0")) ∷ compare (own (codes "R-FLIGHT")) false operator.Equal flight ∷ []) ∷ [])

abbrev pub is_done : Operand → ComparisonForm → ConditionForm
is_done flight full =
    one_of
    ((compare (own (codes "FILE-STATUS")) false operator.Equal (operands.Number (codes "1")) ∷ [])
    ∷ (compare (own (codes "R-FLIGHT")) true operator.Equal flight ∷ [])
    ∷ (full ∷ []) ∷ [])

abbrev paragraph : List ℕ → List Statement → Paragraph
paragraph name body = record { name = name; line = 1; body = body }

-- ---- SALE-P

abbrev pub all_got : ComparisonForm
all_got = compare (own (codes "GOT")) false operator.Equal (own (codes "S-WANTED"))

abbrev pub too_few : Row_of-Statement (one_more (one_more none_left))
too_few =
    more_of-Statement (move (operands.Number (codes "1")) (own (codes "A-CODE")))
    (more_of-Statement (move (operands.Text (codes "NOT ENOUGH SEATS")) (own (codes "A-TEXT"))) end_of-Statement)

abbrev pub sale_main : List Statement
sale_main =
    form.Receive 1 (own (codes "SALE-REC"))
    ∷ form.Move 1 (own (codes "S-FLIGHT")) (own (codes "R-FLIGHT") ∷ own (codes "A-FLIGHT") ∷ [])
    ∷ form.PerformUntil 1 (codes "NEXT-ROW") (is_done (own (codes "S-FLIGHT")) all_got)
    ∷ form.If' 1 (one_of ((all_got ∷ []) ∷ [])) (tt ∷ [])
    (more_of-Statement (form.Perform 1 (codes "WRITE-SALE")) end_of-Statement) (tt ∷ tt ∷ []) too_few
    ∷ form.Reply 1 (own (codes "ANSWER"))
    ∷ []

abbrev pub past_four : ConditionForm
past_four = one_of ((compare (own (codes "I")) false operator.Greater (operands.Number (codes "4")) ∷ []) ∷ [])

-- what is done with a row of the flight
abbrev pub row_write : Row_of-Statement (one_more none_left)
row_write = more_of-Statement (form.Rewrite 1 (codes "SEATS") (own (codes "SEAT-ROW"))) end_of-Statement

abbrev pub row_try : Row_of-Statement (one_more (one_more none_left))
row_try = more_of-Statement (form.PerformUntil 1 (codes "TRY-SEAT") past_four) row_write

abbrev pub row_found : Row_of-Statement (one_more (one_more (one_more none_left)))
row_found = more_of-Statement (move (operands.Number (codes "1")) (own (codes "I"))) row_try

abbrev pub next_row : List Statement
next_row =
    form.ReadNext 1 (codes "SEATS") true (own (codes "R-KEY")) (own (codes "SEAT-ROW"))
    ∷ form.If' 1 (is_found (own (codes "S-FLIGHT"))) (tt ∷ tt ∷ tt ∷ []) row_found []
    end_of-Statement
    ∷ []

abbrev pub is_free : ConditionForm
is_free =
    one_of ((compare (of_table (codes "R-HOLDER") (codes "I")) false operator.Equal (operands.Text (codes "......")) ∷ compare (own (codes "GOT")) false operator.Less (own (codes "S-WANTED")) ∷ []) ∷ [])

abbrev pub try_seat : List Statement
try_seat =
    form.If' 1
    is_free (tt ∷ []) (more_of-Statement (form.Perform 1 (codes "TAKE-SEAT")) end_of-Statement) []
    end_of-Statement
    ∷ add_one (codes "I")
    ∷ []

abbrev pub take_seat : List Statement
take_seat =
    add_one (codes "GOT")
    ∷ move (own (codes "S-NAME")) (of_table (codes "R-HOLDER") (codes "I"))
    ∷ move (own (codes "R-NUMBER")) (of_table (codes "S-ROW") (codes "GOT"))
    ∷ move (of_table (codes "R-LETTER") (codes "I")) (of_table (codes "S-LETTER") (codes "GOT"))
    ∷ []

abbrev pub is_refused : ConditionForm
is_refused = one_of ((compare (own (codes "FILE-STATUS")) true operator.Equal (operands.Number (codes "0")) ∷ []) ∷ [])

abbrev pub has_sale : Row_of-Statement (one_more (one_more none_left))
has_sale =
    more_of-Statement (move (operands.Number (codes "1")) (own (codes "A-CODE")))
    (more_of-Statement (move (operands.Text (codes "NAME HAS A SALE")) (own (codes "A-TEXT"))) end_of-Statement)

abbrev pub tells_seats : Row_of-Statement (one_more none_left)
tells_seats = more_of-Statement (move (own (codes "S-LIST")) (own (codes "A-TEXT"))) end_of-Statement

abbrev pub write_sale : List Statement
write_sale =
    form.Write 1 (codes "SALES") (own (codes "SALE-REC"))
    ∷ form.If' 1 is_refused (tt ∷ tt ∷ []) has_sale (tt ∷ []) tells_seats
    ∷ []

abbrev pub sale_program : Program
sale_program = record {
  name = codes "SALE-P";
  layout = record { items = sale_items; storage = sale_storage };
  screens = [];
  parameters = [];
  paragraphs =
      paragraph (codes "MAIN") sale_main
      ∷ paragraph (codes "NEXT-ROW") next_row
      ∷ paragraph (codes "TRY-SEAT") try_seat
      ∷ paragraph (codes "TAKE-SEAT") take_seat
      ∷ paragraph (codes "WRITE-SALE") write_sale
      ∷ [];
}

-- ---- MAP-P

abbrev pub map_full : ComparisonForm
map_full = compare (own (codes "N")) false operator.Equal (operands.Number (codes "3"))

abbrev pub map_none : ConditionForm
map_none = one_of ((compare (own (codes "N")) false operator.Equal (operands.Number (codes "0")) ∷ []) ∷ [])

abbrev pub map_missing : Row_of-Statement (one_more none_left)
map_missing = more_of-Statement (move (operands.Number (codes "1")) (own (codes "M-CODE"))) end_of-Statement

abbrev pub map_main : List Statement
map_main =
    form.Receive 1 (own (codes "FLIGHT"))
    ∷ move (own (codes "FLIGHT")) (own (codes "R-FLIGHT"))
    ∷ form.PerformUntil 1 (codes "NEXT-ROW") (is_done (own (codes "FLIGHT")) map_full)
    ∷ form.If' 1 map_none (tt ∷ []) map_missing []
    end_of-Statement
    ∷ form.Reply 1 (own (codes "MAP-REPLY"))
    ∷ []

abbrev pub map_found : Row_of-Statement (one_more (one_more (one_more none_left)))
map_found =
    more_of-Statement (add_one (codes "N"))
    (more_of-Statement (move (own (codes "R-NUMBER")) (of_table (codes "M-NUMBER") (codes "N")))
    (more_of-Statement (move (own (codes "R-SEATS")) (of_table (codes "M-SEATS") (codes "N"))) end_of-Statement))

abbrev pub map_row : List Statement
map_row =
    form.ReadNext 1 (codes "SEATS") false (own (codes "R-KEY")) (own (codes "SEAT-ROW"))
    ∷ form.If' 1 (is_found (own (codes "FLIGHT"))) (tt ∷ tt ∷ tt ∷ []) map_found []
    end_of-Statement
    ∷ []

abbrev pub map_program : Program
map_program = record {
  name = codes "MAP-P";
  layout = record { items = map_items; storage = map_storage };
  screens = [];
  parameters = [];
  paragraphs = paragraph (codes "MAIN") map_main ∷ paragraph (codes "NEXT-ROW") map_row ∷ [];
}
