-- Procedures that were read by hand from the rules.
use Rattle.std.proofs.Common.{◌≡◌, ℕ, List, [], ◌∷◌, Bool, true, false, Some, None, Result, Ok, Err, codes, refl}
use Rattle.pw_base.specs.declared.fault.Fault.{Fault}
use Rattle.pw_base.specs.declared.fault_code.FaultCode.{FaultCode}
use Rattle.pw_base.specs.declared.fault_code.FaultCode.TheVariants.{NameTwice, NoSuchForm, NoIf, ParagraphTwice, NotForServers}
use Rattle.pw_words.specs.Words.{Word}
use Rattle.pw_text.specs.Items.{quoted, number_or_mark, line_item, item_at}
use Rattle.pw_text.specs.Tokens.{items_from, items_of, tokens_in}
use Rattle.pw_forms.specs.declared.operand.Operand.{Operand}
use Rattle.pw_forms.specs.declared.operand.Operand.TheVariants as operands
use Rattle.pw_forms.specs.declared.operand.Subscript.TheVariants as subscripts
use Rattle.pw_forms.specs.declared.cond.Operator.TheVariants as operators
use Rattle.pw_forms.specs.declared.cond.ComparisonForm.TheVariants as comparisons
use Rattle.pw_forms.specs.declared.cond.ConditionForm.{ConditionForm}
use Rattle.pw_forms.specs.declared.statement.Statement.{Statement}
use Rattle.pw_forms.specs.declared.statement.Statement.TheVariants as statements
use Rattle.pw_forms.specs.declared.statement.Procedure.{Procedure}
use Rattle.pw_forms.specs.Words.{table_place}
use Rattle.pw_forms.specs.Readers.{sees, sees_third, form_rest_behind, past, past_kind, token, expects, sees_kind, is_done, ends, left, some_from, up_to_from, separated_from}
use Rattle.pw_forms.specs.Operands.{subscript_behind, item, figurative, operand, name, file_name, program_name, key_of, key, code}
use Rattle.pw_forms.specs.Conditions.{word_operator, operator, compared, comparison, all, condition}
use Rattle.pw_forms.specs.FileForms.{with_lock, receive, read_file, read_next, sees_next, read, reply, write_file, write, rewrite, delete, file_form}
use Rattle.pw_forms.specs.Forms.{at_most, move_form, giving, on_size_error, arithmetic, if_form, perform_until, perform_times, perform_one, perform_one_of, perform, exit, stop, display_base, display_any, display, accept, using, call, code_clause, send, transaction_form, form}
use Rattle.pw_forms.specs.Pieces.{cut, placed, placed_all}
use Rattle.pw_forms.specs.Faults.{faults_from}
use Rattle.pw_forms.specs.Tree.{levels}
use Rattle.pw_forms.specs.Procedures.{procedure_of}

-- the procedure of a text whose first line is 1
abbrev read_text : Bool → List ℕ → Result Procedure Fault
read_text server text = procedure_of server text (tokens_in (items_of text 1))

abbrev refused : ℕ → FaultCode → Result Procedure Fault
refused line code = Err (record { line = line; code = code })

-- a procedure of one paragraph
abbrev alone : Word → List Statement → Result Procedure Fault
alone name body = Ok (record { paragraphs = (record { name = name; line = 1; body = body }) ∷ [] })

abbrev item_of : Word → Operand
item_of name = operands.Item name None

-- the condition that one item is numeric
abbrev one_test : Word → ConditionForm
one_test name = record { any = ((comparisons.Numeric (item_of name) false) ∷ []) ∷ [] }

-- a subscript, and names in upper case
a_move : read_text false (codes "Main. move 5 to a (i) B.")
    ≡ alone (codes "MAIN") ((statements.Move 1 (operands.Number (codes "5")) ((operands.Item (codes "A") (Some (subscripts.Item (codes "I")))) ∷ item_of (codes "B") ∷ [])) ∷ [])
unfolding items_from item_at line_item number_or_mark quoted table_place sees sees_third form_rest_behind past token expects sees_kind past_kind is_done ends left some_from up_to_from separated_from subscript_behind item figurative operand name file_name program_name key_of key code word_operator operator compared comparison all condition with_lock receive read_file read_next sees_next read reply write_file write rewrite delete file_form at_most move_form giving on_size_error arithmetic if_form perform_until perform_times perform_one perform_one_of perform exit stop display_base display_any display accept using call code_clause send transaction_form form cut placed placed_all faults_from levels
a_move = refl

-- the text may be empty
no_text : read_text false (codes "")
    ≡ Ok (record { paragraphs = [] })
unfolding items_from item_at line_item number_or_mark quoted table_place sees sees_third form_rest_behind past token expects sees_kind past_kind is_done ends left some_from up_to_from separated_from subscript_behind item figurative operand name file_name program_name key_of key code word_operator operator compared comparison all condition with_lock receive read_file read_next sees_next read reply write_file write rewrite delete file_form at_most move_form giving on_size_error arithmetic if_form perform_until perform_times perform_one perform_one_of perform exit stop display_base display_any display accept using call code_clause send transaction_form form cut placed placed_all faults_from levels
no_text = refl

-- several periods are no fault, and a paragraph may have no statement
two_paragraphs : read_text false (codes "A. . EXIT.. B.")
    ≡ Ok (record { paragraphs = (record { name = codes "A"; line = 1; body = (statements.Exit 1) ∷ [] }) ∷ (record { name = codes "B"; line = 1; body = [] }) ∷ [] })
unfolding items_from item_at line_item number_or_mark quoted table_place sees sees_third form_rest_behind past token expects sees_kind past_kind is_done ends left some_from up_to_from separated_from subscript_behind item figurative operand name file_name program_name key_of key code word_operator operator compared comparison all condition with_lock receive read_file read_next sees_next read reply write_file write rewrite delete file_form at_most move_form giving on_size_error arithmetic if_form perform_until perform_times perform_one perform_one_of perform exit stop display_base display_any display accept using call code_clause send transaction_form form cut placed placed_all faults_from levels
two_paragraphs = refl

-- ELSE turns the innermost IF without one, and the period closes all
both_branches : read_text false (codes "A. IF B NUMERIC IF C NUMERIC EXIT ELSE STOP RUN ELSE EXIT PROGRAM. EXIT.")
    ≡ alone (codes "A") ((statements.If 1 (one_test (codes "B")) ((statements.If 1 (one_test (codes "C")) ((statements.Exit 1) ∷ []) ((statements.StopRun 1) ∷ [])) ∷ []) ((statements.ExitProgram 1) ∷ [])) ∷ (statements.Exit 1) ∷ [])
unfolding items_from item_at line_item number_or_mark quoted table_place sees sees_third form_rest_behind past token expects sees_kind past_kind is_done ends left some_from up_to_from separated_from subscript_behind item figurative operand name file_name program_name key_of key code word_operator operator compared comparison all condition with_lock receive read_file read_next sees_next read reply write_file write rewrite delete file_form at_most move_form giving on_size_error arithmetic if_form perform_until perform_times perform_one perform_one_of perform exit stop display_base display_any display accept using call code_clause send transaction_form form cut placed placed_all faults_from levels
both_branches = refl

-- END-IF closes the innermost branch
end_if : read_text false (codes "A. IF B NUMERIC IF C NUMERIC END-IF EXIT.")
    ≡ alone (codes "A") ((statements.If 1 (one_test (codes "B")) ((statements.If 1 (one_test (codes "C")) [] []) ∷ (statements.Exit 1) ∷ []) []) ∷ [])
unfolding items_from item_at line_item number_or_mark quoted table_place sees sees_third form_rest_behind past token expects sees_kind past_kind is_done ends left some_from up_to_from separated_from subscript_behind item figurative operand name file_name program_name key_of key code word_operator operator compared comparison all condition with_lock receive read_file read_next sees_next read reply write_file write rewrite delete file_form at_most move_form giving on_size_error arithmetic if_form perform_until perform_times perform_one perform_one_of perform exit stop display_base display_any display accept using call code_clause send transaction_form form cut placed placed_all faults_from levels
end_if = refl

-- AND goes before OR
and_first : read_text false (codes "A. PERFORM A UNTIL B IS NOT LESS THAN 1 OR C = D AND E NUMERIC.")
    ≡ alone (codes "A") ((statements.PerformUntil 1 (codes "A") (record { any = ((comparisons.Compare (item_of (codes "B")) true operators.Less (operands.Number (codes "1"))) ∷ []) ∷ ((comparisons.Compare (item_of (codes "C")) false operators.Equal (item_of (codes "D"))) ∷ (comparisons.Numeric (item_of (codes "E")) false) ∷ []) ∷ [] })) ∷ [])
unfolding items_from item_at line_item number_or_mark quoted table_place sees sees_third form_rest_behind past token expects sees_kind past_kind is_done ends left some_from up_to_from separated_from subscript_behind item figurative operand name file_name program_name key_of key code word_operator operator compared comparison all condition with_lock receive read_file read_next sees_next read reply write_file write rewrite delete file_form at_most move_form giving on_size_error arithmetic if_form perform_until perform_times perform_one perform_one_of perform exit stop display_base display_any display accept using call code_clause send transaction_form form cut placed placed_all faults_from levels
and_first = refl

-- a statement may not begin the text
no_paragraph : read_text false (codes "EXIT.")
    ≡ refused 1 NoSuchForm
unfolding items_from item_at line_item number_or_mark quoted table_place sees sees_third form_rest_behind past token expects sees_kind past_kind is_done ends left some_from up_to_from separated_from subscript_behind item figurative operand name file_name program_name key_of key code word_operator operator compared comparison all condition with_lock receive read_file read_next sees_next read reply write_file write rewrite delete file_form at_most move_form giving on_size_error arithmetic if_form perform_until perform_times perform_one perform_one_of perform exit stop display_base display_any display accept using call code_clause send transaction_form form cut placed placed_all faults_from levels
no_paragraph = refl

-- a literal has no place behind another
no_such_form : read_text false (codes "A. DISPLAY \"B\" \"C\".")
    ≡ refused 1 NoSuchForm
unfolding items_from item_at line_item number_or_mark quoted table_place sees sees_third form_rest_behind past token expects sees_kind past_kind is_done ends left some_from up_to_from separated_from subscript_behind item figurative operand name file_name program_name key_of key code word_operator operator compared comparison all condition with_lock receive read_file read_next sees_next read reply write_file write rewrite delete file_form at_most move_form giving on_size_error arithmetic if_form perform_until perform_times perform_one perform_one_of perform exit stop display_base display_any display accept using call code_clause send transaction_form form cut placed placed_all faults_from levels
no_such_form = refl

-- in a server it is 152 alone
barred : read_text true (codes "A. DISPLAY \"B\" \"C\".")
    ≡ refused 1 NotForServers
unfolding items_from item_at line_item number_or_mark quoted table_place sees sees_third form_rest_behind past token expects sees_kind past_kind is_done ends left some_from up_to_from separated_from subscript_behind item figurative operand name file_name program_name key_of key code word_operator operator compared comparison all condition with_lock receive read_file read_next sees_next read reply write_file write rewrite delete file_form at_most move_form giving on_size_error arithmetic if_form perform_until perform_times perform_one perform_one_of perform exit stop display_base display_any display accept using call code_clause send transaction_form form cut placed placed_all faults_from levels
barred = refl

-- an END-IF behind the period finds none
no_if : read_text false (codes "A. IF B NUMERIC EXIT. END-IF.")
    ≡ refused 1 NoIf
unfolding items_from item_at line_item number_or_mark quoted table_place sees sees_third form_rest_behind past token expects sees_kind past_kind is_done ends left some_from up_to_from separated_from subscript_behind item figurative operand name file_name program_name key_of key code word_operator operator compared comparison all condition with_lock receive read_file read_next sees_next read reply write_file write rewrite delete file_form at_most move_form giving on_size_error arithmetic if_form perform_until perform_times perform_one perform_one_of perform exit stop display_base display_any display accept using call code_clause send transaction_form form cut placed placed_all faults_from levels
no_if = refl

-- a paragraph stands twice
twice : read_text false (codes "A. B. a.")
    ≡ refused 1 ParagraphTwice
unfolding items_from item_at line_item number_or_mark quoted table_place sees sees_third form_rest_behind past token expects sees_kind past_kind is_done ends left some_from up_to_from separated_from subscript_behind item figurative operand name file_name program_name key_of key code word_operator operator compared comparison all condition with_lock receive read_file read_next sees_next read reply write_file write rewrite delete file_form at_most move_form giving on_size_error arithmetic if_form perform_until perform_times perform_one perform_one_of perform exit stop display_base display_any display accept using call code_clause send transaction_form form cut placed placed_all faults_from levels
twice = refl

-- a table word is no name of a paragraph
table_word : read_text false (codes "BASE.")
    ≡ refused 1 NameTwice
unfolding items_from item_at line_item number_or_mark quoted table_place sees sees_third form_rest_behind past token expects sees_kind past_kind is_done ends left some_from up_to_from separated_from subscript_behind item figurative operand name file_name program_name key_of key code word_operator operator compared comparison all condition with_lock receive read_file read_next sees_next read reply write_file write rewrite delete file_form at_most move_form giving on_size_error arithmetic if_form perform_until perform_times perform_one perform_one_of perform exit stop display_base display_any display accept using call code_clause send transaction_form form cut placed placed_all faults_from levels
table_word = refl

-- a file may have the name of a table word
file_next : read_text true (codes "A. READ NEXT KEY K INTO R.")
    ≡ alone (codes "A") ((statements.Read 1 (codes "NEXT") false (item_of (codes "K")) (item_of (codes "R"))) ∷ [])
unfolding items_from item_at line_item number_or_mark quoted table_place sees sees_third form_rest_behind past token expects sees_kind past_kind is_done ends left some_from up_to_from separated_from subscript_behind item figurative operand name file_name program_name key_of key code word_operator operator compared comparison all condition with_lock receive read_file read_next sees_next read reply write_file write rewrite delete file_form at_most move_form giving on_size_error arithmetic if_form perform_until perform_times perform_one perform_one_of perform exit stop display_base display_any display accept using call code_clause send transaction_form form cut placed placed_all faults_from levels
file_next = refl

-- and NEXT before a file reads the next record
next_record : read_text true (codes "A. READ NEXT KEY WITH LOCK AFTER K INTO R.")
    ≡ alone (codes "A") ((statements.ReadNext 1 (codes "KEY") true (item_of (codes "K")) (item_of (codes "R"))) ∷ [])
unfolding items_from item_at line_item number_or_mark quoted table_place sees sees_third form_rest_behind past token expects sees_kind past_kind is_done ends left some_from up_to_from separated_from subscript_behind item figurative operand name file_name program_name key_of key code word_operator operator compared comparison all condition with_lock receive read_file read_next sees_next read reply write_file write rewrite delete file_form at_most move_form giving on_size_error arithmetic if_form perform_until perform_times perform_one perform_one_of perform exit stop display_base display_any display accept using call code_clause send transaction_form form cut placed placed_all faults_from levels
next_record = refl
