-- The texts of the bank's programs are read as these programs.
use Rattle.std.proofs.Common.{◌≡◌, false, [], refl}
use denote.Hole.Carrier.{hidden}
use Rattle.pw_forms.specs.declared.statement.Statement.TheBlock.{hidden-the_row-Statement-0}
use Rattle.pw_text.specs.Items.{quoted, number_or_mark, line_item, without_period, item_at}
use Rattle.pw_text.specs.Tokens.{items_from}
use Rattle.pw_data.specs.Parts.{is_table_word, entry_size, parts_from}
use Rattle.pw_data.specs.Tree.{forest}
use Rattle.pw_data.specs.Clauses.{clauses_from}
use Rattle.pw_forms.specs.Words.{table_place}
use Rattle.pw_forms.specs.Readers.{sees, sees_third, form_rest_behind, past, past_kind, token, expects, sees_kind, is_done, ends, left, some_from, up_to_from, separated_from}
use Rattle.pw_forms.specs.Operands.{subscript_behind, item, figurative, operand, name, file_name, program_name, key_of, key, code}
use Rattle.pw_forms.specs.Conditions.{word_operator, operator, compared, comparison, all, condition}
use Rattle.pw_forms.specs.FileForms.{with_lock, receive, read_file, read_next, sees_next, read, reply, write_file, write, rewrite, delete, file_form}
use Rattle.pw_forms.specs.Forms.{at_most, move_form, giving, on_size_error, arithmetic, if_form, perform_until, perform_times, perform_one, perform_one_of, perform, exit, stop, display_base, display_any, display, accept, using, call, code_clause, send, transaction_form, form}
use Rattle.pw_forms.specs.Pieces.{cut, placed, placed_all}
use Rattle.pw_forms.specs.Faults.{faults_from}
use Rattle.pw_forms.specs.Tree.{levels}
use Rattle.pw_bank_laws.proofs.Trees.{account_program, total_program}
use Rattle.pw_bank_laws.proofs.Tellers.{teller_program}
use Rattle.pw_bank_laws.specs.Servers.{account_data, items_by, total_data}
use Rattle.pw_bank_laws.specs.Teller.{teller_data, teller_text}
use Rattle.pw_data.specs.Layouts.{layout_of}
use Rattle.pw_forms.specs.Procedures.{procedure_of}
use Rattle.pw_invariants.specs.Bank.{account_text, paragraphs_in, total_text}
use Rattle.pw_tree_meaning.specs.Samples.{laid_by, paragraphs_by, tokens_of_text}

pub account-items : items_by account_data ≡ account_program.layout
unfolding quoted number_or_mark line_item without_period item_at items_from is_table_word entry_size parts_from forest clauses_from
account-items = refl

pub total-items : items_by total_data ≡ total_program.layout
unfolding quoted number_or_mark line_item without_period item_at items_from is_table_word entry_size parts_from forest clauses_from
total-items = refl

pub account-paragraphs : paragraphs_in account_text ≡ account_program.paragraphs
unfolding hidden hidden-the_row-Statement-0 quoted number_or_mark line_item without_period item_at items_from table_place sees sees_third form_rest_behind past past_kind token expects sees_kind is_done ends left some_from up_to_from separated_from subscript_behind item figurative operand name file_name program_name key_of key code word_operator operator compared comparison all condition with_lock receive read_file read_next sees_next read reply write_file write rewrite delete file_form at_most move_form giving on_size_error arithmetic if_form perform_until perform_times perform_one perform_one_of perform exit stop display_base display_any display accept using call code_clause send transaction_form form cut placed placed_all faults_from levels
account-paragraphs = refl

pub total-paragraphs : paragraphs_in total_text ≡ total_program.paragraphs
unfolding hidden hidden-the_row-Statement-0 quoted number_or_mark line_item without_period item_at items_from table_place sees sees_third form_rest_behind past past_kind token expects sees_kind is_done ends left some_from up_to_from separated_from subscript_behind item figurative operand name file_name program_name key_of key code word_operator operator compared comparison all condition with_lock receive read_file read_next sees_next read reply write_file write rewrite delete file_form at_most move_form giving on_size_error arithmetic if_form perform_until perform_times perform_one perform_one_of perform exit stop display_base display_any display accept using call code_clause send transaction_form form cut placed placed_all faults_from levels
total-paragraphs = refl

pub teller-items : laid_by (layout_of teller_data (tokens_of_text teller_data) false) ≡ (teller_program []).layout
unfolding quoted number_or_mark line_item without_period item_at items_from is_table_word entry_size parts_from forest clauses_from
teller-items = refl

pub teller-paragraphs : paragraphs_by (procedure_of false teller_text (tokens_of_text teller_text)) ≡ (teller_program []).paragraphs
unfolding hidden hidden-the_row-Statement-0 quoted number_or_mark line_item without_period item_at items_from table_place sees sees_third form_rest_behind past past_kind token expects sees_kind is_done ends left some_from up_to_from separated_from subscript_behind item figurative operand name file_name program_name key_of key code word_operator operator compared comparison all condition with_lock receive read_file read_next sees_next read reply write_file write rewrite delete file_form at_most move_form giving on_size_error arithmetic if_form perform_until perform_times perform_one perform_one_of perform exit stop display_base display_any display accept using call code_clause send transaction_form form cut placed placed_all faults_from levels
teller-paragraphs = refl
