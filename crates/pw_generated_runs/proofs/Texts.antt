-- The trees of a generated deck are those of its texts, wherever these stand.
use Rattle.std.proofs.Common.{◌≡◌, ℕ, zero, suc, ◌+◌, [], ◌∷◌, drop, Ok, refl}
use Rattle.std.specs.Prelude.{codes}
use denote.Hole.Carrier.{hidden}
use Rattle.pw_forms.specs.declared.statement.Statement.TheBlock.{hidden-the_row-Statement-0}
use Rattle.std.specs.Fmt.{digits}
use Rattle.pw_text.specs.Bytes.{bad_bytes as text_bytes_bad_bytes}
use Rattle.pw_text.specs.Items.{quoted as text_items_quoted, number_or_mark as text_items_number_or_mark, line_item as text_items_line_item, without_period as text_items_without_period, item_at as text_items_item_at}
use Rattle.pw_text.specs.Tokens.{items_from as text_tokens_items_from}
use Rattle.pw_data.specs.Clauses.{clauses_from as data_clauses_clauses_from}
use Rattle.pw_data.specs.Parts.{is_table_word as data_parts_is_table_word, entry_size as data_parts_entry_size, parts_from as data_parts_parts_from}
use Rattle.pw_data.specs.Tree.{forest as data_tree_forest}
use Rattle.pw_forms.specs.Blocks.{nested as forms_blocks_nested}
use Rattle.pw_forms.specs.Conditions.{word_operator as forms_conditions_word_operator, operator as forms_conditions_operator, compared as forms_conditions_compared, comparison as forms_conditions_comparison, all as forms_conditions_all, condition as forms_conditions_condition}
use Rattle.pw_forms.specs.Faults.{faults_from as forms_faults_faults_from}
use Rattle.pw_forms.specs.FileForms.{with_lock as forms_fileforms_with_lock, receive as forms_fileforms_receive, read_file as forms_fileforms_read_file, read_next as forms_fileforms_read_next, sees_next as forms_fileforms_sees_next, read as forms_fileforms_read, reply as forms_fileforms_reply, write_file as forms_fileforms_write_file, write as forms_fileforms_write, rewrite as forms_fileforms_rewrite, delete as forms_fileforms_delete, file_form as forms_fileforms_file_form}
use Rattle.pw_forms.specs.Forms.{at_most as forms_forms_at_most, move_form as forms_forms_move_form, giving as forms_forms_giving, on_size_error as forms_forms_on_size_error, arithmetic as forms_forms_arithmetic, if_form as forms_forms_if_form, perform_until as forms_forms_perform_until, perform_times as forms_forms_perform_times, perform_one as forms_forms_perform_one, perform_one_of as forms_forms_perform_one_of, perform as forms_forms_perform, exit as forms_forms_exit, stop as forms_forms_stop, display_base as forms_forms_display_base, display_any as forms_forms_display_any, display as forms_forms_display, accept as forms_forms_accept, using as forms_forms_using, call as forms_forms_call, code_clause as forms_forms_code_clause, send as forms_forms_send, transaction_form as forms_forms_transaction_form, form as forms_forms_form}
use Rattle.pw_forms.specs.Operands.{subscript_behind as forms_operands_subscript_behind, item as forms_operands_item, figurative as forms_operands_figurative, operand as forms_operands_operand, name as forms_operands_name, file_name as forms_operands_file_name, program_name as forms_operands_program_name, key_of as forms_operands_key_of, key as forms_operands_key, code as forms_operands_code}
use Rattle.pw_forms.specs.Pieces.{cut as forms_pieces_cut, placed as forms_pieces_placed, placed_all as forms_pieces_placed_all}
use Rattle.pw_forms.specs.Readers.{sees as forms_readers_sees, sees_third as forms_readers_sees_third, form_rest_behind as forms_readers_behind, token as forms_readers_token, past as forms_readers_past, expects as forms_readers_expects, sees_kind as forms_readers_sees_kind, past_kind as forms_readers_past_kind, is_done as forms_readers_is_done, ends as forms_readers_ends, left as forms_readers_left, some_from as forms_readers_some_from, up_to_from as forms_readers_up_to_from, separated_from as forms_readers_separated_from}
use Rattle.pw_forms.specs.Tree.{levels as forms_tree_levels}
use Rattle.pw_forms.specs.Words.{table_place as forms_words_table_place}
use Rattle.pw_divisions.specs.Entries.{division_entries_of as divisions_entries_entries_of}
use Rattle.pw_divisions.specs.Steps.{size_up_to as divisions_steps_size_up_to}
use Rattle.pw_screen.specs.Clauses.{clauses_from as screen_clauses_clauses_from}
use Rattle.pw_screen.specs.Screens.{placed_from as screen_screens_placed_from}
use Rattle.pw_sections.specs.Lines.{lines as lines_lines_lines}
use Rattle.pw_sections.specs.Steps.{each_line as lines_steps_each_line}
use Rattle.pw_sections.specs.Words.{words as lines_words_words}
use Rattle.pw_gen.specs.Generated.{text_of}
use Rattle.pw_gen.specs.Parts.{requester, server, stock}
use Rattle.pw_generated_runs.specs.Counts.{stock_with}
use Rattle.pw_generated_runs.specs.Trees.{ask_screen, layout, requester_paragraphs, server_paragraphs}
use Rattle.pw_scobol.specs.Requesters.{requester_of}
use Rattle.pw_scobol.specs.declared.requester.Requester.{Requester}
use Rattle.pw_sections.specs.Records.{records_of_text}
use Rattle.pw_server.specs.Servers.{server_of}
use Rattle.pw_server.specs.declared.server.Server.{Server}

-- the line so many lines behind one
abbrev pub lines_behind : ℕ → ℕ → ℕ
lines_behind zero line = line
lines_behind (suc count) line = lines_behind count line + 1

-- the requester, whose text begins on a line
abbrev pub requester_at : ℕ → Requester
requester_at first = record {
  name = codes "KEYS";
  layout = layout;
  screens = ask_screen ∷ [];
  using = [];
  procedure = record { paragraphs = requester_paragraphs (λ i. lines_behind (i + 20) first) };
}

-- the server
abbrev pub server_at : ℕ → Server
server_at first = record {
  name = codes "STORE-P";
  layout = layout;
  procedure = record { paragraphs = server_paragraphs (λ i. lines_behind (i + 14) first) };
}

pub requester-is : (first : ℕ) → requester_of (codes "KEYS") (text_of (drop 1 requester)) first ≡ Ok (requester_at first)
unfolding hidden hidden-the_row-Statement-0 digits text_bytes_bad_bytes text_items_quoted text_items_number_or_mark text_items_line_item text_items_without_period text_items_item_at text_tokens_items_from data_clauses_clauses_from data_parts_is_table_word data_parts_entry_size data_parts_parts_from data_tree_forest forms_blocks_nested forms_conditions_word_operator forms_conditions_operator forms_conditions_compared forms_conditions_comparison forms_conditions_all forms_conditions_condition forms_faults_faults_from forms_fileforms_with_lock forms_fileforms_receive forms_fileforms_read_file forms_fileforms_read_next forms_fileforms_sees_next forms_fileforms_read forms_fileforms_reply forms_fileforms_write_file forms_fileforms_write forms_fileforms_rewrite forms_fileforms_delete forms_fileforms_file_form forms_forms_at_most forms_forms_move_form forms_forms_giving forms_forms_on_size_error forms_forms_arithmetic forms_forms_if_form forms_forms_perform_until forms_forms_perform_times forms_forms_perform_one forms_forms_perform_one_of forms_forms_perform forms_forms_exit forms_forms_stop forms_forms_display_base forms_forms_display_any forms_forms_display forms_forms_accept forms_forms_using forms_forms_call forms_forms_code_clause forms_forms_send forms_forms_transaction_form forms_forms_form forms_operands_subscript_behind forms_operands_item forms_operands_figurative forms_operands_operand forms_operands_name forms_operands_file_name forms_operands_program_name forms_operands_key_of forms_operands_key forms_operands_code forms_pieces_cut forms_pieces_placed forms_pieces_placed_all forms_readers_sees forms_readers_sees_third forms_readers_behind forms_readers_token forms_readers_past forms_readers_expects forms_readers_sees_kind forms_readers_past_kind forms_readers_is_done forms_readers_ends forms_readers_left forms_readers_some_from forms_readers_up_to_from forms_readers_separated_from forms_tree_levels forms_words_table_place divisions_entries_entries_of divisions_steps_size_up_to screen_clauses_clauses_from screen_screens_placed_from lines_lines_lines lines_steps_each_line lines_words_words
requester-is first = refl

pub server-is : (first : ℕ) → server_of (codes "STORE-P") (text_of (drop 1 server)) first ≡ Ok (server_at first)
unfolding hidden hidden-the_row-Statement-0 digits text_bytes_bad_bytes text_items_quoted text_items_number_or_mark text_items_line_item text_items_without_period text_items_item_at text_tokens_items_from data_clauses_clauses_from data_parts_is_table_word data_parts_entry_size data_parts_parts_from data_tree_forest forms_blocks_nested forms_conditions_word_operator forms_conditions_operator forms_conditions_compared forms_conditions_comparison forms_conditions_all forms_conditions_condition forms_faults_faults_from forms_fileforms_with_lock forms_fileforms_receive forms_fileforms_read_file forms_fileforms_read_next forms_fileforms_sees_next forms_fileforms_read forms_fileforms_reply forms_fileforms_write_file forms_fileforms_write forms_fileforms_rewrite forms_fileforms_delete forms_fileforms_file_form forms_forms_at_most forms_forms_move_form forms_forms_giving forms_forms_on_size_error forms_forms_arithmetic forms_forms_if_form forms_forms_perform_until forms_forms_perform_times forms_forms_perform_one forms_forms_perform_one_of forms_forms_perform forms_forms_exit forms_forms_stop forms_forms_display_base forms_forms_display_any forms_forms_display forms_forms_accept forms_forms_using forms_forms_call forms_forms_code_clause forms_forms_send forms_forms_transaction_form forms_forms_form forms_operands_subscript_behind forms_operands_item forms_operands_figurative forms_operands_operand forms_operands_name forms_operands_file_name forms_operands_program_name forms_operands_key_of forms_operands_key forms_operands_code forms_pieces_cut forms_pieces_placed forms_pieces_placed_all forms_readers_sees forms_readers_sees_third forms_readers_behind forms_readers_token forms_readers_past forms_readers_expects forms_readers_sees_kind forms_readers_past_kind forms_readers_is_done forms_readers_ends forms_readers_left forms_readers_some_from forms_readers_up_to_from forms_readers_separated_from forms_tree_levels forms_words_table_place divisions_entries_entries_of divisions_steps_size_up_to screen_clauses_clauses_from screen_screens_placed_from lines_lines_lines lines_steps_each_line lines_words_words
server-is first = refl

-- the records of the file
pub stock-is : (first : ℕ) → records_of_text 2 (text_of (drop 1 stock)) first ≡ Ok (stock_with (λ d. 0))
unfolding hidden hidden-the_row-Statement-0 digits text_bytes_bad_bytes text_items_quoted text_items_number_or_mark text_items_line_item text_items_without_period text_items_item_at text_tokens_items_from data_clauses_clauses_from data_parts_is_table_word data_parts_entry_size data_parts_parts_from data_tree_forest forms_blocks_nested forms_conditions_word_operator forms_conditions_operator forms_conditions_compared forms_conditions_comparison forms_conditions_all forms_conditions_condition forms_faults_faults_from forms_fileforms_with_lock forms_fileforms_receive forms_fileforms_read_file forms_fileforms_read_next forms_fileforms_sees_next forms_fileforms_read forms_fileforms_reply forms_fileforms_write_file forms_fileforms_write forms_fileforms_rewrite forms_fileforms_delete forms_fileforms_file_form forms_forms_at_most forms_forms_move_form forms_forms_giving forms_forms_on_size_error forms_forms_arithmetic forms_forms_if_form forms_forms_perform_until forms_forms_perform_times forms_forms_perform_one forms_forms_perform_one_of forms_forms_perform forms_forms_exit forms_forms_stop forms_forms_display_base forms_forms_display_any forms_forms_display forms_forms_accept forms_forms_using forms_forms_call forms_forms_code_clause forms_forms_send forms_forms_transaction_form forms_forms_form forms_operands_subscript_behind forms_operands_item forms_operands_figurative forms_operands_operand forms_operands_name forms_operands_file_name forms_operands_program_name forms_operands_key_of forms_operands_key forms_operands_code forms_pieces_cut forms_pieces_placed forms_pieces_placed_all forms_readers_sees forms_readers_sees_third forms_readers_behind forms_readers_token forms_readers_past forms_readers_expects forms_readers_sees_kind forms_readers_past_kind forms_readers_is_done forms_readers_ends forms_readers_left forms_readers_some_from forms_readers_up_to_from forms_readers_separated_from forms_tree_levels forms_words_table_place divisions_entries_entries_of divisions_steps_size_up_to screen_clauses_clauses_from screen_screens_placed_from lines_lines_lines lines_steps_each_line lines_words_words
stock-is first = refl
