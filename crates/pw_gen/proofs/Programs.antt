-- The programs of the generated deck have no fault, wherever they stand.
use Rattle.std.proofs.Common.{◌≡◌, ℕ, Bool, true, false, ◌&&◌, List, [], ◌∷◌, drop, Result, Ok, Err, refl}
use Rattle.std.specs.Prelude.{codes, is_ok}
use denote.Hole.Carrier.{hidden}
use Rattle.pw_forms.specs.declared.statement.Statement.TheBlock.{hidden-the_row-Statement-0}
use Rattle.std.specs.Fmt.{digits}
use Rattle.std.specs.Str.{bytes_eq}
use Rattle.std.proofs.lemmas.Slice.Eq.{bytes_eq-Decides}
use Rattle.std.proofs.lemmas.Bool.{and_parts}
use Rattle.pw_base.specs.declared.fault.Fault.{Fault}
use Rattle.pw_code.specs.declared.file.FileInfo.{FileInfo}
use Rattle.pw_code.specs.declared.links.Links.{Links}
use Rattle.pw_gen.specs.Generated.{text_of}
use Rattle.pw_gen.specs.Parts.{requester, server, stock}
use Rattle.pw_names.specs.Names.{names_of}
use Rattle.pw_scobol.specs.Requesters.{requester_of}
use Rattle.pw_scobol.specs.declared.requester.Requester.{Requester}
use Rattle.pw_server.specs.Servers.{server_of}
use Rattle.pw_server.specs.declared.server.Server.{Server}
use Rattle.pw_text.specs.Bytes.{bad_bytes as text_bytes_bad_bytes}
use Rattle.pw_text.specs.Items.{quoted as text_items_quoted, number_or_mark as text_items_number_or_mark, line_item as text_items_line_item, without_period as text_items_without_period, item_at as text_items_item_at}
use Rattle.pw_text.specs.Tokens.{items_from as text_tokens_items_from}
use Rattle.pw_data.specs.Clauses.{clauses_from as data_clauses_clauses_from}
use Rattle.pw_data.specs.Parts.{is_table_word as data_parts_is_table_word, entry_size as data_parts_entry_size, parts_from as data_parts_parts_from}
use Rattle.pw_data.specs.Tree.{forest as data_tree_forest}
use Rattle.pw_forms.specs.Blocks.{nested as forms_blocks_nested}
use Rattle.pw_forms.specs.Conditions.{word_operator as forms_conditions_word_operator, operator as forms_conditions_operator, compared as forms_conditions_compared, comparison as forms_conditions_comparison, all as forms_conditions_all, condition as forms_conditions_condition}
use Rattle.pw_forms.specs.Faults.{faults_from as forms_faults_faults_from}
use Rattle.pw_forms.specs.FileForms.{with_lock as forms_fileforms_with_lock, receive as forms_fileforms_receive, read_file as forms_fileforms_read_file, read_next as forms_fileforms_read_next, sees_next as forms_fileforms_sees_next, read as forms_fileforms_read, reply as forms_fileforms_reply, write_file as forms_fileforms_write_file, write as forms_fileforms_write, rewrite as forms_fileforms_rewrite, delete as forms_fileforms_delete, file_form as forms_fileforms_file_form}
use Rattle.pw_forms.specs.Forms.{at_most as forms_forms_at_most, move_form as forms_forms_move_form, giving as forms_forms_giving, on_size_error as forms_forms_on_size_error, arithmetic as forms_forms_arithmetic, if_form as forms_forms_if_form, perform_until as forms_forms_perform_until, perform_times as forms_forms_perform_times, perform_one as forms_forms_perform_one, perform_one_of as forms_forms_perform_one_of, perform as forms_forms_perform, exit as forms_forms_exit, stop as forms_forms_stop, display_base as forms_forms_display_base, display_any as forms_forms_display_any, display as forms_forms_display, accept as forms_forms_accept, using as forms_forms_using, call as forms_forms_call, code_clause as forms_forms_code_clause, send as forms_forms_send, transaction_form as forms_forms_transaction_form, form as forms_forms_form}
use Rattle.pw_forms.specs.Operands.{subscript_behind as forms_operands_subscript_behind, item as forms_operands_item, figurative as forms_operands_figurative, operand as forms_operands_operand, name as forms_operands_name, file_name as forms_operands_file_name, program_name as forms_operands_program_name, key_of as forms_operands_key_of, key as forms_operands_key, code as forms_operands_code}
use Rattle.pw_forms.specs.Pieces.{cut as forms_pieces_cut, placed as forms_pieces_placed, placed_all as forms_pieces_placed_all}
use Rattle.pw_forms.specs.Readers.{sees as forms_readers_sees, sees_third as forms_readers_sees_third, form_rest_behind as forms_readers_behind, token as forms_readers_token, past as forms_readers_past, expects as forms_readers_expects, sees_kind as forms_readers_sees_kind, past_kind as forms_readers_past_kind, is_done as forms_readers_is_done, ends as forms_readers_ends, left as forms_readers_left, some_from as forms_readers_some_from, up_to_from as forms_readers_up_to_from, separated_from as forms_readers_separated_from}
use Rattle.pw_forms.specs.Tree.{levels as forms_tree_levels}
use Rattle.pw_forms.specs.Words.{table_place as forms_words_table_place}
use Rattle.pw_divisions.specs.Entries.{division_entries_of as divisions_entries_entries_of}
use Rattle.pw_divisions.specs.Steps.{size_up_to as divisions_steps_size_up_to}
use Rattle.pw_screen.specs.Clauses.{clauses_from as screen_clauses_clauses_from}
use Rattle.pw_screen.specs.Screens.{placed_from as screen_screens_placed_from}
use Rattle.pw_sections.specs.Lines.{lines as lines_lines_lines}
use Rattle.pw_sections.specs.Steps.{each_line as lines_steps_each_line}
use Rattle.pw_sections.specs.Words.{words as lines_words_words}

abbrev pub stock_file : FileInfo
stock_file = record { name = codes "STOCK"; key = 2; records = drop 1 stock }

abbrev pub links : Links
links = record { programs = codes "KEYS" ∷ []; classes = codes "STORE" ∷ []; files = stock_file ∷ [] }

abbrev pub are_good : Result Requester Fault → Result Server Fault → Bool
are_good (Ok r) (Ok s) = bytes_eq r.name (codes "KEYS") && (bytes_eq s.name (codes "STORE-P") && is_ok (names_of (r ∷ []) (s ∷ []) links))
are_good _ _ = false

pub programs_good : (l m : ℕ) → are_good (requester_of (codes "KEYS") (text_of (drop 1 requester)) l) (server_of (codes "STORE-P") (text_of (drop 1 server)) m) ≡ true
unfolding hidden hidden-the_row-Statement-0 digits text_bytes_bad_bytes text_items_quoted text_items_number_or_mark text_items_line_item text_items_without_period text_items_item_at text_tokens_items_from data_clauses_clauses_from data_parts_is_table_word data_parts_entry_size data_parts_parts_from data_tree_forest forms_blocks_nested forms_conditions_word_operator forms_conditions_operator forms_conditions_compared forms_conditions_comparison forms_conditions_all forms_conditions_condition forms_faults_faults_from forms_fileforms_with_lock forms_fileforms_receive forms_fileforms_read_file forms_fileforms_read_next forms_fileforms_sees_next forms_fileforms_read forms_fileforms_reply forms_fileforms_write_file forms_fileforms_write forms_fileforms_rewrite forms_fileforms_delete forms_fileforms_file_form forms_forms_at_most forms_forms_move_form forms_forms_giving forms_forms_on_size_error forms_forms_arithmetic forms_forms_if_form forms_forms_perform_until forms_forms_perform_times forms_forms_perform_one forms_forms_perform_one_of forms_forms_perform forms_forms_exit forms_forms_stop forms_forms_display_base forms_forms_display_any forms_forms_display forms_forms_accept forms_forms_using forms_forms_call forms_forms_code_clause forms_forms_send forms_forms_transaction_form forms_forms_form forms_operands_subscript_behind forms_operands_item forms_operands_figurative forms_operands_operand forms_operands_name forms_operands_file_name forms_operands_program_name forms_operands_key_of forms_operands_key forms_operands_code forms_pieces_cut forms_pieces_placed forms_pieces_placed_all forms_readers_sees forms_readers_sees_third forms_readers_behind forms_readers_token forms_readers_past forms_readers_expects forms_readers_sees_kind forms_readers_past_kind forms_readers_is_done forms_readers_ends forms_readers_left forms_readers_some_from forms_readers_up_to_from forms_readers_separated_from forms_tree_levels forms_words_table_place divisions_entries_entries_of divisions_steps_size_up_to screen_clauses_clauses_from screen_screens_placed_from lines_lines_lines lines_steps_each_line lines_words_words
programs_good l m = refl

-- the programs as they are read, where their sources begin on these lines
pub record Read (l m : ℕ) : Type 0 where
  pub requester_read : Requester
  pub server_read : Server
  pub reads_requester : requester_of (codes "KEYS") (text_of (drop 1 requester)) l ≡ Ok requester_read
  pub reads_server : server_of (codes "STORE-P") (text_of (drop 1 server)) m ≡ Ok server_read
  pub requester_name : requester_read.name ≡ codes "KEYS"
  pub server_name : server_read.name ≡ codes "STORE-P"
  pub named : names_of (requester_read ∷ []) (server_read ∷ []) links ≡ Ok (tt {0})

pub ok_is : (r : Result (Unit {0}) Fault) → is_ok r ≡ true → r ≡ Ok (tt {0})
ok_is (Ok done) is = refl
ok_is (Err fault) is = absurd cc

read_by : (l m : ℕ) (r : Result Requester Fault) (t : Result Server Fault) → requester_of (codes "KEYS") (text_of (drop 1 requester)) l ≡ r
    → server_of (codes "STORE-P") (text_of (drop 1 server)) m ≡ t → are_good r t ≡ true → Read l m
read_by l m (Err fault) t reads served good = absurd cc
read_by l m (Ok r) (Err fault) reads served good = absurd cc
read_by l m (Ok r) (Ok s) reads served good =
    let a = and_parts (bytes_eq r.name (codes "KEYS")) _ good in
    let b = and_parts (bytes_eq s.name (codes "STORE-P")) _ a.1 in
    record {
      requester_read = r;
      server_read = s;
      reads_requester = reads;
      reads_server = served;
      requester_name = (bytes_eq-Decides r.name (codes "KEYS")).0 a.0;
      server_name = (bytes_eq-Decides s.name (codes "STORE-P")).0 b.0;
      named = ok_is _ b.1;
    }

pub programs_read : (l m : ℕ) → Read l m
programs_read l m = read_by l m _ _ refl refl (programs_good l m)
