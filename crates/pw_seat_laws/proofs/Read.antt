-- The texts of the servers are read as these programs.
use Rattle.std.proofs.Common.{◌≡◌, List, ap, ◌∙◌, refl}
use Rattle.std.specs.Prelude.{codes}
use denote.Hole.Carrier.{hidden}
use Rattle.pw_forms.specs.declared.statement.Statement.TheBlock.{hidden-the_row-Statement-0}
use Rattle.pw_text.specs.Items.{quoted, number_or_mark, line_item, without_period, item_at}
use Rattle.pw_text.specs.Tokens.{items_from}
use Rattle.pw_data.specs.Parts.{is_table_word, entry_size, parts_from}
use Rattle.pw_data.specs.Tree.{forest}
use Rattle.pw_data.specs.Clauses.{clauses_from}
use Rattle.pw_forms.specs.Words.{table_place}
use Rattle.pw_forms.specs.Readers.{sees, sees_third, form_rest_behind, past, past_kind, token, expects, sees_kind, is_done, ends, left, some_from, up_to_from, separated_from}
use Rattle.pw_forms.specs.Operands.{subscript_behind, item, figurative, operand, name, file_name, program_name, key_of, key, code}
use Rattle.pw_forms.specs.Conditions.{word_operator, operator, compared, comparison, all, condition}
use Rattle.pw_forms.specs.FileForms.{with_lock, receive, read_file, read_next, sees_next, read, reply, write_file, write, rewrite, delete, file_form}
use Rattle.pw_forms.specs.Forms.{at_most, move_form, giving, on_size_error, arithmetic, if_form, perform_until, perform_times, perform_one, perform_one_of, perform, exit, stop, display_base, display_any, display, accept, using, call, code_clause, send, transaction_form, form}
use Rattle.pw_forms.specs.Pieces.{cut, placed, placed_all}
use Rattle.pw_forms.specs.Faults.{faults_from}
use Rattle.pw_forms.specs.Tree.{levels}
use Rattle.pw_data.specs.Layouts.{Laid}
use Rattle.pw_forms.specs.declared.statement.Paragraph.{Paragraph}
use Rattle.pw_seat_laws.proofs.Trees.{map_program, sale_program}
use Rattle.pw_seat_laws.specs.Servers.{map_data, map_text, sale_data, sale_text, seat_server}

sale-items : (seat_server (codes "SALE-P") sale_data sale_text).layout ≡ sale_program.layout
unfolding quoted number_or_mark line_item without_period item_at items_from is_table_word entry_size parts_from forest clauses_from
sale-items = refl

sale-paragraphs : (seat_server (codes "SALE-P") sale_data sale_text).paragraphs ≡ sale_program.paragraphs
unfolding hidden hidden-the_row-Statement-0 quoted number_or_mark line_item without_period item_at items_from table_place sees sees_third form_rest_behind past past_kind token expects sees_kind is_done ends left some_from up_to_from separated_from subscript_behind item figurative operand name file_name program_name key_of key code word_operator operator compared comparison all condition with_lock receive read_file read_next sees_next read reply write_file write rewrite delete file_form at_most move_form giving on_size_error arithmetic if_form perform_until perform_times perform_one perform_one_of perform exit stop display_base display_any display accept using call code_clause send transaction_form form cut placed placed_all faults_from levels
sale-paragraphs = refl

pub sale-is : seat_server (codes "SALE-P") sale_data sale_text ≡ sale_program
sale-is =
    ap (λ (layout : Laid). record (seat_server (codes "SALE-P") sale_data sale_text) { layout = layout }) sale-items
    ∙ ap (λ (paragraphs : List Paragraph). record sale_program { paragraphs = paragraphs }) sale-paragraphs

map-items : (seat_server (codes "MAP-P") map_data map_text).layout ≡ map_program.layout
unfolding quoted number_or_mark line_item without_period item_at items_from is_table_word entry_size parts_from forest clauses_from
map-items = refl

map-paragraphs : (seat_server (codes "MAP-P") map_data map_text).paragraphs ≡ map_program.paragraphs
unfolding hidden hidden-the_row-Statement-0 quoted number_or_mark line_item without_period item_at items_from table_place sees sees_third form_rest_behind past past_kind token expects sees_kind is_done ends left some_from up_to_from separated_from subscript_behind item figurative operand name file_name program_name key_of key code word_operator operator compared comparison all condition with_lock receive read_file read_next sees_next read reply write_file write rewrite delete file_form at_most move_form giving on_size_error arithmetic if_form perform_until perform_times perform_one perform_one_of perform exit stop display_base display_any display accept using call code_clause send transaction_form form cut placed placed_all faults_from levels
map-paragraphs = refl

pub map-is : seat_server (codes "MAP-P") map_data map_text ≡ map_program
map-is =
    ap (λ (layout : Laid). record (seat_server (codes "MAP-P") map_data map_text) { layout = layout }) map-items
    ∙ ap (λ (paragraphs : List Paragraph). record map_program { paragraphs = paragraphs }) map-paragraphs
