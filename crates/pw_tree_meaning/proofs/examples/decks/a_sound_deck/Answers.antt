use Rattle.std.proofs.Common.{◌≡◌, Result, Ok, Err, is_ok, ℕ, true, false, [], codes, Some, lit<, lit≤, refl}
use Rattle.std.specs.List.{IsDistinct}
use Rattle.std.specs.Str.{bytes_eq}
use Rattle.std.proofs.lemmas.List.Elements.{All-nil}
use Rattle.pw_picture.specs.declared.picture.Picture.TheVariants as picture
use Rattle.pw_operands.specs.declared.variable.Variable.{Variable}
use Rattle.pw_code.specs.declared.file.FileInfo.{FileInfo}
use Rattle.pw_base.specs.Lengths.{IsContent}
use Rattle.pw_base.specs.declared.fault.Fault.{Fault}
use Rattle.pw_data.specs.Layouts.{Laid}
use Rattle.pw_tree_meaning.specs.Samples.{tokens_of_text, laid_by}
use denote.Hole.Carrier.{hidden}
use Rattle.pw_forms.specs.declared.statement.Statement.TheBlock.{hidden-the_row-Statement-0}
use Rattle.pw_text.specs.Items.{quoted, number_or_mark, line_item, without_period, item_at}
use Rattle.pw_text.specs.Tokens.{items_from}
use Rattle.pw_data.specs.Parts.{is_table_word, entry_size, parts_from}
use Rattle.pw_data.specs.Tree.{forest}
use Rattle.pw_data.specs.Clauses.{clauses_from}
use Rattle.pw_forms.specs.Words.{table_place}
use Rattle.pw_forms.specs.Readers.{sees, sees_third, form_rest_behind, past, past_kind, token, expects, sees_kind, is_done, ends, left, some_from, up_to_from, separated_from}
use Rattle.pw_forms.specs.Operands.{subscript_behind, item, figurative, operand, name, file_name, program_name, key_of, key, code}
use Rattle.pw_forms.specs.Conditions.{word_operator, operator, compared, comparison, all, condition}
use Rattle.pw_forms.specs.FileForms.{with_lock, receive, read_file, read_next, sees_next, read, reply, write_file, write, rewrite, delete, file_form}
use Rattle.pw_forms.specs.Forms.{at_most, move_form, giving, on_size_error, arithmetic, if_form, perform_until, perform_times, perform_one, perform_one_of, perform, exit, stop, display_base, display_any, display, accept, using, call, code_clause, send, transaction_form, form}
use Rattle.pw_forms.specs.Pieces.{cut, placed, placed_all}
use Rattle.pw_forms.specs.Faults.{faults_from}
use Rattle.pw_forms.specs.Tree.{levels}
use Rattle.pw_terminal.specs.Screen.{trimmed}
use Rattle.pw_onecopy.specs.Update.{upd}
use Rattle.pw_tree_meaning.proofs.examples.decks.a_sound_deck.Goals as goal

abbrev text_item : ℕ → Variable
text_item size = record { size = size; picture = Some (picture.Text size); occurs = 0; register = false }

abbrev stock : FileInfo
stock = record { name = codes "STOCK"; key = 2; records = [] }

laid-ok : (r : Result Laid Fault) → is_ok r ≡ true → r ≡ Ok (laid_by r)
laid-ok (Ok laid) e = refl
laid-ok (Err fault) e = absurd cc

none-distinct : IsDistinct bytes_eq []
unfolding IsDistinct
none-distinct = tt

pub returns : goal.returns
unfolding hidden hidden-the_row-Statement-0 quoted number_or_mark line_item without_period item_at items_from is_table_word entry_size parts_from forest clauses_from table_place sees sees_third form_rest_behind past past_kind token expects sees_kind is_done ends left some_from up_to_from separated_from subscript_behind item figurative operand name file_name program_name key_of key code word_operator operator compared comparison all condition with_lock receive read_file read_next sees_next read reply write_file write rewrite delete file_form at_most move_form giving on_size_error arithmetic if_form perform_until perform_times perform_one perform_one_of perform exit stop display_base display_any display accept using call code_clause send transaction_form form cut placed placed_all faults_from levels trimmed upd
returns c = record {
  programs = (
    record {
      resolves = (
        (
          (
            record { variable = text_item 2; found = refl; passes = refl; subscripted = refl },
            (refl, (record { variable = text_item 6; found = refl; passes = refl; subscripted = refl }, tt)),
          ),
          tt,
        ),
        tt,
      );
      forms = ((tt, tt), tt);
      laid = record { text = codes "01 M PIC X(2). 01 A PIC X(6)."; tokens = tokens_of_text (codes "01 M PIC X(2). 01 A PIC X(6)."); is_laid = laid-ok _ refl };
    },
    tt,
  );
  servers = (
    record {
      resolves = (
        (
          (record { variable = text_item 2; found = refl; passes = refl; subscripted = refl }, tt),
          (
            (
              record { file = stock; found = refl; item = record { variable = text_item 2; found = refl; passes = refl; subscripted = refl } },
              (record { variable = text_item 6; found = refl; passes = refl; subscripted = refl }, tt),
            ),
            ((record { variable = text_item 6; found = refl; passes = refl; subscripted = refl }, tt), tt),
          ),
        ),
        tt,
      );
      forms = ((tt, (tt, (tt, tt))), tt);
      laid = record { text = codes "01 K PIC X(2). 01 R PIC X(6)."; tokens = tokens_of_text (codes "01 K PIC X(2). 01 R PIC X(6)."); is_laid = laid-ok _ refl };
    },
    tt,
  );
  terminals = (record { pair = lit< tt; program = lit< tt }, tt);
  classes = (record { server = lit< tt; some = lit≤ tt }, (record { server = lit< tt; some = lit≤ tt }, tt));
  files = (record { key = (lit≤ tt, lit≤ tt); contents = All-nil (IsContent 2); distinct = none-distinct }, tt);
}
