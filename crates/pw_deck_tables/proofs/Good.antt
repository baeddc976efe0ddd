-- What sections say has names, and there is not too much of it.
use Rattle.std.proofs.Common.{◌≡◌, ℕ, ◌+◌, ◌≤◌, Bool, true, false, List, [], ◌∷◌, map, length, IfOk, refl, sym, ap, subst, arith}
use Rattle.std.specs.Prelude.{nat_le}
use Rattle.std.specs.List.{filter}
use Rattle.std.specs.Option.{is_some}
use Rattle.std.proofs.lemmas.List.{length-map}
use Rattle.pw_code.specs.Limits.{most_files}
use Rattle.pw_code.specs.Names.{IsName}
use Rattle.pw_code.specs.Valid.{HasNames, HasFew}
use Rattle.pw_code.specs.declared.file.FileInfo.{FileInfo}
use Rattle.pw_code.specs.declared.lock.LockRule.{LockRule}
use Rattle.pw_pathcom.specs.Reading.{commands_of}
use Rattle.pw_pathcom.specs.declared.commands.ClassCommand.{ClassCommand}
use Rattle.pw_pathcom.specs.declared.commands.TermCommand.{TermCommand}
use Rattle.pw_log_lines.specs.Fail.{failures_counted}
use Rattle.pw_log_lines.specs.Log.{entries_counted}
use Rattle.pw_sections.specs.Entries.{entries_of}
use Rattle.pw_sections.specs.Records.{printable, records_of_text}
use Rattle.pw_words.specs.Names.{has_name}
use Rattle.pw_words.specs.Words.{Word}
use Rattle.pw_deck_tables.proofs.Commands.{AreCommands, no_commands_are, commands_are, and_then, Any, any_of, more_few}
use Rattle.pw_deck_tables.proofs.Named.{Named, none_named, named_more, named_kept, are_names, filter_le}
use Rattle.pw_deck_tables.specs.Objects.{no_objects, has_file, once, section_admitted, pathcom_section, file_section, entries_section, fail_section, log_section}
use Rattle.pw_deck_tables.specs.Tables.{is_started, class_from_command, terminal_of, tcp_names}
use Rattle.pw_deck_tables.specs.Unknown.{tables_of}
use Rattle.pw_deck_tables.specs.declared.objects.Objects.{Objects}

pub record IsGood (objects : Objects) : Type 0 where
  pub commands : AreCommands objects.commands
  pub files : Named (map (λ (file : FileInfo). file.name) objects.files)
  pub few_files : length objects.files ≤ most_files

pub no_objects_good : IsGood no_objects
no_objects_good = record { commands = no_commands_are; files = none_named; few_files = omega arith }

-- a section line that is not refused
pub record IsOneMore (stands full : Bool) (done : Unit {0}) : Type 0 where
  pub new : stands ≡ false
  pub room : full ≡ false

pub one_more_is : (line : ℕ) (stands full : Bool) → IfOk (section_admitted line stands full) (IsOneMore stands full)
one_more_is line true full = tt
one_more_is line false true = tt
one_more_is line false false = record { new = refl; room = refl }

pub pathcom_good : (objects : Objects) (line : ℕ) (text : List ℕ) → IsGood objects → IfOk (pathcom_section objects line text) IsGood
pathcom_good objects line text good =
    and_then (once line (is_some objects.pathcom)) _ Any IsGood (any_of (once line (is_some objects.pathcom)))
    (λ done h. and_then (printable text (line + 1)) _ Any IsGood (any_of (printable text (line + 1)))
    (λ done h. and_then (commands_of text (line + 1)) _ AreCommands IsGood (commands_are text (line + 1))
    (λ commands are. record { commands = are; files = good.files; few_files = good.few_files })))

pub file_good : (objects : Objects) (line : ℕ) (text : List ℕ) (name : Word) (key : ℕ) → IsName name → IsGood objects → IfOk (file_section objects line text name key) IsGood
file_good objects line text name key is good =
    and_then (section_admitted line (has_file objects name) (nat_le most_files (length objects.files))) _ (IsOneMore (has_file objects name) (nat_le most_files (length objects.files))) IsGood
    (one_more_is line (has_file objects name) (nat_le most_files (length objects.files)))
    (λ done more. and_then (printable text (line + 1)) _ Any IsGood (any_of (printable text (line + 1)))
    (λ done h. and_then (records_of_text key text (line + 1)) _ Any IsGood (any_of (records_of_text key text (line + 1)))
    (λ records h. record {
      commands = good.commands;
      files = named_more (λ (file : FileInfo). file.name) objects.files _ good.files is more.new;
      few_files = more_few objects.files _ most_files more.room;
    })))

pub entries_good : (objects : Objects) (line : ℕ) (text : List ℕ) (name : Word) → IsGood objects → IfOk (entries_section objects line text name) IsGood
entries_good objects line text name good =
    and_then (once line (has_name objects.entered name)) _ Any IsGood (any_of (once line (has_name objects.entered name)))
    (λ done h. and_then (printable text (line + 1)) _ Any IsGood (any_of (printable text (line + 1)))
    (λ done h. and_then (entries_of text (line + 1)) _ Any IsGood (any_of (entries_of text (line + 1)))
    (λ entries h. record { commands = good.commands; files = good.files; few_files = good.few_files })))

pub fail_good : (objects : Objects) (line : ℕ) (text : List ℕ) → IsGood objects → IfOk (fail_section objects line text) IsGood
fail_good objects line text good =
    and_then (once line (is_some objects.fail)) _ Any IsGood (any_of (once line (is_some objects.fail)))
    (λ done h. and_then (printable text (line + 1)) _ Any IsGood (any_of (printable text (line + 1)))
    (λ done h. and_then (failures_counted text (line + 1)) _ Any IsGood (any_of (failures_counted text (line + 1)))
    (λ count h. record { commands = good.commands; files = good.files; few_files = good.few_files })))

pub log_good : (objects : Objects) (line : ℕ) (text : List ℕ) → IsGood objects → IfOk (log_section objects line text) IsGood
log_good objects line text good =
    and_then (once line (is_some objects.log)) _ Any IsGood (any_of (once line (is_some objects.log)))
    (λ done h. and_then (printable text (line + 1)) _ Any IsGood (any_of (printable text (line + 1)))
    (λ done h. and_then (entries_counted text (line + 1)) _ Any IsGood (any_of (entries_counted text (line + 1)))
    (λ count h. record { commands = good.commands; files = good.files; few_files = good.few_files })))

-- the tables keep the names
class_names_stay : (servers : List Word) (classes : List ClassCommand) → map (λ class. class.name) (map (class_from_command servers) classes) ≡ map (λ class. class.name) classes
class_names_stay servers [] = refl
class_names_stay servers (c ∷ cs) = ap (λ ns. c.name ∷ ns) (class_names_stay servers cs)

terminal_names_stay : (tcps programs : List Word) (terminals : List TermCommand)
    → map (λ t. t.name) (map (terminal_of tcps programs) terminals) ≡ map (λ t. t.name) terminals
terminal_names_stay tcps programs [] = refl
terminal_names_stay tcps programs (t ∷ ts) = ap (λ ns. t.name ∷ ns) (terminal_names_stay tcps programs ts)

-- the names of good tables are names
pub good_names : (objects : Objects) (programs servers : List Word) → IsGood objects → (rule : LockRule) → HasNames (tables_of objects programs servers rule)
good_names objects programs servers good rule = record {
  tcps = are_names _ good.commands.tcps;
  terminals = are_names _ (subst Named (sym (terminal_names_stay (tcp_names objects.commands) programs (filter is_started objects.commands.terminals)))
      (named_kept (λ (t : TermCommand). t.name) is_started objects.commands.terminals good.commands.terminals));
  classes = are_names _ (subst Named (sym (class_names_stay servers objects.commands.classes)) good.commands.classes);
  files = are_names _ good.files;
}

-- and there are not too many of each kind
pub good_few : (objects : Objects) (programs servers : List Word) → IsGood objects → (rule : LockRule) → HasFew (tables_of objects programs servers rule)
good_few objects programs servers good rule = record {
  programs = omega arith;
  servers = omega arith;
  screens = omega arith;
  classes = omega (arith, length-map objects.commands.classes (class_from_command servers), good.commands.few_classes);
  files = good.few_files;
  tcps = omega (arith, length-map objects.commands.tcps (λ tcp. tcp.name), good.commands.few_tcps);
  terminals = omega (
    arith,
    length-map (filter is_started objects.commands.terminals) (terminal_of (tcp_names objects.commands) programs),
    filter_le is_started objects.commands.terminals,
    good.commands.few_terminals,
  );
}
