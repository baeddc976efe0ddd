-- What the sections of a deck say keeps the limits of a system.
use Rattle.std.proofs.Common.{ℕ, ◌+◌, List, length, IfOk}
use Rattle.std.specs.Prelude.{nat_le}
use Rattle.std.specs.List.{AllByRecursion}
use Rattle.std.specs.Option.{is_some}
use Rattle.pw_base.specs.Lengths.{IsKeyLength}
use Rattle.pw_base.proofs.Plain.{all-last}
use Rattle.pw_code.specs.Limits.{most_files}
use Rattle.pw_code.specs.declared.file.FileInfo.{FileInfo}
use Rattle.pw_pathcom.specs.Reading.{commands_of}
use Rattle.pw_log_lines.specs.Fail.{failures_counted}
use Rattle.pw_log_lines.specs.Log.{entries_counted}
use Rattle.pw_sections.specs.Entries.{entries_of}
use Rattle.pw_sections.specs.Records.{printable, records_of_text}
use Rattle.pw_words.specs.Names.{has_name}
use Rattle.pw_words.specs.Words.{Word}
use Rattle.pw_deck_tables.proofs.Commands.{and_then, Any, any_of}
use Rattle.pw_deck_tables.specs.Objects.{no_objects, has_file, once, section_admitted, pathcom_section, file_section, entries_section, fail_section, log_section}
use Rattle.pw_deck_tables.specs.declared.objects.Objects.{Objects}
use Rattle.pw_deck_tables.specs.declared.objects.TermEntries.{TermEntries}
use Rattle.pw_deck.proofs.Ranges.{InRange, commands_in_range, AreRecords, records_kept, AreEntries, entries_kept}

-- a file whose key and records have their lengths, and no key twice
pub record IsGoodFile (file : FileInfo) : Type 0 where
  pub key : IsKeyLength file.key
  pub records : AreRecords file.key file.records

abbrev pub HasEntries : TermEntries → Type 0
HasEntries section = AreEntries section.entries

pub record IsSound (objects : Objects) : Type 0 where
  pub commands : InRange objects.commands
  pub files : AllByRecursion IsGoodFile objects.files
  pub entries : AllByRecursion HasEntries objects.entries

pub nothing_sound : IsSound no_objects
nothing_sound = record { commands = record { terminals = tt; classes = tt }; files = tt; entries = tt }

pub pathcom_sound : (objects : Objects) (line : ℕ) (text : List ℕ) → IsSound objects → IfOk (pathcom_section objects line text) IsSound
pathcom_sound objects line text sound =
    and_then (once line (is_some objects.pathcom)) _ Any IsSound (any_of (once line (is_some objects.pathcom)))
    (λ done h. and_then (printable text (line + 1)) _ Any IsSound (any_of (printable text (line + 1)))
    (λ done h. and_then (commands_of text (line + 1)) _ InRange IsSound (commands_in_range text (line + 1))
    (λ commands are. record { commands = are; files = sound.files; entries = sound.entries })))

pub file_sound : (objects : Objects) (line : ℕ) (text : List ℕ) (name : Word) (key : ℕ) → IsKeyLength key → IsSound objects → IfOk (file_section objects line text name key) IsSound
file_sound objects line text name key is sound =
    and_then (section_admitted line (has_file objects name) (nat_le most_files (length objects.files))) _ Any IsSound
    (any_of (section_admitted line (has_file objects name) (nat_le most_files (length objects.files))))
    (λ done h. and_then (printable text (line + 1)) _ Any IsSound (any_of (printable text (line + 1)))
    (λ done h. and_then (records_of_text key text (line + 1)) _ (AreRecords key) IsSound (records_kept key text (line + 1))
    (λ records are. record {
      commands = sound.commands;
      files = all-last IsGoodFile objects.files _ sound.files (record { key = is; records = are });
      entries = sound.entries;
    })))

pub entries_sound : (objects : Objects) (line : ℕ) (text : List ℕ) (name : Word) → IsSound objects → IfOk (entries_section objects line text name) IsSound
entries_sound objects line text name sound =
    and_then (once line (has_name objects.entered name)) _ Any IsSound (any_of (once line (has_name objects.entered name)))
    (λ done h. and_then (printable text (line + 1)) _ Any IsSound (any_of (printable text (line + 1)))
    (λ done h. and_then (entries_of text (line + 1)) _ AreEntries IsSound (entries_kept text (line + 1))
    (λ entries are. record { commands = sound.commands; files = sound.files; entries = all-last HasEntries objects.entries _ sound.entries are })))

pub fail_sound : (objects : Objects) (line : ℕ) (text : List ℕ) → IsSound objects → IfOk (fail_section objects line text) IsSound
fail_sound objects line text sound =
    and_then (once line (is_some objects.fail)) _ Any IsSound (any_of (once line (is_some objects.fail)))
    (λ done h. and_then (printable text (line + 1)) _ Any IsSound (any_of (printable text (line + 1)))
    (λ done h. and_then (failures_counted text (line + 1)) _ Any IsSound (any_of (failures_counted text (line + 1)))
    (λ count h. record { commands = sound.commands; files = sound.files; entries = sound.entries })))

pub log_sound : (objects : Objects) (line : ℕ) (text : List ℕ) → IsSound objects → IfOk (log_section objects line text) IsSound
log_sound objects line text sound =
    and_then (once line (is_some objects.log)) _ Any IsSound (any_of (once line (is_some objects.log)))
    (λ done h. and_then (printable text (line + 1)) _ Any IsSound (any_of (printable text (line + 1)))
    (λ done h. and_then (entries_counted text (line + 1)) _ Any IsSound (any_of (entries_counted text (line + 1)))
    (λ count h. record { commands = sound.commands; files = sound.files; entries = sound.entries })))
