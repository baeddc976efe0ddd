-- What the sections of a deck say that are no source.
use Rattle.std.specs.Prelude.{ℕ, ◌+◌, List, [], ◌∷◌, ◌++◌, length, Bool, nat_le, None, Some, Result, Ok, if◌then◌else◌}
use Rattle.std.specs.List.{list_any}
use Rattle.std.specs.Option.{is_some}
use Rattle.std.specs.Str.{bytes_eq}
use Rattle.pw_base.specs.declared.fault.Fault.{Fault}
use Rattle.pw_base.specs.declared.fault_code.FaultCode.TheVariants.{SectionTwice, TooMany}
use Rattle.pw_code.specs.Limits.{most_files}
use Rattle.pw_sections.specs.Steps.{◌>>=◌, refused}
use Rattle.pw_pathcom.specs.Reading.{no_commands, commands_of}
use Rattle.pw_log_lines.specs.Fail.{failures_counted}
use Rattle.pw_log_lines.specs.Log.{entries_counted}
use Rattle.pw_sections.specs.Entries.{entries_of}
use Rattle.pw_sections.specs.Records.{printable, records_of_text}
use Rattle.pw_words.specs.Names.{has_name, with_name}
use Rattle.pw_words.specs.Words.{Word}
use Rattle.pw_deck_tables.specs.declared.objects.Objects.{Objects}

-- nothing is said
abbrev pub no_objects : Objects
no_objects = record {
  pathcom = None;
  commands = no_commands;
  files = [];
  entered = [];
  entries = [];
  fail = None;
  log = None;
}

-- a file of this name stands already
abbrev pub has_file : Objects → Word → Bool
has_file objects name = list_any (λ file. bytes_eq file.name name) objects.files

-- a section line is refused where its section stands already
abbrev pub once : ℕ → Bool → Result (Unit {0}) Fault
once line stands = if stands then refused line SectionTwice else Ok tt

-- and where as many of its kind stand as may be
abbrev pub section_admitted : ℕ → Bool → Bool → Result (Unit {0}) Fault
section_admitted line stands full = if stands then refused line SectionTwice else (if full then refused line TooMany else Ok tt)

-- the commands; the text of a section stands behind its section line, as below
abbrev pub pathcom_section : Objects → ℕ → List ℕ → Result Objects Fault
pathcom_section objects line text = do
  done ← once line (is_some objects.pathcom)
  done ← printable text (line + 1)
  commands ← commands_of text (line + 1)
  Ok (record objects { pathcom = Some (record { bytes = text; first_line = line + 1 }); commands = commands })

-- a file, whose keys have a length
abbrev pub file_section : Objects → ℕ → List ℕ → Word → ℕ → Result Objects Fault
file_section objects line text name key = do
  done ← section_admitted line (has_file objects name) (nat_le most_files (length objects.files))
  done ← printable text (line + 1)
  records ← records_of_text key text (line + 1)
  Ok (record objects { files = objects.files ++ record { name = name; key = key; records = records } ∷ [] })

-- the entries of a terminal
abbrev pub entries_section : Objects → ℕ → List ℕ → Word → Result Objects Fault
entries_section objects line text name = do
  done ← once line (has_name objects.entered name)
  done ← printable text (line + 1)
  entries ← entries_of text (line + 1)
  Ok (record objects {
    entered = with_name objects.entered name;
    entries = objects.entries ++ record { name = name; line = line; entries = entries } ∷ [];
  })

-- the failure lines
abbrev pub fail_section : Objects → ℕ → List ℕ → Result Objects Fault
fail_section objects line text = do
  done ← once line (is_some objects.fail)
  done ← printable text (line + 1)
  count ← failures_counted text (line + 1)
  Ok (record objects { fail = Some (record { bytes = text; first_line = line + 1 }) })

-- the log
abbrev pub log_section : Objects → ℕ → List ℕ → Result Objects Fault
log_section objects line text = do
  done ← once line (is_some objects.log)
  done ← printable text (line + 1)
  count ← entries_counted text (line + 1)
  Ok (record objects { log = Some (record { bytes = text; first_line = line + 1 }) })
