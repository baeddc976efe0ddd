-- The records of a file, and lines of bytes that may be printed.
use Rattle.std.specs.Prelude.{ℕ, List, [], ◌∷◌, ◌++◌, map, take, length, Bool, ◌&&◌, ◌||◌, nat_le, nat_lt, Result, Ok, if◌then◌else◌}
use Rattle.std.specs.List.{list_all}
use Rattle.pw_base.specs.Characters.{space, tilde}
use Rattle.pw_base.specs.Limits.{most_content}
use Rattle.pw_base.specs.declared.fault.Fault.{Fault}
use Rattle.pw_base.specs.declared.fault_code.FaultCode.TheVariants.{BadCharacter, BadRecord}
use Rattle.pw_sections.specs.Lines.{lines}
use Rattle.pw_sections.specs.Steps.{refused, each_line}
use Rattle.pw_sections.specs.Keys.{is_seen}

-- 0x20 to 0x7E
abbrev pub is_printable : ℕ → Bool
is_printable b = nat_le space b && nat_le b tilde

-- a line has such bytes alone
abbrev pub printable_line : ℕ → Unit {0} → List ℕ → Result (Unit {0}) Fault
printable_line number done line = if list_all is_printable line then Ok tt else refused number BadCharacter

-- all lines of a text have such bytes alone; the first line has a number
abbrev pub printable : List ℕ → ℕ → Result (Unit {0}) Fault
printable text first_line = each_line printable_line first_line (tt {0}) (lines text)

-- a record has its whole key and at most 4,000 bytes, and its key is new
abbrev pub is_bad_record : ℕ → List (List ℕ) → List ℕ → Bool
is_bad_record key records line =
    nat_lt (length line) key || (nat_lt most_content (length line) || is_seen (map (take key) records) (take key line))

-- the record of a line behind the others
abbrev pub record_read : ℕ → ℕ → List (List ℕ) → List ℕ → Result (List (List ℕ)) Fault
record_read key number records line = if is_bad_record key records line then refused number BadRecord else Ok (records ++ line ∷ [])

-- the records of a text whose first line has a number, in a file whose key has a length
abbrev pub records_of_text : ℕ → List ℕ → ℕ → Result (List (List ℕ)) Fault
records_of_text key text first_line = each_line (record_read key) first_line [] (lines text)
