-- The screens of a program, or their first fault.
use Rattle.std.specs.Prelude.{ℕ, List, [], ◌∷◌, flat_map, None, Result}
use Rattle.pw_base.specs.declared.fault.Fault.{Fault}
use Rattle.pw_base.specs.First.{least, unless}
use Rattle.pw_text.specs.declared.token.Token.{Token}
use Rattle.pw_data.specs.Entries.{line_of}
use Rattle.pw_data.specs.Parts.{left_of}
use Rattle.pw_data.specs.Layouts.{Laid}
use Rattle.pw_code.specs.declared.field.Field.{Field}
use Rattle.pw_code.specs.declared.field.ScreenTable.{ScreenTable}
use Rattle.pw_divisions.specs.Entries.{division_entries_of}
use Rattle.pw_screen.specs.declared.entry.ScreenEntry.{ScreenEntry}
use Rattle.pw_screen.specs.declared.entry.ScreenEntry.TheVariants as entry
use Rattle.pw_screen.specs.declared.entry.PlacedEntry.{PlacedEntry}
use Rattle.pw_screen.specs.Entries.{ScreenEntriesBefore, at_first, screen_entry_of, after_screen_entry}

-- the entries that parts are, each behind those before it
unfoldable pub placed_from : List ℕ → Laid → ScreenEntriesBefore → List (List Token) → List PlacedEntry
placed_from text laid before [] = []
placed_from text laid before (part ∷ parts) =
    let found = screen_entry_of laid before (left_of text part) in
    (record { line = line_of part; entry = found })
    ∷ placed_from text laid (after_screen_entry before (left_of text part) found) parts

-- the fault of an entry
abbrev pub fault_of : ℕ → ScreenEntry → List Fault
fault_of line (entry.Screen name) = []
fault_of line (entry.Field field) = []
fault_of line (entry.Refused code) = (record { line = line; code = code }) ∷ []

-- the faults of entries
abbrev pub faults_of : List PlacedEntry → List Fault
faults_of entries = flat_map (λ placed. fault_of placed.line placed.entry) entries

-- what stands from an entry on: the fields in front of the next screen, and the screens from there on
pub record ScreensBehind : Type 0 where
  pub fields : List Field
  pub tables : List ScreenTable

-- behind the last entry
abbrev pub nothing : ScreensBehind
nothing = record { fields = []; tables = [] }

-- a screen takes the fields that stand behind it up to the next screen
abbrev pub with_entry : ScreenEntry → ScreensBehind → ScreensBehind
with_entry (entry.Screen name) rest =
    record { fields = []; tables = (record { name = name; fields = rest.fields }) ∷ rest.tables }
with_entry (entry.Field field) rest = record { fields = field ∷ rest.fields; tables = rest.tables }
with_entry (entry.Refused code) rest = rest

-- what some entries are together
abbrev pub screen_entries_behind : List PlacedEntry → ScreensBehind
screen_entries_behind [] = nothing
screen_entries_behind (placed ∷ entries) = with_entry placed.entry (screen_entries_behind entries)

-- the screens that entries are, or their first fault
abbrev pub outcome_of : List PlacedEntry → Result (List ScreenTable) Fault
outcome_of entries = unless (least None (faults_of entries)) (screen_entries_behind entries).tables

-- the screens that the tokens of the section are, with the items of a layout, or their first fault
abbrev pub screens_of : List ℕ → List Token → Laid → Result (List ScreenTable) Fault
screens_of text tokens laid = outcome_of (placed_from text laid (at_first laid) (division_entries_of tokens))
