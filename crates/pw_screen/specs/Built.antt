-- What was read so far, before what stands from the next entry on.
use Rattle.std.specs.Prelude.{ℕ, List, ◌∷◌, ◌++◌, Bool, ◌||◌, is_some, All, Option, Some, None, Result, IfSome}
use Rattle.pw_base.specs.declared.fault.Fault.{Fault}
use Rattle.pw_base.specs.First.{least, unless}
use Rattle.pw_words.specs.Words.{Word}
use Rattle.pw_text.specs.declared.token.Token.{Token}
use Rattle.pw_data.specs.Names.{has_name}
use Rattle.pw_data.specs.Layouts.{Laid, place_of}
use Rattle.pw_code.specs.declared.field.ScreenTable.{ScreenTable}
use Rattle.pw_code.specs.Fields.{IsTable}
use Rattle.pw_screen.specs.declared.taken.ScreensTaken.{ScreensTaken}
use Rattle.pw_screen.specs.declared.build.ScreenBuilder.{ScreenBuilder}
use Rattle.pw_screen.specs.declared.reading.ScreenReading.{ScreenReading}
use Rattle.pw_screen.specs.Cells.{used_by}
use Rattle.pw_screen.specs.Entries.{ScreenEntriesBefore}
use Rattle.pw_screen.specs.Screens.{ScreensBehind, placed_from, faults_of, screen_entries_behind}

-- an item of the layout has the name
abbrev pub is_item : Laid → Word → Bool
is_item laid word = is_some (place_of laid word)

-- what the entries so far leave
abbrev pub before_of : Laid → ScreensTaken → ScreenEntriesBefore
before_of laid taken = record {
  begun = taken.begun;
  names = λ word. has_name taken.names word || is_item laid word;
  fields = has_name taken.fields;
  used = used_by taken.used;
}

-- the screen that has begun, if any, with what stands behind its last field
abbrev pub completed : Option ScreenTable → ScreensBehind → List ScreenTable
completed None rest = rest.tables
completed (Some current) rest =
    (record { name = current.name; fields = current.fields ++ rest.fields }) ∷ rest.tables

-- the screens so far, before what stands from the next entry on
abbrev pub built : ScreenBuilder → ScreensBehind → List ScreenTable
built build rest = build.done.items ++ completed build.current rest

-- the screens so far are those of a program whose storage has this size
abbrev pub AreSound : ℕ → ScreenBuilder → Type 0
AreSound storage build =
    All (IsTable storage) build.done.items × IfSome build.current (IsTable storage)

-- what comes out where these entries follow
abbrev pub outcome : List ℕ → Laid → ScreenReading → List (List Token) → Result (List ScreenTable) Fault
outcome text laid reading parts =
    let placed = placed_from text laid (before_of laid reading.taken) parts in
    unless (least reading.known (faults_of placed)) (built reading.build (screen_entries_behind placed))
