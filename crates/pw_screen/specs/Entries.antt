-- What an entry of the section is, behind the entries before it.
use Rattle.std.specs.Prelude.{ℕ, List, [], Bool, true, false, not, ◌&&◌, ◌||◌, ◌==◌, nat_lt, nat_le, is_some, Option, Some, None, if◌then◌else◌}
use Rattle.std.specs.List.{list_any}
use Rattle.pw_base.specs.declared.fault_code.FaultCode.{FaultCode}
use Rattle.pw_base.specs.declared.fault_code.FaultCode.TheVariants.{BadPicture, NameTwice, UnknownItem, FieldOutside, FieldsOverlap, BadClause}
use Rattle.pw_words.specs.Words.{Word}
use Rattle.pw_text.specs.declared.token.Token.{Token}
use Rattle.pw_text.specs.Cursor.{Left, spelling, behind}
use Rattle.pw_data.specs.Parts.{is_table_word}
use Rattle.pw_data.specs.Entries.{is_bad_picture}
use Rattle.pw_data.specs.Layouts.{Laid, place_of}
use Rattle.pw_code.specs.declared.field.Field.{Field}
use Rattle.pw_code.specs.Fields.{IsField}
use Rattle.pw_divisions.specs.Names.{level_of, name_of, own_name_of, upper_name, is_taken, with_name}
use Rattle.pw_screen.specs.declared.body.At.{At}
use Rattle.pw_screen.specs.declared.body.FieldBody.{FieldBody}
use Rattle.pw_screen.specs.declared.shown.Shown.{Shown}
use Rattle.pw_screen.specs.declared.entry.ScreenEntry.{ScreenEntry}
use Rattle.pw_screen.specs.declared.entry.ScreenEntry.TheVariants as entry
use Rattle.pw_screen.specs.Clauses.{is_screen_end, body_of}
use Rattle.pw_screen.specs.Shown.{shown_of, extent_of, is_outside}
use Rattle.pw_screen.specs.Cells.{field_cell_places, has_cell}

-- What the entries so far leave: whether a screen has begun, the names of items and screens, the names of the fields of
-- the screen, and which of its cells its fields have. A field that is refused has none.
pub record ScreenEntriesBefore : Type 0 where
  pub begun : Bool
  pub names : Word → Bool
  pub fields : Word → Bool
  pub used : ℕ → Bool

-- before the first entry
abbrev pub at_first : Laid → ScreenEntriesBefore
at_first laid = record {
  begun = false;
  names = λ name. is_some (place_of laid name);
  fields = λ name. false;
  used = λ place. false;
}

-- an entry of level 01 begins a screen, and every other one is a field's
abbrev pub is_screen_level : Option ℕ → Bool
is_screen_level None = false
is_screen_level (Some level) = level == 1

-- an entry of the screen section begins a screen
abbrev pub begins_screen : Left → Bool
begins_screen part = is_screen_level (level_of part)

-- a field has level 02 to 49
abbrev pub is_field_level : Option ℕ → Bool
is_field_level None = false
is_field_level (Some level) = nat_le 2 level && nat_le level 49

-- one of the tokens stands for a picture and is none
abbrev pub has_bad_picture : Left → Bool
has_bad_picture part = list_any (is_bad_picture part.text) part.tokens

-- the name that a token is, where there is one, is a table word
abbrev pub is_table_name : List ℕ → Option Token → Bool
is_table_name text None = false
is_table_name text (Some name) = is_table_word false (spelling text name)

-- the name is a table word, or taken
abbrev pub is_twice : List ℕ → (Word → Bool) → Option Token → Bool
is_twice text taken name = is_table_name text name || is_taken text taken name

-- the refusal, where the test holds, and else what comes next
abbrev pub refused_if : Bool → FaultCode → ScreenEntry → ScreenEntry
refused_if test code next = if test then entry.Refused code else next

-- an entry of the form of a screen has a name
abbrev pub screen_by : List ℕ → Option Token → Bool → ScreenEntry
screen_by text (Some name) true = entry.Screen (upper_name text name)
screen_by text _ _ = entry.Refused BadClause

-- What an entry is that begins a screen. 111: a picture that is none. 122: its name is a table word, or that of an item
-- or an earlier screen. 143: another form.
abbrev pub screen_head_entry : (Word → Bool) → Left → ScreenEntry
screen_head_entry names part =
    refused_if (has_bad_picture part) BadPicture
    (refused_if (is_twice part.text names (name_of part)) NameTwice
    (screen_by part.text (name_of part) (is_screen_end (behind 2 part))))

-- a name in upper case, and none for FILLER
abbrev pub field_name : List ℕ → Option Token → List ℕ
field_name text None = []
field_name text (Some name) = upper_name text name

-- a number, where there are cells
abbrev pub where_cells : ℕ → ℕ → ℕ
where_cells cells number = if nat_lt 0 cells then number else 0

-- the field of a name and a place; one without cells lies nowhere, in row and column 0
abbrev pub field_with : List ℕ → At → ℕ → Shown → Field
field_with name at cells shown = record {
  name = name;
  row = where_cells cells at.row;
  column = where_cells cells at.column;
  shown = shown.kind;
  takes = shown.takes;
}

-- 142: one of its cells is another field's
abbrev pub field_on : (ℕ → Bool) → Field → ScreenEntry
field_on used field = refused_if (list_any used (field_cell_places field)) FieldsOverlap (entry.Field field)

-- 143: the clauses do not go together, or a field may not stand here
abbrev pub field_by : (ℕ → Bool) → Bool → List ℕ → At → ℕ → Option Shown → ScreenEntry
field_by used may_stand name at cells None = entry.Refused BadClause
field_by used may_stand name at cells (Some shown) =
    refused_if (not may_stand) BadClause (field_on used (field_with name at cells shown))

-- the form of a field: a level, a name or FILLER, AT row, column and clauses
abbrev pub form_of : Laid → Left → Option FieldBody
form_of laid part = if is_some (name_of part) then body_of laid (behind 2 part) else None

-- a screen has begun, and the level is a field's
abbrev pub may_stand : Bool → Left → Bool
may_stand begun part = begun && is_field_level (level_of part)

-- what an entry with the form of a field is
abbrev pub field_in : Laid → (ℕ → Bool) → Bool → Left → Option FieldBody → ScreenEntry
field_in laid used begun part None = entry.Refused BadClause
field_in laid used begun part (Some body) =
    refused_if body.clauses.unknown UnknownItem
    (refused_if (is_outside body.at (extent_of part.text body.clauses)) FieldOutside
    (field_by used (may_stand begun part) (field_name part.text (own_name_of part)) body.at
    (extent_of part.text body.clauses) (shown_of part.text laid body.clauses)))

-- What a field's entry is. 111: a picture that is none. 122: its name is a table word, or that of an earlier field of the
-- screen. 143: another form. 123: an item that there is not. 141: a cell outside rows 1 to 23 or columns 1 to 80. 143:
-- clauses that do not go together, or a field that may not stand here. 142: a cell that an earlier field has.
abbrev pub field_of : Laid → (Word → Bool) → (ℕ → Bool) → Bool → Left → ScreenEntry
field_of laid fields used begun part =
    refused_if (has_bad_picture part) BadPicture
    (refused_if (is_twice part.text fields (own_name_of part)) NameTwice
    (field_in laid used begun part (form_of laid part)))

-- what an entry is
abbrev pub screen_entry_of : Laid → ScreenEntriesBefore → Left → ScreenEntry
screen_entry_of laid before part =
    if begins_screen part
    then screen_head_entry before.names part
    else field_of laid before.fields before.used before.begun part

-- what an entry leaves of the cells: those of a field are used
abbrev pub used_after : (ℕ → Bool) → ScreenEntry → ℕ → Bool
used_after used (entry.Screen name) = used
used_after used (entry.Field field) = λ place. has_cell field place || used place
used_after used (entry.Refused code) = used

-- What an entry leaves: a screen begins with no fields, and a name is taken also where its entry is refused.
abbrev pub after_screen_entry : ScreenEntriesBefore → Left → ScreenEntry → ScreenEntriesBefore
after_screen_entry before part found =
    if begins_screen part
    then record {
      begun = true;
      names = with_name part.text (name_of part) before.names;
      fields = λ name. false;
      used = λ place. false;
    }
    else record before {
      fields = with_name part.text (own_name_of part) before.fields;
      used = used_after before.used found;
    }

-- what holds of an entry in a program whose storage has this size
abbrev pub IsSoundEntry : ℕ → ScreenEntry → Type 0
IsSoundEntry storage (entry.Screen name) = Unit {0}
IsSoundEntry storage (entry.Field field) = IsField storage field
IsSoundEntry storage (entry.Refused code) = Unit {0}
