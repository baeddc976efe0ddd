-- Which entries are right.
use Rattle.std.specs.Prelude.{ℕ, ◌+◌, Bool, false, not, ◌&&◌, ◌||◌, ◌==◌, nat_le, List, [], ◌∷◌, ◌++◌, length, drop, take_while, position, slice_get, codes, Option, Some, None, if◌then◌else◌}
use Rattle.std.specs.Char.{is_ascii_digit}
use Rattle.std.specs.List.{list_all, list_any}
use Rattle.std.specs.Option.{option_map}
use Rattle.std.specs.Str.{str_eq_ignore_ascii_case}
use Rattle.pw_base.specs.Characters.{full_stop, hyphen, plus_sign}
use Rattle.pw_picture.specs.declared.picture.Picture.{Picture}
use Rattle.pw_picture.specs.Grammar.{size_of}
use Rattle.pw_picture.specs.Room.{whole_digits, decimals_of, has_sign}
use Rattle.pw_picture.specs.Symbols.{begins_with}
use Rattle.pw_code.specs.Entry.{EntryLineModel}
use Rattle.pw_code.specs.Fields.{is_text}
use Rattle.pw_code.specs.declared.field.Field.{Field}
use Rattle.pw_code.specs.declared.field.FieldKind.{FieldKind}
use Rattle.pw_code.specs.declared.field.FieldKind.TheVariants.{Literal, Item}
use Rattle.pw_code.specs.declared.field.ScreenTable.{ScreenTable}
use Rattle.pw_terminal.specs.Screen.{with_message}
use Rattle.pw_terminal.specs.declared.entries.EntryAnswer.{EntryAnswer}
use Rattle.pw_terminal.specs.declared.entries.EntryAnswer.TheVariants.{Valid, BadKey, BadField}

-- what is behind a sign in front, where there is one
abbrev pub behind_sign : List ℕ → List ℕ
behind_sign [] = []
behind_sign (first ∷ rest) = if first == plus_sign || first == hyphen then rest else first ∷ rest

-- how many decimals a number has behind its whole digits: none, or the digits behind a point
abbrev pub decimals_in : List ℕ → Option ℕ
decimals_in [] = Some 0
decimals_in (point ∷ digits) = if point == full_stop && list_all is_ascii_digit digits then Some (length digits) else None

-- how many digits a number has before and behind its point: an optional sign, then digits with
-- an optional point
abbrev pub digits_in : List ℕ → Option (ℕ × ℕ)
digits_in value =
    let body = behind_sign value in
    let whole = length (take_while is_ascii_digit body) in
    option_map (λ decimals. (whole, decimals)) (decimals_in (drop whole body))

-- there is a digit, and no more on either side of the point than the picture has
abbrev pub has_room : Picture → Option (ℕ × ℕ) → Bool
has_room picture None = false
has_room picture (Some digits) =
    nat_le 1 (digits.0 + digits.1) && (nat_le digits.0 (whole_digits picture) && nat_le digits.1 (decimals_of picture))

-- a number for a field of this picture, with `-` only where that has a sign
abbrev pub is_number_for : Picture → List ℕ → Bool
is_number_for picture value = has_room picture (digits_in value) && (has_sign picture || not (begins_with hyphen value))

-- a value that a field may be given: not longer than the field, and, where that is no Text,
-- empty or a number for it
abbrev pub is_value_for : FieldKind → List ℕ → Bool
is_value_for (Literal text) value = false
is_value_for (Item picture at source show) value =
    nat_le (length value) (size_of picture) && (is_text picture || (length value == 0 || is_number_for picture value))

-- the field takes entries under this name, in either case; FILLER has no name
abbrev pub is_entry_field : List ℕ → Field → Bool
is_entry_field name field = field.takes && (not (length name == 0) && str_eq_ignore_ascii_case field.name name)

-- an entry field has the pair's name and may be given its value
abbrev pub is_right : List Field → List ℕ × List ℕ → Bool
is_right fields pair = list_any (λ field. is_entry_field pair.0 field && is_value_for field.shown pair.1) fields

-- a pair that no field takes
abbrev pub is_wrong : List Field → List ℕ × List ℕ → Bool
is_wrong fields pair = not (is_right fields pair)

-- the key's first position in the list, counted from 1, or what is wrong first: the key, then a
-- pair, counted from 0
abbrev pub answer_of : Option ℕ → Option ℕ → EntryAnswer
answer_of None wrong = BadKey
answer_of (Some place) None = Valid (place + 1)
answer_of (Some place) (Some wrong) = BadField wrong

-- the answer to an entry for a screen that waits for these keys
abbrev pub check : ScreenTable → List ℕ → EntryLineModel → EntryAnswer
check table keys entry = answer_of (position (λ key. key == entry.key) keys) (position (is_wrong table.fields) entry.fields)

-- the name of a pair, and none past the last
abbrev pub entry_pair_name : Option (List ℕ × List ℕ) → List ℕ
entry_pair_name None = []
entry_pair_name (Some pair) = pair.0

-- the cells after the answer was told: row 24 says what is wrong
abbrev pub with_advice : EntryAnswer → EntryLineModel → List ℕ → List ℕ
with_advice (Valid position) entry cells = cells
with_advice BadKey entry cells = with_message (codes "INVALID KEY") cells
with_advice (BadField place) entry cells = with_message (codes "INVALID FIELD " ++ entry_pair_name (slice_get entry.fields place)) cells
