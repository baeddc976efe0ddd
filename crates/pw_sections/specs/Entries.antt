-- The entry lines of a terminal.
use Rattle.std.specs.Prelude.{ℕ, ◌+◌, List, [], ◌∷◌, ◌++◌, length, take, drop, Bool, false, not, ◌&&◌, ◌||◌, ◌==◌, nat_le, codes, position, Option, None, Some, option_map, option_and_then, Result, Ok, if◌then◌else◌}
use Rattle.std.specs.List.{list_any}
use Rattle.std.specs.Str.{bytes_eq}
use Rattle.pw_base.specs.Characters.{equals_sign, quotation_mark, space}
use Rattle.pw_base.specs.declared.fault.Fault.{Fault}
use Rattle.pw_base.specs.declared.fault_code.FaultCode.TheVariants.{BadEntry, TooMany}
use Rattle.pw_code.specs.Entry.{EntryLineModel}
use Rattle.pw_code.specs.Limits.{most_entry_lines, most_pairs}
use Rattle.pw_sections.specs.Lines.{lines, in_front}
use Rattle.pw_sections.specs.Steps.{refused, or_refused, ◌>>=◌, each_line}
use Rattle.pw_sections.specs.Words.{name_in}

-- the keys, F1 to F16 and SF1 to SF16
abbrev pub keys : List (List ℕ)
keys =
    codes "F1" ∷ codes "F2" ∷ codes "F3" ∷ codes "F4" ∷ codes "F5" ∷ codes "F6" ∷ codes "F7" ∷ codes "F8" ∷
    codes "F9" ∷ codes "F10" ∷ codes "F11" ∷ codes "F12" ∷ codes "F13" ∷ codes "F14" ∷ codes "F15" ∷ codes "F16" ∷
    codes "SF1" ∷ codes "SF2" ∷ codes "SF3" ∷ codes "SF4" ∷ codes "SF5" ∷ codes "SF6" ∷ codes "SF7" ∷ codes "SF8" ∷
    codes "SF9" ∷ codes "SF10" ∷ codes "SF11" ∷ codes "SF12" ∷ codes "SF13" ∷ codes "SF14" ∷ codes "SF15" ∷ codes "SF16" ∷ []

-- the number of a key, from 1
abbrev pub key_of : List ℕ → Option ℕ
key_of word = option_map (λ place. place + 1) (position (λ key. bytes_eq key word) keys)

-- the parts of a line between the spaces that stand in no text; a quote begins a text or ends it
unfoldable pub parts : Bool → List ℕ → List (List ℕ)
parts in_text [] = [] ∷ []
parts in_text (b ∷ rest) =
    if b == space && not in_text then [] ∷ parts false rest
    else in_front b (parts (if b == quotation_mark then not in_text else in_text) rest)

-- how many bytes stand before the first space that stands in no text
unfoldable pub part_size : Bool → List ℕ → ℕ
part_size in_text [] = 0
part_size in_text (b ∷ rest) =
    if b == space && not in_text then 0 else part_size (if b == quotation_mark then not in_text else in_text) rest + 1

-- the parts of what stands behind a part, if anything does
abbrev pub parts_behind : Option (List ℕ) → List (List ℕ)
parts_behind None = []
parts_behind (Some rest) = parts false rest

-- the value of a text behind its first quote: each doubled quote is one, and the last byte is the quote that ends it
unfoldable pub quoted : List ℕ → Option (List ℕ)
quoted [] = None
quoted (b ∷ []) = if b == quotation_mark then Some [] else None
quoted (b ∷ c ∷ rest) =
    if b == quotation_mark then (if c == quotation_mark then option_map (λ text. quotation_mark ∷ text) (quoted rest) else None)
    else option_map (λ text. b ∷ text) (quoted (c ∷ rest))

-- the next byte of such a value, and what is behind it; none at its end
abbrev pub next_quoted : List ℕ → Option (ℕ × List ℕ)
next_quoted [] = None
next_quoted (b ∷ []) = None
next_quoted (b ∷ c ∷ rest) = if b == quotation_mark then (if c == quotation_mark then Some (quotation_mark, rest) else None) else Some (b, c ∷ rest)

-- the value that stands behind a name and `=`: a text in quotes, or bytes without a quote
abbrev pub value_of : List ℕ → Option (List ℕ)
value_of [] = Some []
value_of (b ∷ rest) = if b == quotation_mark then quoted rest else (if list_any (λ c. c == quotation_mark) (b ∷ rest) then None else Some (b ∷ rest))

-- a pair of a name and a value
abbrev pub NameValue : Type 0
NameValue = List ℕ × List ℕ

-- both, where both are there
abbrev pub both : Option (List ℕ) → Option (List ℕ) → Option NameValue
both (Some name) (Some value) = Some (name, value)
both _ _ = None

-- the pair that a part is, whose first `=` stands at a place
abbrev pub pair_at : List ℕ → Option ℕ → Option NameValue
pair_at part None = None
pair_at part (Some place) = both (name_in (take place part)) (value_of (drop (place + 1) part))

-- the pair `name=value` that a part is
abbrev pub name_value_pair : List ℕ → Option NameValue
name_value_pair part = pair_at part (position (λ b. b == equals_sign) part)

-- the name stands already
abbrev pub has_field : List NameValue → List ℕ → Bool
has_field fields name = list_any (λ field. bytes_eq field.0 name) fields

-- the pairs with one more, if it may stand behind them
abbrev pub with_pair : List NameValue → Option NameValue → Option (List NameValue)
with_pair fields None = None
with_pair fields (Some pair) =
    if has_field fields pair.0 || nat_le most_pairs (length fields) then None else Some (fields ++ pair ∷ [])

-- the pairs of some parts, behind those before
unfoldable pub pairs_of : List NameValue → List (List ℕ) → Option (List NameValue)
pairs_of fields [] = Some fields
pairs_of fields (part ∷ rest) = option_and_then (λ more. pairs_of more rest) (with_pair fields (name_value_pair part))

-- an entry, where it has a key and its pairs
abbrev pub entry_with : Option ℕ → Option (List NameValue) → Option EntryLineModel
entry_with (Some key) (Some fields) = Some (record { key = key; fields = fields })
entry_with _ _ = None

-- the entry of these parts: a key, and pairs
abbrev pub entry_by : List (List ℕ) → Option EntryLineModel
entry_by [] = None
entry_by (word ∷ rest) = entry_with (key_of word) (pairs_of [] rest)

-- the entry that a line is
abbrev pub entry_of : List ℕ → Option EntryLineModel
entry_of line = entry_by (parts false line)

-- a terminal has not too many entries
abbrev pub with_entry : ℕ → List EntryLineModel → EntryLineModel → Result (List EntryLineModel) Fault
with_entry number entries entry =
    if nat_le most_entry_lines (length entries) then refused number TooMany else Ok (entries ++ entry ∷ [])

-- the entry of a line behind the others
abbrev pub entry_read : ℕ → List EntryLineModel → List ℕ → Result (List EntryLineModel) Fault
entry_read number entries line = or_refused number BadEntry (entry_of line) >>= (λ entry. with_entry number entries entry)

-- the entries of a text whose first line has a number
abbrev pub entries_of : List ℕ → ℕ → Result (List EntryLineModel) Fault
entries_of text first_line = each_line entry_read first_line [] (lines text)
