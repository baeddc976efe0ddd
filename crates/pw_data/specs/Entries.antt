-- What is read off the tokens of one entry.
use Rattle.std.specs.Option.{ForSome}
use Rattle.std.specs.Prelude.{◌≡◌, ℕ, List, [], ◌∷◌, ◌++◌, flat_map, Bool, true, false, not, ◌&&◌, ◌||◌, nat_le, ◌==◌, is_some, codes, Option, Some, None, unwrap_or, option_map, option_and_then, option_to_list, slice_get, if◌then◌else◌}
use Rattle.std.specs.List.{list_any}
use Rattle.pw_base.specs.declared.fault_code.FaultCode.{FaultCode}
use Rattle.pw_base.specs.declared.fault_code.FaultCode.TheVariants.{BadDataEntry, BadPicture, NameTwice}
use Rattle.pw_base.specs.Limits.{most_occurrences}
use Rattle.pw_base.specs.declared.fault.Fault.{Fault}
use Rattle.pw_picture.specs.declared.picture.Picture.{Picture}
use Rattle.pw_picture.specs.declared.picture.Picture.TheVariants as picture
use Rattle.pw_picture.specs.Grammar.{IsPicture, picture_of, size_of}
use Rattle.pw_text.specs.declared.token.TokenKind.TheVariants as kind_of_token
use Rattle.pw_text.specs.declared.token.Token.{Token}
use Rattle.pw_text.specs.Cursor.{Left, has_kind, spelling, is_the_word, behind}
use Rattle.pw_data.specs.declared.literal.Literal.{Literal}
use Rattle.pw_data.specs.declared.item.ItemKind.{ItemKind}
use Rattle.pw_data.specs.declared.item.ItemKind.TheVariants as kind
use Rattle.pw_data.specs.declared.reading.EntryParts.{EntryParts}
use Rattle.pw_data.specs.declared.entry.Entry.{Entry}
use Rattle.pw_data.specs.Parts.{left_of, is_table_word, Part}
use Rattle.pw_data.specs.Literals.{whole_number, literal_of, picture_holds}
use Rattle.pw_data.specs.Clauses.{no_clauses, clauses_in}

-- the level that a number is: 01 to 49 and 77 are levels
abbrev pub level_of : ℕ → Option ℕ
level_of n = if (nat_le 1 n && nat_le n 49) || n == 77 then Some n else None

-- the level that a token is
abbrev pub level_in : List ℕ → Token → Option ℕ
level_in text token =
    if has_kind kind_of_token.Number token then option_and_then level_of (whole_number (spelling text token)) else None

-- the token may be a name: a word, but in requesters not $RECEIVE
abbrev pub is_data_name_token : Bool → List ℕ → Token → Bool
is_data_name_token server text token =
    has_kind kind_of_token.Word token && (server || not (is_the_word text (codes "$RECEIVE") token))

-- the name that a token is, where it may be one
abbrev pub data_name_token : Bool → List ℕ → Token → Option Token
data_name_token server text token = if is_data_name_token server text token then Some token else None

-- the level, the name and the clauses of an entry, each where it has its form
abbrev pub reading_of : Bool → Left → EntryParts
reading_of server left =
    record {
      level = option_and_then (level_in left.text) (slice_get left.tokens 0);
      name = option_and_then (data_name_token server left.text) (slice_get left.tokens 1);
      clauses = clauses_in (behind 2 left);
    }

-- the entry is a level, a name and clauses up to its period
abbrev pub has_form : EntryParts → Bool
has_form reading = is_some reading.level && (is_some reading.name && is_some reading.clauses)

-- the picture that a token is, where there is one
abbrev pub picture_at : List ℕ → Option Token → Option Picture
picture_at text token = option_and_then (λ t. picture_of (spelling text t)) token

-- the token stands for a picture and is none
abbrev pub is_bad_picture : List ℕ → Token → Bool
is_bad_picture text token = has_kind kind_of_token.Picture token && not (is_some (picture_of (spelling text token)))

-- a name other than FILLER
abbrev pub proper_name : List ℕ → Token → Option Token
proper_name text token = if is_the_word text (codes "FILLER") token then None else Some token

-- the name is a table word
abbrev pub has_table_name : Bool → List ℕ → Option Token → Bool
has_table_name server text None = false
has_table_name server text (Some name) = is_table_word server (spelling text name)

-- the number of occurrences that a number is: 1 to 1,000
abbrev pub count_of : ℕ → Option ℕ
count_of n = if nat_le 1 n && nat_le n most_occurrences then Some n else None

-- the number of an OCCURS, where it is one
abbrev pub count_at : List ℕ → Option Token → Option ℕ
count_at text token = option_and_then (λ t. option_and_then count_of (whole_number (spelling text t))) token

-- the size of an item of the picture, and none without one
abbrev pub size_at : Option Picture → ℕ
size_at None = 0
size_at (Some p) = size_of p

-- the kind of an item with a picture: only an Edited one has none
abbrev pub kind_of : Picture → Option ItemKind
kind_of (picture.Text size) = Some (kind.Text size)
kind_of (picture.Number digits places signed) = Some (kind.Number digits places signed)
kind_of (picture.Edited symbols) = None

-- the entry of a level
abbrev pub entry_with : List ℕ → Bool → ℕ → EntryParts → ℕ → Entry
entry_with text linked line reading level =
    let clauses = unwrap_or reading.clauses no_clauses in
    record {
      line = line;
      level = level;
      linked = linked;
      name = option_and_then (proper_name text) reading.name;
      clauses = clauses;
      kind = option_and_then kind_of (picture_at text clauses.picture);
      size = size_at (picture_at text clauses.picture);
      occurs = count_at text clauses.occurs;
    }

-- the line of the first token
abbrev pub line_of : List Token → ℕ
line_of [] = 0
line_of (token ∷ behind) = token.line

-- the entry that the tokens are, where they have a level; where the clauses have another form, it has none
abbrev pub data_entry_of : Bool → List ℕ → Part → Option Entry
data_entry_of server text part =
    let reading = reading_of server (left_of text part.tokens) in
    option_map (entry_with text part.linked (line_of part.tokens) reading) reading.level

-- 01 and 77 begin an item
abbrev pub begins_item : Entry → Bool
begins_item entry = entry.level == 1 || entry.level == 77

-- the entry has a picture, be it a good one or not
abbrev pub has_picture : Entry → Bool
has_picture entry = is_some entry.clauses.picture

-- the entry has a VALUE
abbrev pub has_value : Entry → Bool
has_value entry = is_some entry.clauses.value

-- the entry has an OCCURS, be its number a good one or not
abbrev pub has_occurs : Entry → Bool
has_occurs entry = is_some entry.clauses.occurs

-- the kind of an entry's item
abbrev pub kind_at : List ℕ → Entry → Option ItemKind
kind_at text entry = option_and_then kind_of (picture_at text entry.clauses.picture)

-- the picture of a kind
abbrev pub picture_of_kind : ItemKind → Picture
picture_of_kind (kind.Text size) = picture.Text size
picture_of_kind (kind.Number digits places signed) = picture.Number digits places signed

-- the kind is that of a picture that there is
abbrev pub IsKind : ItemKind → Type 0
IsKind k = IsPicture (picture_of_kind k)

-- the entry keeps what its picture says
abbrev pub KeepsPicture : List ℕ → Entry → Type 0
KeepsPicture text entry = (entry.kind ≡ kind_at text entry) × ForSome entry.kind IsKind

-- there is a picture, but it is no Text and no Number: it is Edited, or none
abbrev pub has_no_kind : List ℕ → Entry → Bool
has_no_kind text entry = has_picture entry && not (is_some (kind_at text entry))

-- an item of the picture cannot hold the literal
abbrev pub is_refused : Option Picture → Option Literal → Bool
is_refused None value = false
is_refused (Some p) None = true
is_refused (Some p) (Some value) = not (picture_holds p value)

-- the VALUE may not stand in the entry: it is in LINKAGE, or the picture cannot hold it
abbrev pub is_bad_value : List ℕ → Entry → Option Token → Bool
is_bad_value text entry None = false
is_bad_value text entry (Some token) =
    entry.linked || is_refused (picture_at text entry.clauses.picture) (literal_of text token)

-- an OCCURS at level 01 or 77, or with a number outside 1 to 1,000
abbrev pub is_bad_occurs : Entry → Bool
is_bad_occurs entry = has_occurs entry && (begins_item entry || not (is_some entry.occurs))

-- a picture that is Edited, or an OCCURS or VALUE that may not stand in the entry
abbrev pub has_bad_clause : List ℕ → Entry → Bool
has_bad_clause text entry =
    has_no_kind text entry || (is_bad_occurs entry || is_bad_value text entry entry.clauses.value)

-- a clause of the entry, where there is one, may not stand there
abbrev pub is_bad_entry : List ℕ → Option Entry → Bool
is_bad_entry text None = false
is_bad_entry text (Some entry) = has_bad_clause text entry

-- the fault of a line
abbrev pub fault : ℕ → FaultCode → Fault
fault line code = record { line = line; code = code }

-- a fault of a line, where it is one
abbrev pub data_fault_if : Bool → ℕ → FaultCode → List Fault
data_fault_if is_fault line code = if is_fault then fault line code ∷ [] else []

-- BadPicture for a picture that is none
-- BadDataEntry for an entry of another form, and for a clause that may not stand in it
-- NameTwice for a table word as a name
abbrev pub part_faults : Bool → List ℕ → Part → List Fault
part_faults server text part =
    let reading = reading_of server (left_of text part.tokens) in
    let line = line_of part.tokens in
    data_fault_if (list_any (is_bad_picture text) part.tokens) line BadPicture
    ++ (data_fault_if (not (has_form reading) || is_bad_entry text (data_entry_of server text part)) line BadDataEntry
    ++ data_fault_if (has_table_name server text (option_and_then (proper_name text) reading.name)) line NameTwice)

-- the faults that are read off the entries one by one
abbrev pub faults_of_parts : Bool → List ℕ → List Part → List Fault
faults_of_parts server text parts = flat_map (part_faults server text) parts

-- the entries that have a level
abbrev pub data_entries_of : Bool → List ℕ → List Part → List Entry
data_entries_of server text parts = flat_map (λ part. option_to_list (data_entry_of server text part)) parts
