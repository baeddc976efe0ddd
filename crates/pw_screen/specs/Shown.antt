-- What a field shows by its clauses, and how many cells it has.
use Rattle.std.specs.Prelude.{◌≡◌, ℕ, ◌+◌, List, length, Bool, true, false, not, ◌&&◌, ◌||◌, is_some, ◌==◌, nat_lt, nat_le, Option, Some, None, option_map, if◌then◌else◌}
use Rattle.pw_picture.specs.declared.picture.Picture.{Picture}
use Rattle.pw_picture.specs.Grammar.{picture_of, size_of}
use Rattle.pw_text.specs.declared.token.Token.{Token}
use Rattle.pw_text.specs.Cursor.{spelling}
use Rattle.pw_data.specs.declared.item.Place.{Place}
use Rattle.pw_data.specs.Literals.{unquoted}
use Rattle.pw_data.specs.Entries.{picture_at}
use Rattle.pw_data.specs.Layouts.{Laid, place_of}
use Rattle.pw_code.specs.declared.field.FieldKind.TheVariants.{Literal, Item}
use Rattle.pw_code.specs.Fields.{is_source_of, HasClauses, cells_of}
use Rattle.pw_screen.specs.declared.clauses.Clauses.{Clauses}
use Rattle.pw_screen.specs.declared.body.At.{At}
use Rattle.pw_screen.specs.declared.shown.Shown.{Shown}
use Rattle.pw_screen.specs.declared.shown.ItemClause.{ItemClause}

-- a clause names an item
abbrev pub names_item : Clauses → Bool
names_item c = is_some c.from || (is_some c.to || is_some c.using)

-- the item of a clause, and what it is for
abbrev pub item_for : Token → Bool → Bool → ItemClause
item_for item show takes = record { item = item; show = show; takes = takes }

-- FROM shows its item, TO takes entries for it, USING does both; there is exactly one of them
abbrev pub only_one : Option Token → Option Token → Option Token → Option ItemClause
only_one (Some item) None None = Some (item_for item true false)
only_one None (Some item) None = Some (item_for item false true)
only_one None None (Some item) = Some (item_for item true true)
only_one _ _ _ = None

-- the item of the only clause for one, where no clause is repeated and it has no subscript
abbrev pub only_item : Clauses → Option ItemClause
only_item c = if c.repeated || c.subscripted then None else only_one c.from c.to c.using

-- the characters of a VALUE
abbrev pub literal_of : List ℕ → Token → List ℕ
literal_of text value = unquoted false (spelling text value)

-- the item at a place, which has a picture and stands in no OCCURS, by a picture for items of its kind
abbrev pub item_with : Picture → ℕ → Bool → Bool → Bool → Option Picture → Option Shown
item_with picture at outside show takes None = None
item_with picture at outside show takes (Some source) =
    if outside && is_source_of picture source
    then Some (record { kind = Item picture at source show; takes = takes })
    else None

-- the item at a place, as a field of a picture has it
abbrev pub item_at : Picture → ItemClause → Option Place → Option Shown
item_at picture one None = None
item_at picture one (Some place) =
    item_with picture place.at (place.occurs == 0) one.show one.takes place.picture

-- an item by its picture
abbrev pub item_by : Laid → List ℕ → ItemClause → Option Picture → Option Shown
item_by laid text one None = None
item_by laid text one (Some picture) = item_at picture one (place_of laid (spelling text one.item))

-- a picture and the item of the only clause for one
abbrev pub item_shown : List ℕ → Laid → Option ItemClause → Option Picture → Option Shown
item_shown text laid None picture = None
item_shown text laid (Some one) picture = item_by laid text one picture

-- a VALUE, where there is no more
abbrev pub literal_shown : Bool → Option (List ℕ) → Option Shown
literal_shown true literal = None
literal_shown false None = None
literal_shown false (Some chars) = Some (record { kind = Literal chars; takes = false })

-- VALUE alone, or a picture and one item
abbrev pub shown_by : List ℕ → Laid → Option Token → Option Token → Bool
    → Option ItemClause → Option Shown
shown_by text laid None (Some value) more one = literal_shown more (Some (literal_of text value))
shown_by text laid (Some picture) None more one =
    item_shown text laid one (picture_of (spelling text picture))
shown_by text laid _ _ more one = None

-- what a field shows, where its clauses go together
abbrev pub shown_of : List ℕ → Laid → Clauses → Option Shown
shown_of text laid c =
    shown_by text laid c.picture c.value (c.repeated || names_item c) (only_item c)

-- the size of the picture, where there is one
abbrev pub size_by : Option Picture → ℕ
size_by None = 0
size_by (Some picture) = size_of picture

-- the length of the text, where there is one
abbrev pub length_by : Option (List ℕ) → ℕ
length_by None = 0
length_by (Some chars) = length chars

-- how many cells a field has by its clauses: those of the first picture, and without one those of the first VALUE
abbrev pub extent_of : List ℕ → Clauses → ℕ
extent_of text c =
    if is_some c.picture then size_by (picture_at text c.picture)
    else length_by (option_map (literal_of text) c.value)

-- so many cells from a row and a column on lie in rows 1 to 23 and columns 1 to 80
abbrev pub is_inside : At → ℕ → Bool
is_inside at cells =
    (nat_le 1 at.row && nat_le at.row 23) && (nat_le 1 at.column && nat_le (at.column + cells) 81)

-- a cell lies outside these rows and columns
abbrev pub is_outside : At → ℕ → Bool
is_outside at cells = nat_lt 0 cells && not (is_inside at cells)

-- what a field shows in a program whose storage has this size, on so many cells
pub record IsShown (storage cells : ℕ) (shown : Shown) : Type 0 where
  pub clauses : HasClauses storage shown.kind shown.takes
  pub size : cells_of shown.kind ≡ cells
