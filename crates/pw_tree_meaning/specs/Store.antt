-- The store of a program: each elementary item by its occurrence, with its characters, in the order
-- in which they lie.
use Rattle.std.specs.Prelude.{ℕ, zero, suc, ◌+◌, ◌-◌, ◌*◌, ◌/◌, ◌%◌, ◌==◌, ◌&&◌, nat_le, nat_lt, Bool, List, [], ◌∷◌, ◌++◌, length, take, drop, Option, None, is_some, option_map, if◌then◌else◌}
use Rattle.pw_picture.specs.declared.picture.Picture.{Picture}
use Rattle.pw_picture.specs.Text.{fitted}
use Rattle.pw_data.specs.Entries.{picture_of_kind}
use Rattle.pw_data.specs.Store.{Cell}
use Rattle.pw_data.specs.declared.item.Item.{Item}
use Rattle.pw_tree_meaning.specs.Program.{Program}

-- the elementary items of a program with their characters
abbrev pub Store : Type 0
Store = List Cell

-- where one occurrence of an item lies, and its picture; a group has none
pub record Spot : Type 0 where
  pub at : ℕ
  pub size : ℕ
  pub picture : Option Picture

-- the spot of an occurrence, from 1, of an item
abbrev pub spot_of : Item → ℕ → Spot
spot_of item occurrence = record {
  at = item.at + (occurrence - 1) * item.step;
  size = item.size;
  picture = option_map picture_of_kind item.kind;
}

-- what lies nowhere
abbrev pub no_spot : Spot
no_spot = record { at = 0; size = 0; picture = None }

-- what begins at a place lies in the spot
abbrev pub lies_in : Spot → ℕ → Bool
lies_in spot place = nat_le spot.at place && nat_lt place (spot.at + spot.size)

-- the characters of what lies in a spot, joined, where the first cell begins at a place
abbrev pub chars_from : Spot → ℕ → Store → List ℕ
chars_from spot place [] = []
chars_from spot place (cell ∷ cells) =
    (if lies_in spot place then cell.chars else [])
    ++ chars_from spot (place + length cell.chars) cells

-- the characters of an item: those of a group are the ones of its items joined
abbrev pub chars_at : Spot → Store → List ℕ
chars_at spot store = chars_from spot 0 store

-- the store with characters dealt out over what lies in a spot: each cell takes as many as it has
abbrev pub put_from : Spot → List ℕ → ℕ → Store → Store
put_from spot chars place [] = []
put_from spot chars place (cell ∷ cells) =
    let size = length cell.chars in
    if lies_in spot place
    then record cell { chars = fitted size chars }
    ∷ put_from spot (drop size chars) (place + size) cells
    else cell ∷ put_from spot chars (place + size) cells

-- the store with these characters in an item
abbrev pub put_at : Spot → List ℕ → Store → Store
put_at spot chars store = put_from spot chars 0 store

-- ---- the initial store

-- an occurrence of an item begins so many characters behind its first one
abbrev pub is_offset : ℕ → Item → Bool
is_offset offset item =
    if item.occurs == 0 then offset == 0
    else offset % item.step == 0 && nat_lt (offset / item.step) item.occurs

-- the number of the occurrence that begins there
abbrev pub occurrence_at : ℕ → Item → ℕ
occurrence_at offset item = if item.occurs == 0 then 1 else offset / item.step + 1

-- an occurrence of an elementary item begins at a place
abbrev pub begins_at : ℕ → Item → Bool
begins_at place item =
    is_some item.kind && (nat_le item.at place && is_offset (place - item.at) item)

-- the cell that begins at a place, by the items from a number on, where these characters stand from
-- the place on
abbrev pub cell_at : ℕ → List ℕ → ℕ → List Item → Cell
cell_at place chars number [] = record { item = 0; occurrence = 1; chars = take 1 chars }
cell_at place chars number (item ∷ items) =
    if begins_at place item
    then
    record {
      item = number;
      occurrence = occurrence_at (place - item.at) item;
      chars = take item.size chars;
    }
    else cell_at place chars (number + 1) items

-- a storage from a place on, cut into the cells of items; skip: how many characters are those of
-- the cell before
abbrev pub cells_from : List Item → ℕ → ℕ → List ℕ → Store
cells_from items place skip [] = []
cells_from items place (suc skip) (char ∷ chars) = cells_from items (place + 1) skip chars
cells_from items place zero (char ∷ chars) =
    let cell = cell_at place (char ∷ chars) 0 items in
    cell ∷ cells_from items (place + 1) (length cell.chars - 1) chars

-- the store with which a program starts
abbrev pub initial_store : Program → Store
initial_store program = cells_from program.layout.items 0 0 program.layout.storage
