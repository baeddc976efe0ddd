-- The store: the characters of each occurrence of each elementary item, and how the storage is tied to it.
use Rattle.std.specs.Prelude.{◌≡◌, ◌⊎◌, ℕ, zero, suc, ◌+◌, ◌-◌, ◌*◌, ◌≤◌, max, List, [], ◌∷◌, ◌++◌, length, slice_get, IsSome, Bool, Option, Some, None}
use Rattle.pw_picture.specs.declared.picture.Picture.{Picture}
use Rattle.pw_text.specs.declared.token.Token.{Token}
use Rattle.pw_data.specs.declared.item.Item.{Item}
use Rattle.pw_data.specs.Entries.{picture_at}
use Rattle.pw_data.specs.Tree.{Forest, Empty, Node, forest}
use Rattle.pw_data.specs.Laid.{times, initial}
use Rattle.pw_data.specs.Layouts.{Laid, entries_in}

-- an elementary item by its place among the items, one of its occurrences from 1 on, and the characters there
pub record Cell : Type 0 where
  pub item : ℕ
  pub occurrence : ℕ
  pub chars : List ℕ

-- the storage of a store: its characters, one cell behind the other
abbrev pub joined : List Cell → List ℕ
joined [] = []
joined (cell ∷ cells) = cell.chars ++ joined cells

-- The cell begins at a place: that of its item, or of the occurrence. It is as long as the item, which is elementary.
pub record LiesAt (items : List Item) (place : ℕ) (cell : Cell) : Type 0 where
  pub item : Item
  pub found : slice_get items cell.item ≡ Some item
  pub elementary : IsSome item.kind
  pub first : 1 ≤ cell.occurrence
  pub last : cell.occurrence ≤ max item.occurs 1
  pub begins : place ≡ item.at + (cell.occurrence - 1) * item.step
  pub long : length cell.chars ≡ item.size

-- the cells lie one behind the other from a place on
abbrev pub LieFrom : List Item → ℕ → List Cell → Type 0
LieFrom items place [] = Unit {0}
LieFrom items place (cell ∷ cells) = LiesAt items place cell × LieFrom items (place + length cell.chars) cells

-- one of two cells ends before the other begins, wherever the two lie
abbrev pub Apart : List Item → Cell → Cell → Type 0
Apart items a b =
    (p q : ℕ) → LiesAt items p a → LiesAt items q b → (p + length a.chars ≤ q) ⊎ (q + length b.chars ≤ p)

-- a cell is apart from each of the others
abbrev pub ApartFrom : List Item → Cell → List Cell → Type 0
ApartFrom items cell [] = Unit {0}
ApartFrom items cell (other ∷ others) = Apart items cell other × ApartFrom items cell others

-- no two of the cells overlap
abbrev pub AreApart : List Item → List Cell → Type 0
AreApart items [] = Unit {0}
AreApart items (cell ∷ cells) = ApartFrom items cell cells × AreApart items cells

-- The cells are a store of the layout: their characters are its storage, and each begins where its item says. So
-- together they cover the storage.
pub record IsStoreOf (layout : Laid) (cells : List Cell) : Type 0 where
  pub storage : joined cells ≡ layout.storage
  pub places : LieFrom layout.items 0 cells

-- how many entries are in trees
abbrev pub entry_count : Forest → ℕ
entry_count Empty = 0
entry_count (Node entry members behind) = 1 + entry_count members + entry_count behind

-- the cells of so many occurrences, from one on
abbrev pub occurrences : (ℕ → List Cell) → ℕ → ℕ → List Cell
occurrences cells from zero = []
occurrences cells from (suc count) = cells from ++ occurrences cells (from + 1) count

-- the cell of an elementary item
abbrev pub cell_by : ℕ → ℕ → List ℕ → Option Picture → List Cell
cell_by item occurrence chars None = []
cell_by item occurrence chars (Some p) = (record { item = item; occurrence = occurrence; chars = chars }) ∷ []

-- the first occurrence of an entry: 1 where it has OCCURS, and else that of what it stands in
abbrev pub first_occurrence : Option ℕ → ℕ → ℕ
first_occurrence None around = around
first_occurrence (Some occurs) around = 1

-- the cells with which trees begin in one occurrence of what they stand in. item: the place of the first entry.
abbrev pub cells_in : List ℕ → ℕ → ℕ → Forest → List Cell
cells_in text item around Empty = []
cells_in text item around (Node entry members behind) =
    occurrences
    (λ occurrence. cell_by item occurrence (initial text entry) (picture_at text entry.clauses.picture)
    ++ cells_in text (item + 1) occurrence members)
    (first_occurrence entry.occurs around) (times entry)
    ++ cells_in text (item + 1 + entry_count members) around behind

-- the store with which the data begin
abbrev pub store_of : List ℕ → List Token → Bool → List Cell
store_of text tokens server = cells_in text 0 1 (forest (entries_in text tokens server))
