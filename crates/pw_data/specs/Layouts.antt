-- The layout of the data, or their first fault.
use Rattle.std.specs.Prelude.{◌≡◌, IfSome, ℕ, ◌+◌, ◌-◌, ◌*◌, ◌≤◌, max, length, All, List, [], ◌++◌, Bool, true, false, Option, None, Result, find, option_map}
use Rattle.std.specs.Option.{option_or, ForSome}
use Rattle.pw_base.specs.declared.fault.Fault.{Fault}
use Rattle.pw_base.specs.First.{least, unless}
use Rattle.pw_words.specs.Words.{Word}
use Rattle.pw_text.specs.declared.token.Token.{Token}
use Rattle.pw_picture.specs.Grammar.{IsPicture, size_of}
use Rattle.pw_base.specs.Limits.{most_storage}
use Rattle.pw_data.specs.declared.entry.Entry.{Entry}
use Rattle.pw_data.specs.declared.item.ItemTable.{ItemTable}
use Rattle.pw_data.specs.declared.item.Item.{Item}
use Rattle.pw_data.specs.declared.item.Place.{Place}
use Rattle.pw_data.specs.Parts.{parts_of}
use Rattle.pw_data.specs.Entries.{picture_of_kind, faults_of_parts, data_entries_of}
use Rattle.pw_data.specs.Tree.{forest, tree_faults}
use Rattle.pw_data.specs.Names.{is_this_name, clashes}
use Rattle.pw_data.specs.Laid.{too_large, items_in, chars_in}

-- a layout: its items in the order of their entries, and the characters with which they begin
pub record Laid : Type 0 where
  pub items : List Item
  pub storage : List ℕ

-- the last occurrence of an item ends before a place
abbrev pub EndsBy : ℕ → Item → Type 0
EndsBy end item = item.at + (max item.occurs 1 - 1) * item.step + item.size ≤ end

-- an item with a picture is as long as the picture says
abbrev pub FitsPicture : Item → Type 0
FitsPicture item =
    ForSome item.kind (λ kind. IsPicture (picture_of_kind kind) × (size_of (picture_of_kind kind) ≡ item.size))

-- Every occurrence of every item lies in the storage, which has at most 32,000 characters, and an item with a picture
-- is as long as it says.
abbrev pub IsSoundStorage : List Item → List ℕ → Type 0
IsSoundStorage items storage = All (EndsBy (length storage)) items × All FitsPicture items × (length storage ≤ most_storage)

-- the last occurrence of what lies at a place of the storage ends before another place
abbrev pub PlaceEndsBy : ℕ → Place → Type 0
PlaceEndsBy end place = place.at + (max place.occurs 1 - 1) * place.step + place.size ≤ end

-- what has a picture is as long as the picture says
abbrev pub PlaceFitsPicture : Place → Type 0
PlaceFitsPicture place = IfSome place.picture (λ p. IsPicture p × (size_of p ≡ place.size))

-- where an item lies
abbrev pub place_at : Item → Place
place_at item =
    record {
      at = item.at;
      size = item.size;
      picture = option_map picture_of_kind item.kind;
      occurs = item.occurs;
      step = item.step;
    }

-- where the item of a name lies
abbrev pub place_of : Laid → Word → Option Place
place_of laid name = option_map place_at (find (λ item. is_this_name item.name name) laid.items)

-- outside each OCCURS
abbrev pub no_table : ItemTable
no_table = record { occurs = 0; step = 0 }

-- the layout of entries
abbrev pub laid : List ℕ → List Entry → Laid
laid text entries =
    record { items = items_in text 0 no_table (forest entries); storage = chars_in text (forest entries) }

-- the entries that the tokens are
abbrev pub entries_in : List ℕ → List Token → Bool → List Entry
entries_in text tokens server = data_entries_of server text (parts_of text tokens)

-- the faults of the places and the names of entries
abbrev pub faults_among : List ℕ → List Entry → List Fault
faults_among text entries = tree_faults true false (forest entries) ++ clashes text [] entries

-- the first of the fault that is known and of those among entries, and the size only where there is no other
abbrev pub first_among : List ℕ → Option Fault → List Entry → Option Fault
first_among text known entries = option_or (least known (faults_among text entries)) (too_large 0 (forest entries))

-- the faults of the data but for their size
abbrev pub faults_in : List ℕ → List Token → Bool → List Fault
faults_in text tokens server =
    faults_of_parts server text (parts_of text tokens) ++ faults_among text (entries_in text tokens server)

-- the first fault, and the size only where there is no other
abbrev pub first_fault : List ℕ → List Token → Bool → Option Fault
first_fault text tokens server =
    option_or (least None (faults_in text tokens server)) (too_large 0 (forest (entries_in text tokens server)))

-- the layout of the data, or their first fault
abbrev pub layout_of : List ℕ → List Token → Bool → Result Laid Fault
layout_of text tokens server = unless (first_fault text tokens server) (laid text (entries_in text tokens server))
