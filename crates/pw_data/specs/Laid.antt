-- The storage of items: where each lies, and the characters with which it begins.
use Rattle.std.specs.Prelude.{ℕ, ◌+◌, ◌*◌, max, pos, List, [], ◌∷◌, ◌++◌, nat_lt, Option, Some, None, unwrap_or, option_and_then, if◌then◌else◌}
use Rattle.std.specs.List.{repeat}
use Rattle.pw_base.specs.declared.fault_code.FaultCode.TheVariants.{StorageTooLarge}
use Rattle.pw_base.specs.declared.fault.Fault.{Fault}
use Rattle.pw_number.specs.Number.{Number, number}
use Rattle.pw_picture.specs.declared.picture.Picture.{Picture}
use Rattle.pw_picture.specs.declared.picture.Picture.TheVariants as picture
use Rattle.pw_picture.specs.Stored.{moved}
use Rattle.pw_picture.specs.Text.{fitted}
use Rattle.pw_base.specs.Limits.{most_storage}
use Rattle.pw_data.specs.declared.literal.Literal.{Literal}
use Rattle.pw_data.specs.declared.literal.Literal.TheVariants as literal
use Rattle.pw_data.specs.declared.entry.Entry.{Entry}
use Rattle.pw_data.specs.declared.item.ItemTable.{ItemTable}
use Rattle.pw_data.specs.declared.item.Item.{Item}
use Rattle.pw_data.specs.Literals.{literal_of}
use Rattle.pw_data.specs.Entries.{picture_at, kind_at}
use Rattle.pw_data.specs.Names.{name_of}
use Rattle.pw_data.specs.Tree.{Forest, Empty, Node}

-- how often an entry stands: its OCCURS, and at least once
abbrev pub times : Entry → ℕ
times entry = max (unwrap_or entry.occurs 1) 1

-- the size of all that trees hold: a group is as long as its members
abbrev pub size_in : Forest → ℕ
size_in Empty = 0
size_in (Node entry members behind) = times entry * (entry.size + size_in members) + size_in behind

-- StorageTooLarge at the first entry that begins an item and with which the storage is too large. before: the size of those before.
abbrev pub too_large : ℕ → Forest → Option Fault
too_large before Empty = None
too_large before (Node entry members behind) =
    let size = before + times entry * (entry.size + size_in members) in
    if nat_lt most_storage size then Some (record { line = entry.line; code = StorageTooLarge }) else too_large size behind

-- the table in which an entry stands, of occurrences of a size: that of its own OCCURS, or the one around it
abbrev pub table_of : ItemTable → Option ℕ → ℕ → ItemTable
table_of around None size = around
table_of around (Some occurs) size = record { occurs = occurs; step = size }

-- the item of an entry that lies at a place and has a size
abbrev pub item_of : List ℕ → ℕ → ℕ → ItemTable → Entry → Item
item_of text at size table entry = record {
  name = name_of text entry;
  level = entry.level;
  linked = entry.linked;
  kind = kind_at text entry;
  at = at;
  size = size;
  occurs = table.occurs;
  step = table.step;
}

-- the items of trees from a place on, one behind the other, in the order of their entries
abbrev pub items_in : List ℕ → ℕ → ItemTable → Forest → List Item
items_in text at around Empty = []
items_in text at around (Node entry members behind) =
    let size = entry.size + size_in members in
    let table = table_of around entry.occurs size in
    item_of text at size table entry
    ∷ (items_in text at table members ++ items_in text (at + times entry * size) around behind)

-- the characters of a VALUE that is a text
abbrev pub text_in : Option Literal → List ℕ
text_in None = []
text_in (Some (literal.Text chars)) = chars
text_in (Some (literal.Number n)) = []

-- the number of a VALUE that is one, and else zero
abbrev pub initial_number : Option Literal → Number
initial_number None = number (pos 0) 0
initial_number (Some (literal.Text chars)) = number (pos 0) 0
initial_number (Some (literal.Number n)) = n

-- the characters with which an item of a picture begins: its VALUE as MOVE puts it, and without one spaces or zero
abbrev pub initial_by : Option Literal → Option Picture → List ℕ
initial_by value None = []
initial_by value (Some (picture.Text size)) = fitted size (text_in value)
initial_by value (Some (picture.Number digits places signed)) =
    moved (picture.Number digits places signed) (initial_number value)
initial_by value (Some (picture.Edited symbols)) = []

-- the characters with which an entry's item begins, and none for a group
abbrev pub initial : List ℕ → Entry → List ℕ
initial text entry =
    initial_by (option_and_then (literal_of text) entry.clauses.value) (picture_at text entry.clauses.picture)

-- the characters with which trees begin: an item repeats by its OCCURS
abbrev pub chars_in : List ℕ → Forest → List ℕ
chars_in text Empty = []
chars_in text (Node entry members behind) =
    repeat (times entry) (initial text entry ++ chars_in text members) ++ chars_in text behind
