-- The items and their members.
use Rattle.std.specs.Prelude.{List, [], ◌∷◌, ◌++◌, Bool, true, false, not, ◌&&◌, ◌||◌, nat_lt, ◌==◌, if◌then◌else◌}
use Rattle.pw_base.specs.declared.fault_code.FaultCode.TheVariants.{BadDataEntry}
use Rattle.pw_base.specs.declared.fault.Fault.{Fault}
use Rattle.pw_data.specs.declared.entry.Entry.{Entry}
use Rattle.pw_data.specs.declared.tree.Within.{Within}
use Rattle.pw_data.specs.declared.tree.Within.TheVariants as within
use Rattle.pw_data.specs.Entries.{begins_item, has_picture, has_value, has_occurs, data_fault_if}

-- the two stand in one section
abbrev pub same_section : Entry → Entry → Bool
same_section a b = if a.linked then b.linked else not b.linked

-- an entry may belong to another one: its level is larger, and it is no 77
abbrev pub stands_in : Entry → Entry → Bool
stands_in holder entry = not (entry.level == 77) && (nat_lt holder.level entry.level && same_section holder entry)

-- An entry with its members, and what stands behind them beside it. An entry is a group where it has members.
pub data Forest : Type 0 where
  Empty : Forest
  Node : (entry : Entry) → (members : Forest) → (behind : Forest) → Forest

-- those in front that may belong to an entry
abbrev pub inside : Entry → Forest → Forest
inside holder Empty = Empty
inside holder (Node entry members behind) =
    if stands_in holder entry then Node entry members (inside holder behind) else Empty

-- what stands behind those
abbrev pub past : Entry → Forest → Forest
past holder Empty = Empty
past holder (Node entry members behind) =
    if stands_in holder entry then past holder behind else Node entry members behind

-- the trees of entries, from the last entry on: each takes those in front of it that may belong to it, so that each
-- belongs to the nearest one before it with a smaller level
unfoldable pub forest : List Entry → Forest
forest [] = Empty
forest (entry ∷ entries) = Node entry (inside entry (forest entries)) (past entry (forest entries))

-- there are members
abbrev pub is_group : Forest → Bool
is_group Empty = false
is_group (Node entry members behind) = true

-- The place of an entry is a fault: it belongs to none and begins no item; it is a group with a picture or a VALUE; it
-- has no picture and no members; it has an OCCURS inside another OCCURS, or a VALUE under OCCURS.
abbrev pub is_misplaced : Bool → Bool → Bool → Entry → Bool
is_misplaced top table group entry =
    (top && not (begins_item entry))
    || ((if group then has_picture entry || has_value entry else not (has_picture entry))
    || ((table && has_occurs entry) || ((table || has_occurs entry) && has_value entry)))

-- the entries belong to none
abbrev pub is_top : Within → Bool
is_top within.Nothing = true
is_top within.Group = false
is_top within.Table = false

-- the entries are inside an OCCURS
abbrev pub in_table : Within → Bool
in_table within.Nothing = false
in_table within.Group = false
in_table within.Table = true

-- BadDataEntry for each entry whose place is a fault. top: the entries belong to none. table: they are inside an OCCURS.
abbrev pub tree_faults : Bool → Bool → Forest → List Fault
tree_faults top table Empty = []
tree_faults top table (Node entry members behind) =
    data_fault_if (is_misplaced top table (is_group members) entry) entry.line BadDataEntry
    ++ (tree_faults false (table || has_occurs entry) members ++ tree_faults top table behind)
