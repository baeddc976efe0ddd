-- One entry after the other: what the first of some trees says, and what those behind it say.
use Rattle.std.proofs.Common.{◌≡◌, ℕ, ◌+◌, ◌*◌, Bool, true, false, List, [], ◌∷◌, ◌++◌, Option, refl, sym, ap, ◌∙◌, append_assoc}
use Rattle.std.specs.Prelude.{◌||◌}
use Rattle.pw_base.specs.declared.fault_code.FaultCode.{FaultCode}
use Rattle.pw_base.specs.declared.fault_code.FaultCode.TheVariants.{BadDataEntry}
use Rattle.pw_base.specs.declared.fault.Fault.{Fault}
use Rattle.pw_base.specs.First.{fault_noted, least}
use Rattle.pw_base.proofs.FirstFault.{least-append}
use Rattle.pw_data.specs.declared.entry.Entry.{Entry}
use Rattle.pw_data.specs.Entries.{fault, data_fault_if, has_occurs}
use Rattle.std.specs.List.{repeat}
use Rattle.pw_data.specs.declared.item.ItemTable.{ItemTable}
use Rattle.pw_data.specs.declared.item.Item.{Item}
use Rattle.pw_data.specs.Laid.{times, size_in, table_of, item_of, items_in, initial, chars_in}
use Rattle.pw_data.specs.Tree.{Forest, Node, is_group, is_misplaced, tree_faults}

-- a fault that may be one is noted, and the others come behind it
pub least-only_if_front : (is_fault : Bool) (line : ℕ) (code : FaultCode) (known : Option Fault) (faults : List Fault)
    → least known (data_fault_if is_fault line code ++ faults) ≡ least (fault_noted known is_fault (fault line code)) faults
least-only_if_front true line code known faults = refl
least-only_if_front false line code known faults = refl

-- the faults of the first of some trees come in front of those behind it
pub tree_faults-step : (top table : Bool) (known : Option Fault) (entry : Entry) (members behind : Forest)
    → least (least (fault_noted known (is_misplaced top table (is_group members) entry) (fault entry.line BadDataEntry)) (tree_faults false (table || has_occurs entry) members)) (tree_faults top table behind)
    ≡ least known (tree_faults top table (Node entry members behind))
tree_faults-step top table known entry members behind =
    let wrong : Bool = is_misplaced top table (is_group members) entry in
    sym (least-append (fault_noted known wrong (fault entry.line BadDataEntry)) (tree_faults false (table || has_occurs entry) members) (tree_faults top table behind))
    ∙ sym (least-only_if_front wrong entry.line BadDataEntry known (tree_faults false (table || has_occurs entry) members ++ tree_faults top table behind))

-- the items of the first of some trees come in front of those behind it
pub items_in-step : (text : List ℕ) (at : ℕ) (around : ItemTable) (entry : Entry) (members behind : Forest) (before : List Item)
    → let size = entry.size + size_in members in let table = table_of around entry.occurs size in
    ((before ++ item_of text at size table entry ∷ []) ++ items_in text at table members) ++ items_in text (at + times entry * size) around behind
    ≡ before ++ items_in text at around (Node entry members behind)
items_in-step text at around entry members behind before =
    let size : ℕ = entry.size + size_in members in
    let table : ItemTable = table_of around entry.occurs size in
    ap (λ items. items ++ items_in text (at + times entry * size) around behind) (append_assoc before (item_of text at size table entry ∷ []) (items_in text at table members))
    ∙ append_assoc before (item_of text at size table entry ∷ items_in text at table members) (items_in text (at + times entry * size) around behind)

-- the characters of the first of some trees come in front of those behind it
pub chars_in-step : (text : List ℕ) (entry : Entry) (members behind : Forest) (before : List ℕ)
    → (before ++ repeat (times entry) (initial text entry ++ chars_in text members)) ++ chars_in text behind ≡ before ++ chars_in text (Node entry members behind)
chars_in-step text entry members behind before = append_assoc before (repeat (times entry) (initial text entry ++ chars_in text members)) (chars_in text behind)
