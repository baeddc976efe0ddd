-- All occurrences of all items lie within the storage.
use Rattle.std.proofs.Common.{◌≡◌, ℕ, zero, suc, ◌+◌, ◌-◌, ◌*◌, ◌≤◌, max, List, ◌++◌, length, All, Option, Some, None, refl, ap, ◌∙◌, arith}
use Rattle.std.specs.Prelude.{unwrap_or}
use Rattle.std.proofs.lemmas.List.Elements.{All-nil, All-cons, All-append, All-same}
use Rattle.pw_base.specs.Limits.{most_storage}
use Rattle.pw_data.specs.declared.entry.Entry.{Entry}
use Rattle.pw_data.specs.declared.item.ItemTable.{ItemTable}
use Rattle.pw_data.specs.declared.item.Item.{Item}
use Rattle.pw_data.specs.Tree.{Forest, Empty, Node, forest}
use Rattle.pw_data.specs.Laid.{times, size_in, too_large, table_of, item_of, items_in, chars_in}
use Rattle.pw_data.specs.Layouts.{EndsBy, FitsPicture, IsSoundStorage, no_table}
use Rattle.pw_data.proofs.Sizes.{too_large-none}

-- where the last of several occurrences ends
last_end : (at n size : ℕ) → 1 ≤ n → at + (n - 1) * size + size ≡ at + n * size
last_end at zero size some = absurd (omega arith)
last_end at (suc m) size some =
    let less : suc m - 1 ≡ m = omega arith in
    ap (λ k. at + k * size + size) less ∙ omega arith

-- where the last occurrence of an entry ends, by its OCCURS; before: from the first occurrence of the table around it to the last
own_end : (at size before : ℕ) (around : ItemTable) (occurs : Option ℕ) → before ≡ (max around.occurs 1 - 1) * around.step
    → at + (max (table_of around occurs size).occurs 1 - 1) * (table_of around occurs size).step + size ≤ at + before + max (unwrap_or occurs 1) 1 * size
own_end at size before around None before_is = omega (arith, before_is)
own_end at size before around (Some n) before_is = omega (arith, last_end at (max n 1) size (omega arith))

-- the items of trees that end by a place
pub items-end : (text : List ℕ) (end at : ℕ) (around : ItemTable) (f : Forest) → at + (max around.occurs 1 - 1) * around.step + size_in f ≤ end → All (EndsBy end) (items_in text at around f)
items-end text end at around Empty fits = All-nil (EndsBy end)
items-end text end at around (Node e ms r) fits =
    let size : ℕ = e.size + size_in ms in
    let own : ItemTable = table_of around e.occurs size in
    let before : ℕ = (max around.occurs 1 - 1) * around.step in
    let last : at + (max own.occurs 1 - 1) * own.step + size ≤ at + before + times e * size = own_end at size before around e.occurs refl in
    All-cons (EndsBy end) (item_of text at size own e) (items_in text at own ms ++ items_in text (at + times e * size) around r) (omega (arith, last))
    (All-append (EndsBy end) (items_in text at own ms) (items_in text (at + times e * size) around r)
    (items-end text end at own ms (omega (arith, last))) (items-end text end (at + times e * size) around r (omega arith)))

-- the layout of entries whose storage is not too large lies within it
pub within-laid : (text : List ℕ) (entries : List Entry) (items : List Item) (storage : List ℕ) → items ≡ items_in text 0 no_table (forest entries) → storage ≡ chars_in text (forest entries)
    → length (chars_in text (forest entries)) ≡ size_in (forest entries) → too_large 0 (forest entries) ≡ None → All FitsPicture (items_in text 0 no_table (forest entries)) → IsSoundStorage items storage
within-laid text entries items storage items_is storage_is size_is small fit =
    let fits : size_in (forest entries) ≤ most_storage = omega (arith, too_large-none 0 (forest entries) (omega arith) small) in
    let long : length storage ≡ size_in (forest entries) = ap length storage_is ∙ size_is in
    (All-same (EndsBy (length storage)) items (items_in text 0 no_table (forest entries)) items_is (items-end text (length storage) 0 no_table (forest entries) (omega arith)), All-same FitsPicture items (items_in text 0 no_table (forest entries)) items_is fit, omega arith)
