-- The cells of a layout lie one behind the other, each where its item says.
use Rattle.std.proofs.Common.{◌≡◌, ℕ, zero, suc, ◌+◌, ◌-◌, ◌*◌, ◌≤◌, max, Bool, true, false, not, List, [], ◌∷◌, ◌++◌, length, Option, Some, None, refl, sym, ap, ◌∙◌, subst, append_assoc, arith, rules, length-append}
use Rattle.std.specs.Prelude.{◌&&◌, ◌||◌, is_some, IsSome, slice_get, unwrap_or, if◌then◌else◌}
use Rattle.std.proofs.lemmas.List.{append-nil}
use Rattle.std.proofs.lemmas.Bool.{or_parts}
use Rattle.pw_base.specs.declared.fault_code.FaultCode.{FaultCode}
use Rattle.pw_base.specs.declared.fault_code.FaultCode.TheVariants.{BadDataEntry}
use Rattle.pw_base.specs.declared.fault.Fault.{Fault}
use Rattle.pw_base.proofs.Plain.{append-none}
use Rattle.pw_picture.specs.declared.picture.Picture.{Picture}
use Rattle.pw_text.specs.declared.token.Token.{Token}
use Rattle.pw_data.specs.declared.entry.Entry.{Entry}
use Rattle.pw_data.specs.declared.item.ItemTable.{ItemTable}
use Rattle.pw_data.specs.declared.item.Item.{Item}
use Rattle.pw_data.specs.Entries.{data_fault_if, picture_at, kind_at, has_picture, has_value, has_occurs, count_at, begins_item}
use Rattle.pw_data.specs.Tree.{Forest, Empty, Node, is_group, is_misplaced, tree_faults}
use Rattle.pw_data.specs.Laid.{times, size_in, table_of, item_of, items_in, initial}
use Rattle.pw_data.specs.Store.{Cell, joined, LiesAt, LieFrom, occurrences, cell_by, cells_in, first_occurrence, entry_count}
use Rattle.pw_data.proofs.Cells.{Good, AllIn, cells_of, length-initial, length-occurrences, length-cells_of}

Lie-at : (items : List Item) (n m : ℕ) (cells : List Cell) → n ≡ m → LieFrom items n cells → LieFrom items m cells
Lie-at items n m cells is lie = subst (λ k. LieFrom items k cells) is lie

Lie-append : (items : List Item) (place : ℕ) (xs ys : List Cell) → LieFrom items place xs → LieFrom items (place + length (joined xs)) ys → LieFrom items place (xs ++ ys)
Lie-append items place [] ys front back = Lie-at items (place + 0) place ys (omega arith) back
Lie-append items place (x ∷ xs) ys front back = (
  front.0,
  Lie-append items (place + length x.chars) xs ys front.1
      (Lie-at items (place + length (x.chars ++ joined xs)) (place + length x.chars + length (joined xs)) ys (omega (arith, length-append x.chars (joined xs))) back),
)

-- the place of the next occurrence
next_place : (place from size long : ℕ) → 1 ≤ from → long ≡ size → place + (from + 1 - 1) * size ≡ place + (from - 1) * size + long
next_place place zero size long some is = absurd (omega arith)
next_place place (suc n) size long some is =
    let now : suc n + 1 - 1 ≡ suc n = omega arith in
    let before : suc n - 1 ≡ n = omega arith in
    ap (λ k. place + k * size) now ∙ omega arith ∙ ap (λ k. place + k * size + long) (sym before)

-- occurrences that each lie at their place lie one behind the other
Lie-occurrences : (items : List Item) (cells : ℕ → List Cell) (place size last : ℕ) → ((k : ℕ) → 1 ≤ k → k ≤ last → LieFrom items (place + (k - 1) * size) (cells k))
    → ((k : ℕ) → length (joined (cells k)) ≡ size) → (from count : ℕ) → 1 ≤ from → from + count ≤ last + 1
    → LieFrom items (place + (from - 1) * size) (occurrences cells from count)
Lie-occurrences items cells place size last each long from zero some within = tt
Lie-occurrences items cells place size last each long from (suc n) some within =
    Lie-append items (place + (from - 1) * size) (cells from) (occurrences cells (from + 1) n) (each from some (omega arith))
    (Lie-at items (place + (from + 1 - 1) * size) _ (occurrences cells (from + 1) n) (next_place place from size (length (joined (cells from))) some (long from))
    (Lie-occurrences items cells place size last each long (from + 1) n (omega arith) (omega arith)))

-- the same of all occurrences of an entry, by its OCCURS
Lie-all : (items : List Item) (cells : ℕ → List Cell) (at size k : ℕ) (around : ItemTable) (occurs : Option ℕ)
    → ((j : ℕ) → 1 ≤ j → j ≤ max (table_of around occurs size).occurs 1 → LieFrom items (at + (j - 1) * (table_of around occurs size).step) (cells j))
    → ((j : ℕ) → length (joined (cells j)) ≡ size) → 1 ≤ k → k ≤ max around.occurs 1 → (is_some occurs ≡ true → k ≡ 1)
    → LieFrom items (at + (k - 1) * around.step) (occurrences cells (first_occurrence occurs k) (max (unwrap_or occurs 1) 1))
Lie-all items cells at size k around None each long first last alone = subst (LieFrom items (at + (k - 1) * around.step)) (sym (append-nil (cells k))) (each k first last)
Lie-all items cells at size k around (Some n) each long first last alone =
    let is : k ≡ 1 = alone refl in
    let none : k - 1 ≡ 0 = omega arith in
    Lie-at items (at + (1 - 1) * size) (at + (k - 1) * around.step) (occurrences cells 1 (max n 1)) (omega arith ∙ ap (λ m. at + m * around.step) (sym none))
    (Lie-occurrences items cells at size (max n 1) each long 1 (max n 1) (omega arith) (omega arith))

pub no_fault : (is_fault : Bool) (line : ℕ) (code : FaultCode) (faults : List Fault) → data_fault_if is_fault line code ++ faults ≡ [] → (is_fault ≡ false) × (faults ≡ [])
no_fault true line code faults none = absurd cc
no_fault false line code faults none = (refl, none)

not_first : (a b : Bool) → b ≡ true → (a && b) ≡ false → a ≡ false
not_first true b is none = absurd cc
not_first false b is none = refl

-- what the place of an entry says where it is no fault: a group has no picture, and an OCCURS stands in no other
pub record Placed (table : Bool) (entry : Entry) (members : Forest) : Type 0 where
  pub plain : is_group members ≡ true → has_picture entry ≡ false
  pub alone : has_occurs entry ≡ true → table ≡ false

plain_by : (entry : Entry) (group : Bool) → (if group then has_picture entry || has_value entry else not (has_picture entry)) ≡ false → group ≡ true → has_picture entry ≡ false
plain_by entry true wrong is = (or_parts (has_picture entry) (has_value entry) wrong).0
plain_by entry false wrong is = absurd cc

pub placed : (top table : Bool) (entry : Entry) (members : Forest) → is_misplaced top table (is_group members) entry ≡ false → Placed table entry members
placed top table entry members wrong =
    let kind : Bool = if is_group members then has_picture entry || has_value entry else not (has_picture entry) in
    let value : Bool = (table || has_occurs entry) && has_value entry in
    let behind_top = (or_parts (top && not (begins_item entry)) (kind || ((table && has_occurs entry) || value)) wrong).1 in
    let parts = or_parts kind ((table && has_occurs entry) || value) behind_top in
    record {
      plain = plain_by entry (is_group members) parts.0;
      alone = λ is. not_first table (has_occurs entry) is (or_parts (table && has_occurs entry) value parts.1).0;
    }

-- an entry with a number of its OCCURS has an OCCURS
pub has_count : (text : List ℕ) (token : Option Token) → is_some (count_at text token) ≡ true → is_some token ≡ true
has_count text None is = absurd cc
has_count text (Some token) is = refl

has_occurs-by : (text : List ℕ) (entry : Entry) → Good text entry → is_some entry.occurs ≡ true → has_occurs entry ≡ true
has_occurs-by text entry good is = has_count text entry.clauses.occurs (ap is_some (sym good.occurs) ∙ is)

-- where the table of an entry is none, there is none around it
table-alone : (text : List ℕ) (entry : Entry) (table : Bool) (around : ItemTable) (size : ℕ) (occurs : Option ℕ) → occurs ≡ entry.occurs → Good text entry
    → (table ≡ false → around.occurs ≡ 0) → (table || has_occurs entry) ≡ false → (table_of around occurs size).occurs ≡ 0
table-alone text entry table around size None is good alone none = alone (or_parts table (has_occurs entry) none).0
table-alone text entry table around size (Some n) is good alone none =
    let has : has_occurs entry ≡ true = has_occurs-by text entry good (ap is_some (sym is)) in
    absurd (cc ((or_parts table (has_occurs entry) none).1))

pub no_members : (members : Forest) → (is_group members ≡ true → ⊥) → members ≡ Empty
no_members Empty none = refl
no_members (Node entry members behind) none = absurd (none refl)

-- a picture comes from a clause
has_picture-by : (text : List ℕ) (token : Option Token) (p : Picture) → picture_at text token ≡ Some p → is_some token ≡ true
has_picture-by text None p is = absurd cc
has_picture-by text (Some token) p is = refl

kind-some : (a b : Bool) → a ≡ true → (a && not b) ≡ false → b ≡ true
kind-some true true is none = refl
kind-some true false is none = absurd cc
kind-some false b is none = absurd cc

IsSome-by : {A : Type 0} (o : Option A) → is_some o ≡ true → IsSome o
IsSome-by None is = absurd cc
IsSome-by (Some x) is = search rules

found-at : (pre post : List Item) (item : Item) → slice_get (pre ++ item ∷ post) (length pre) ≡ Some item
found-at [] post item = refl
found-at (x ∷ pre) post item = found-at pre post item

length-items : (text : List ℕ) (at : ℕ) (around : ItemTable) (f : Forest) → length (items_in text at around f) ≡ entry_count f
length-items text at around Empty = refl
length-items text at around (Node e ms r) =
    let size : ℕ = e.size + size_in ms in
    let table : ItemTable = table_of around e.occurs size in
    omega (arith, length-append (items_in text at table ms) (items_in text (at + times e * size) around r), length-items text at table ms, length-items text (at + times e * size) around r)

-- one occurrence of an entry, by its picture
Lie-one : (text : List ℕ) (items pre post : List Item) (at j : ℕ) (table : ItemTable) (entry : Entry) (members : Forest) (inner : List Item) (p : Option Picture)
    → Good text entry → (is_group members ≡ true → has_picture entry ≡ false) → p ≡ picture_at text entry.clauses.picture → 1 ≤ j → j ≤ max table.occurs 1
    → items ≡ pre ++ (item_of text at (entry.size + size_in members) table entry ∷ inner)
    → LieFrom items (at + (j - 1) * table.step) (cells_in text (length pre + 1) j members)
    → LieFrom items (at + (j - 1) * table.step) (cell_by (length pre) j (initial text entry) p ++ cells_in text (length pre + 1) j members)
Lie-one text items pre post at j table entry members inner None good plain is first last items_is lie = lie
Lie-one text items pre post at j table entry members inner (Some p) good plain is first last items_is lie =
    let has : has_picture entry ≡ true = has_picture-by text entry.clauses.picture p (sym is) in
    let none : members ≡ Empty = no_members members (λ group. absurd (cc (plain group))) in
    let item : Item = item_of text at (entry.size + size_in members) table entry in
    let some : is_some (kind_at text entry) ≡ true = kind-some (has_picture entry) (is_some (kind_at text entry)) has good.kind in
    let size : size_in members ≡ 0 = ap size_in none in
    let cell : LiesAt items (at + (j - 1) * table.step) (record { item = length pre; occurrence = j; chars = initial text entry }) = record {
      item = item;
      found = ap (λ xs. slice_get xs (length pre)) items_is ∙ found-at pre inner item;
      elementary = IsSome-by (kind_at text entry) some;
      first = first;
      last = last;
      begins = refl;
      long = length-initial text entry good ∙ omega arith;
    } in
    (cell, subst (λ ms. LieFrom items (at + (j - 1) * table.step + length (initial text entry)) (cells_in text (length pre + 1) j ms)) (sym none) tt)

-- the cells of trees lie one behind the other
pub Lie-cells : (text : List ℕ) (items pre post : List Item) (top table : Bool) (at k : ℕ) (around : ItemTable) (f : Forest) → AllIn (Good text) f → tree_faults top table f ≡ []
    → 1 ≤ k → k ≤ max around.occurs 1 → (table ≡ false → around.occurs ≡ 0) → items ≡ pre ++ (items_in text at around f ++ post)
    → LieFrom items (at + (k - 1) * around.step) (cells_in text (length pre) k f)
Lie-cells text items pre post top table at k around Empty all none first last alone items_is = tt
Lie-cells text items pre post top table at k around (Node e ms r) all none first last alone items_is =
    let size : ℕ = e.size + size_in ms in
    let own : ItemTable = table_of around e.occurs size in
    let item : Item = item_of text at size own e in
    let inner : List Item = items_in text at own ms in
    let outer : List Item = items_in text (at + times e * size) around r in
    let good : Good text e = all.0 in
    let here = no_fault (is_misplaced top table (is_group ms) e) e.line BadDataEntry (tree_faults false (table || has_occurs e) ms ++ tree_faults top table r) none in
    let deeper = append-none (tree_faults false (table || has_occurs e) ms) (tree_faults top table r) here.1 in
    let fine : Placed table e ms = placed top table e ms here.0 in
    let in_front : items ≡ pre ++ (item ∷ (inner ++ (outer ++ post))) = items_is ∙ ap (λ xs. pre ++ (item ∷ xs)) (append_assoc inner outer post) in
    let behind_item : items ≡ (pre ++ item ∷ []) ++ (inner ++ (outer ++ post)) = in_front ∙ sym (append_assoc pre (item ∷ []) (inner ++ (outer ++ post))) in
    let behind_inner : items ≡ (pre ++ (item ∷ inner)) ++ (outer ++ post) = in_front ∙ sym (append_assoc pre (item ∷ inner) (outer ++ post)) in
    let one_more : length (pre ++ item ∷ []) ≡ length pre + 1 = length-append pre (item ∷ []) in
    let all_more : length (pre ++ (item ∷ inner)) ≡ length pre + 1 + entry_count ms = omega (arith, length-append pre (item ∷ inner), length-items text at own ms) in
    let members : (j : ℕ) → 1 ≤ j → j ≤ max own.occurs 1 → LieFrom items (at + (j - 1) * own.step) (cells_in text (length pre + 1) j ms) =
    λ j j_first j_last. subst (λ n. LieFrom items (at + (j - 1) * own.step) (cells_in text n j ms)) one_more
    (Lie-cells text items (pre ++ item ∷ []) (outer ++ post) false (table || has_occurs e) at j own ms all.1 deeper.0 j_first j_last
    (table-alone text e table around size e.occurs refl good alone) behind_item) in
    let each : (j : ℕ) → 1 ≤ j → j ≤ max own.occurs 1 → LieFrom items (at + (j - 1) * own.step) (cells_of text (length pre) e ms j) =
    λ j j_first j_last. Lie-one text items pre post at j own e ms (inner ++ (outer ++ post)) (picture_at text e.clauses.picture) good fine.plain refl j_first j_last in_front (members j j_first j_last) in
    let alone_k : is_some e.occurs ≡ true → k ≡ 1 = λ has. let outside : around.occurs ≡ 0 = alone (fine.alone (has_occurs-by text e good has)) in omega arith in
    let long : length (joined (occurrences (cells_of text (length pre) e ms) (first_occurrence e.occurs k) (times e))) ≡ times e * size = length-occurrences text (length pre) k e ms good all.1 in
    Lie-append items (at + (k - 1) * around.step) (occurrences (cells_of text (length pre) e ms) (first_occurrence e.occurs k) (times e)) (cells_in text (length pre + 1 + entry_count ms) k r)
    (Lie-all items (cells_of text (length pre) e ms) at size k around e.occurs each (λ j. length-cells_of text (length pre) j e ms good all.1) first last alone_k)
    (Lie-at items (at + times e * size + (k - 1) * around.step) _ (cells_in text (length pre + 1 + entry_count ms) k r) (omega (arith, long))
    (subst (λ n. LieFrom items (at + times e * size + (k - 1) * around.step) (cells_in text n k r)) all_more
    (Lie-cells text items (pre ++ (item ∷ inner)) post top table (at + times e * size) k around r all.2 deeper.1 first last alone behind_inner)))
