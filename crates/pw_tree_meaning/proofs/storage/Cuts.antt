-- Each occurrence of an item is a run of cells of the store.
use Rattle.std.proofs.Common.{◌≡◌, ℕ, zero, suc, ◌+◌, ◌-◌, ◌*◌, ◌<◌, ◌≤◌, max, Bool, true, false, ◌||◌, List, [], ◌∷◌, ◌++◌, length, ◌⊎◌, inl, inr, Option, Some, None, is_some, refl, sym, ap, ◌∙◌, subst, ⊎_elim, append_assoc, arith}
use Rattle.std.specs.Prelude.{unwrap_or}
use Rattle.std.proofs.lemmas.List.{length-append, append-nil}
use Rattle.pw_picture.specs.declared.picture.Picture.{Picture}
use Rattle.pw_data.specs.declared.entry.Entry.{Entry}
use Rattle.pw_data.specs.declared.item.Item.{Item}
use Rattle.pw_data.specs.declared.item.ItemTable.{ItemTable}
use Rattle.pw_data.specs.Entries.{has_occurs, picture_at}
use Rattle.pw_data.specs.Tree.{Forest, Empty, Node}
use Rattle.pw_data.specs.Laid.{times, size_in, table_of, item_of, items_in, initial}
use Rattle.pw_data.specs.Store.{Cell, joined, occurrences, cell_by, cells_in, first_occurrence, entry_count}
use Rattle.pw_data.proofs.Cells.{Good, AllIn, cells_of, length-initial, length-occurrences, length-cells_of, joined-append}
use Rattle.pw_operands.specs.Resolved.{Each}
use Rattle.pw_tree_meaning.proofs.storage.Shaped.{Shaped, ShapedEntry}
use Rattle.pw_tree_meaning.proofs.storage.Places.{inner-alone, counts, each-append, each-map}

-- ---- runs of cells

-- a run of cells: so many characters stand before it, and it has so many
pub record Cut (cells : List Cell) (before long : ℕ) : Type 0 where
  pub front : List Cell
  pub run : List Cell
  pub back : List Cell
  pub is : cells ≡ front ++ (run ++ back)
  pub starts : length (joined front) ≡ before
  pub reaches : length (joined run) ≡ long

cut-behind : (cells more : List Cell) (a n : ℕ) → Cut cells a n → Cut (cells ++ more) a n
cut-behind cells more a n c = record {
  front = c.front;
  run = c.run;
  back = c.back ++ more;
  is = ap (λ xs. xs ++ more) c.is ∙ append_assoc c.front (c.run ++ c.back) more ∙ ap (λ xs. c.front ++ xs) (append_assoc c.run c.back more);
  starts = c.starts;
  reaches = c.reaches;
}

cut-front : (before cells : List Cell) (a b n : ℕ) → length (joined before) ≡ b → Cut cells a n → Cut (before ++ cells) (b + a) n
cut-front before cells a b n long c = record {
  front = before ++ c.front;
  run = c.run;
  back = c.back;
  is = ap (λ xs. before ++ xs) c.is ∙ sym (append_assoc before c.front (c.run ++ c.back));
  starts = ap length (joined-append before c.front) ∙ length-append (joined before) (joined c.front) ∙ omega (arith, long, c.starts);
  reaches = c.reaches;
}

cut-at : (cells : List Cell) (a b n : ℕ) → a ≡ b → Cut cells a n → Cut cells b n
cut-at cells a b n e c = let P : ℕ → Type 0 = λ k. Cut cells k n in subst P e c

cut-all : (cells : List Cell) (n : ℕ) → length (joined cells) ≡ n → Cut cells 0 n
cut-all cells n long = record { front = []; run = cells; back = []; is = sym (append-nil cells); starts = refl; reaches = long }

-- a run of one of some occurrences
cut-one : (cells : ℕ → List Cell) (size : ℕ) → ((k : ℕ) → length (joined (cells k)) ≡ size) → (d from count a n : ℕ) → d < count
    → Cut (cells (from + d)) a n → Cut (occurrences cells from count) (d * size + a) n
cut-one cells size long d from zero a n lt c = absurd (omega (arith, lt))
cut-one cells size long zero from (suc count) a n lt c =
    cut-at _ a (0 * size + a) n (omega arith)
    (cut-behind (cells from) (occurrences cells (from + 1) count) a n (let P : ℕ → Type 0 = λ k. Cut (cells k) a n in subst P (omega arith) c))
cut-one cells size long (suc d) from (suc count) a n lt c =
    cut-at _ (size + (d * size + a)) (suc d * size + a) n (omega arith)
    (cut-front (cells from) (occurrences cells (from + 1) count) (d * size + a) size n (long from)
    (cut-one cells size long d (from + 1) count a n (omega (arith, lt)) (let P : ℕ → Type 0 = λ k. Cut (cells k) a n in subst P (omega arith) c)))

-- ---- the items of trees

-- the occurrences of an item that stand in one repetition of what is around are runs of its cells
abbrev pub Covers : List Cell → ℕ → ℕ → ItemTable → Item → Type 0
Covers cells at k around x =
    (j : ℕ) → 1 ≤ j → j ≤ max x.occurs 1 → (around.occurs ≡ 0) ⊎ (j ≡ k)
    → (o : ℕ) × (x.at + (j - 1) * x.step ≡ at + (k - 1) * around.step + o) × Cut cells o x.size

each-number : (P : ℕ → Item → Type 0) (A B : ℕ → Type 0) (xs : List Item) → ((j : ℕ) → A j → B j → Each (P j) xs) → Each (λ x. (j : ℕ) → A j → B j → P j x) xs
each-number P A B [] f = tt
each-number P A B (x ∷ xs) f = (λ j a b. (f j a b).0, each-number P A B xs (λ j a b. (f j a b).1))

each-map-both : (P Q R : Item → Type 0) (xs : List Item) → ((x : Item) → P x → Q x → R x) → Each P xs → Each Q xs → Each R xs
each-map-both P Q R [] f one two = tt
each-map-both P Q R (x ∷ xs) f one two = (f x one.0 two.0, each-map-both P Q R xs f one.1 two.1)

-- in a table each item has its occurrences
abbrev pub SameTable : ItemTable → Item → Type 0
SameTable around x = (around.occurs ≡ 0) ⊎ (x.occurs ≡ around.occurs)

table-same : (around : ItemTable) (occurs : Option ℕ) (size : ℕ) (x : Item) → (is_some occurs ≡ true → around.occurs ≡ 0) → SameTable (table_of around occurs size) x → SameTable around x
table-same around None size x alone same = same
table-same around (Some n) size x alone same = inl (alone refl)

-- from one repetition to all of an entry
all-cover : (cells : ℕ → List Cell) (at size k : ℕ) (around : ItemTable) (occurs : Option ℕ) (x : Item) → ((j : ℕ) → length (joined (cells j)) ≡ size)
    → (is_some occurs ≡ true → around.occurs ≡ 0) → 1 ≤ k → k ≤ max around.occurs 1 → SameTable (table_of around occurs size) x
    → ((j : ℕ) → 1 ≤ j → j ≤ max (table_of around occurs size).occurs 1 → Covers (cells j) at j (table_of around occurs size) x)
    → Covers (occurrences cells (first_occurrence occurs k) (max (unwrap_or occurs 1) 1)) at k around x
all-cover cells at size k around None x long alone first last same each j low high here =
    let c = each k first last j low high here in
    (c.0, c.1, cut-behind (cells k) [] c.0 x.size c.2)
all-cover cells at size k around (Some n) x long alone first last same each j low high here =
    let none : around.occurs ≡ 0 = alone refl in
    let one : k ≡ 1 = omega (arith, none, first, last) in
    let still : (k - 1) * around.step ≡ 0 = ap (λ m. (m - 1) * around.step) one ∙ omega arith in
    ⊎_elim
    (λ no.
    let c = each 1 (omega arith) (omega arith) j low high (inl no) in
    (0 * size + c.0, omega (arith, c.1, still), cut-one cells size long 0 1 (max n 1) c.0 x.size (omega arith) c.2))
    (λ own.
    let c = each j low (omega (arith, high, own)) j low high (inr refl) in
    let back : j ≡ 1 + (j - 1) = omega (arith, low) in (
      (j - 1) * size + c.0,
      omega (arith, c.1, still),
      cut-one cells size long (j - 1) 1 (max n 1) c.0 x.size (omega (arith, high, own, low)) (let P : ℕ → Type 0 = λ m. Cut (cells m) c.0 x.size in subst P back c.2),
    ))
    same

module _ (text : List ℕ) where
  shaped-good : (inside : Bool) (f : Forest) → Shaped text inside f → AllIn (Good text) f
  shaped-good inside Empty shape = tt
  shaped-good inside (Node e ms r) shape = (shape.0.good, shaped-good (inside || has_occurs e) ms shape.1, shaped-good inside r shape.2)

  same-table : (inside : Bool) (at : ℕ) (around : ItemTable) (f : Forest) → Shaped text inside f → (inside ≡ false → around.occurs ≡ 0)
      → Each (SameTable around) (items_in text at around f)
  same-table inside at around Empty shape alone = tt
  same-table inside at around (Node e ms r) shape alone =
      let size : ℕ = e.size + size_in ms in
      let table : ItemTable = table_of around e.occurs size in
      let none_around = inner-alone inside (has_occurs e) around e.occurs size alone (counts text e inside ms shape.0) in
      let has : is_some e.occurs ≡ true → around.occurs ≡ 0 = λ some. alone (shape.0.alone some) in (
        table-same around e.occurs size (item_of text at size table e) has (inr refl),
        each-append (SameTable around) (items_in text at table ms) (items_in text (at + times e * size) around r)
            (each-map (SameTable table) (SameTable around) (items_in text at table ms) (λ x same. table-same around e.occurs size x has same)
            (same-table (inside || has_occurs e) at table ms shape.1 none_around))
            (same-table inside (at + times e * size) around r shape.2 alone),
      )

  -- a group has no cell of its own
  no-cell : (i k : ℕ) (chars : List ℕ) (p : Option Picture) → length chars ≡ 0 → length (joined (cell_by i k chars p)) ≡ 0
  no-cell i k chars None none = refl
  no-cell i k chars (Some p) none = ap length (append-nil chars) ∙ none

  own-cover : (i at j : ℕ) (table : ItemTable) (e : Entry) (ms : Forest) → Good text e → AllIn (Good text) ms → 1 ≤ j → j ≤ max table.occurs 1
      → Covers (cells_of text i e ms j) at j table (item_of text at (e.size + size_in ms) table e)
  own-cover i at j table e ms good all low high m first last here =
      let same : m ≡ j = ⊎_elim (λ none. omega (arith, none, low, high, first, last)) (λ is. is) here in
      (0, ap (λ x. at + (x - 1) * table.step) same ∙ omega arith, cut-all (cells_of text i e ms j) (e.size + size_in ms) (length-cells_of text i j e ms good all))

  inner-cover : (i at j : ℕ) (table : ItemTable) (inside : Bool) (e : Entry) (ms : Forest) → ShapedEntry text inside e ms
      → Each (Covers (cells_in text (i + 1) j ms) at j table) (items_in text at table ms)
      → Each (Covers (cells_of text i e ms j) at j table) (items_in text at table ms)
  inner-cover i at j table inside e Empty shape each = tt
  inner-cover i at j table inside e (Node a b c) shape each =
      let none : length (joined (cell_by i j (initial text e) (picture_at text e.clauses.picture))) ≡ 0 =
      no-cell i j (initial text e) (picture_at text e.clauses.picture) (length-initial text e shape.good ∙ shape.size refl) in
      each-map (Covers (cells_in text (i + 1) j (Node a b c)) at j table) (Covers (cells_of text i e (Node a b c) j) at j table) (items_in text at table (Node a b c))
      (λ x covers m low high here. let d = covers m low high here in (
        d.0,
        d.1,
        cut-at (cells_of text i e (Node a b c) j) (0 + d.0) d.0 x.size (omega arith)
            (cut-front (cell_by i j (initial text e) (picture_at text e.clauses.picture)) (cells_in text (i + 1) j (Node a b c)) d.0 0 x.size none d.2),
      )) each

  -- the items are covered by the cells
  pub covers : (inside : Bool) (i at k : ℕ) (around : ItemTable) (f : Forest) → Shaped text inside f → (inside ≡ false → around.occurs ≡ 0) → 1 ≤ k → k ≤ max around.occurs 1
      → Each (Covers (cells_in text i k f) at k around) (items_in text at around f)
  covers inside i at k around Empty shape alone first last = tt
  covers inside i at k around (Node e ms r) shape alone first last =
      let size : ℕ = e.size + size_in ms in
      let table : ItemTable = table_of around e.occurs size in
      let item : Item = item_of text at size table e in
      let inner : List Item = items_in text at table ms in
      let outer : List Item = items_in text (at + times e * size) around r in
      let cells : ℕ → List Cell = cells_of text i e ms in
      let second : List Cell = cells_in text (i + 1 + entry_count ms) k r in
      let good = shaped-good (inside || has_occurs e) ms shape.1 in
      let none_around = inner-alone inside (has_occurs e) around e.occurs size alone (counts text e inside ms shape.0) in
      let has : is_some e.occurs ≡ true → around.occurs ≡ 0 = λ some. alone (shape.0.alone some) in
      let long : (j : ℕ) → length (joined (cells j)) ≡ size = λ j. length-cells_of text i j e ms shape.0.good good in
      let behind : (x : Item) → Covers (occurrences cells (first_occurrence e.occurs k) (times e)) at k around x → Covers (occurrences cells (first_occurrence e.occurs k) (times e) ++ second) at k around x =
      λ x covers m low high here. let d = covers m low high here in (d.0, d.1, cut-behind (occurrences cells (first_occurrence e.occurs k) (times e)) second d.0 x.size d.2) in (
        behind item (all-cover cells at size k around e.occurs item long has first last (inr refl) (λ j low high. own-cover i at j table e ms shape.0.good good low high)),
        each-append (Covers (occurrences cells (first_occurrence e.occurs k) (times e) ++ second) at k around) inner outer
            (each-map-both (SameTable table) (λ x. (j : ℕ) → 1 ≤ j → j ≤ max table.occurs 1 → Covers (cells j) at j table x)
            (Covers (occurrences cells (first_occurrence e.occurs k) (times e) ++ second) at k around) inner
            (λ x same each. behind x (all-cover cells at size k around e.occurs x long has first last same each))
            (same-table (inside || has_occurs e) at table ms shape.1 none_around)
            (each-number (λ j x. Covers (cells j) at j table x) (λ j. 1 ≤ j) (λ j. j ≤ max table.occurs 1) inner
            (λ j low high. inner-cover i at j table inside e ms shape.0 (covers (inside || has_occurs e) (i + 1) at j table ms shape.1 none_around low high))))
            (each-map (Covers second (at + times e * size) k around) (Covers (occurrences cells (first_occurrence e.occurs k) (times e) ++ second) at k around) outer
            (λ x covers m low high here. let d = covers m low high here in (
              times e * size + d.0,
              omega (arith, d.1),
              cut-front (occurrences cells (first_occurrence e.occurs k) (times e)) second d.0 (times e * size) x.size (length-occurrences text i k e ms shape.0.good good) d.2,
            ))
            (covers inside (i + 1 + entry_count ms) (at + times e * size) k around r shape.2 alone first last)),
      )
