-- Where items begin: no two elementary ones begin at one place.
use Rattle.std.proofs.Common.{◌≡◌, ℕ, ◌+◌, ◌*◌, ◌<◌, ◌≤◌, max, Bool, true, false, ◌||◌, List, [], ◌∷◌, ◌++◌, ◌⊎◌, inl, inr, Option, Some, None, is_some, refl, sym, ap, ◌∙◌, ⊎_elim, arith}
use Rattle.std.specs.Prelude.{unwrap_or}
use Rattle.std.proofs.lemmas.Nat.{mul-le}
use Rattle.std.proofs.lemmas.Bool.{cases_lt}
use Rattle.pw_text.specs.declared.token.Token.{Token}
use Rattle.pw_data.specs.declared.entry.Entry.{Entry}
use Rattle.pw_data.specs.declared.item.Item.{Item}
use Rattle.pw_data.specs.declared.item.ItemTable.{ItemTable}
use Rattle.pw_data.specs.Entries.{kind_at, has_occurs, count_at}
use Rattle.pw_data.specs.Tree.{Forest, Empty, Node}
use Rattle.pw_data.specs.Laid.{times, size_in, table_of, item_of, items_in}
use Rattle.pw_operands.specs.Resolved.{Each}
use Rattle.pw_tree_meaning.proofs.storage.Shaped.{Shaped, ShapedEntry}

-- an occurrence of an elementary item begins at a place
pub record Starts (p : ℕ) (x : Item) : Type 0 where
  pub elementary : is_some x.kind ≡ true
  pub m : ℕ
  pub last : m + 1 ≤ max x.occurs 1
  pub begins : p ≡ x.at + m * x.step

-- the place is in what lies so far from a place on, in one of the repetitions of a table
pub record InSpan (p at size : ℕ) (around : ItemTable) : Type 0 where
  pub m : ℕ
  pub last : m + 1 ≤ max around.occurs 1
  pub from : at + m * around.step ≤ p
  pub below : p < at + m * around.step + size

-- what is repeated fits into a repetition
abbrev pub FitsTable : ItemTable → ℕ → Type 0
FitsTable around size = (around.occurs ≡ 0) ⊎ (size ≤ around.step)

-- an elementary item has a character at least
abbrev pub HasSize : Item → Type 0
HasSize x = is_some x.kind ≡ true → 1 ≤ x.size

-- ---- products

times-more : (m n size : ℕ) → m + 1 ≤ n → m * size + size ≤ n * size
times-more m n size le = omega (arith, mul-le (m + 1) size n size le (omega arith))

-- ---- spans

in-larger : (p at a b : ℕ) (around : ItemTable) → a ≤ b → InSpan p at a around → InSpan p at b around
in-larger p at a b around le s = record { m = s.m; last = s.last; from = s.from; below = omega (arith, s.below, le) }

-- one repetition is apart from the next
span-apart : (p at a b : ℕ) (around : ItemTable) → FitsTable around (a + b) → InSpan p at a around → InSpan p (at + a) b around → ⊥
span-apart p at a b around fits s t =
    ⊎_elim (λ none. same (omega (arith, none, s.last, t.last))) (λ fit. by fit) fits
  where
    same : s.m ≡ t.m → ⊥
    same e = let step : s.m * around.step ≡ t.m * around.step = ap (λ k. k * around.step) e in omega (arith, step, s.below, t.from)

    by : a + b ≤ around.step → ⊥
    by fit =
        ⊎_elim
        (λ before. let more = times-more s.m t.m around.step (omega (arith, before)) in omega (arith, more, fit, s.below, t.from))
        (λ behind. ⊎_elim
        (λ after. let more = times-more t.m s.m around.step (omega (arith, after)) in omega (arith, more, fit, t.below, s.from))
        (λ other. same (omega (arith, behind, other)))
        (cases_lt t.m s.m))
        (cases_lt s.m t.m)

-- ---- where the items of trees begin

table-span : (at : ℕ) (around : ItemTable) (occurs : Option ℕ) (size p inner : ℕ) → (is_some occurs ≡ true → around.occurs ≡ 0) → inner ≤ size
    → InSpan p at inner (table_of around occurs size) → InSpan p at (max (unwrap_or occurs 1) 1 * size) around
table-span at around None size p inner alone le s = record { m = s.m; last = s.last; from = s.from; below = omega (arith, s.below, le) }
table-span at around (Some n) size p inner alone le s = record {
  m = 0;
  last = omega arith;
  from = omega (arith, s.from);
  below = omega (arith, s.below, le, times-more s.m (max n 1) size s.last);
}

-- ---- of each of a list

each-left : {A : Type 0} (P : A → Type 0) (xs ys : List A) → Each P (xs ++ ys) → Each P xs
each-left P [] ys each = tt
each-left P (x ∷ xs) ys each = (each.0, each-left P xs ys each.1)

each-right : {A : Type 0} (P : A → Type 0) (xs ys : List A) → Each P (xs ++ ys) → Each P ys
each-right P [] ys each = each
each-right P (x ∷ xs) ys each = each-right P xs ys each.1

pub each-append : {A : Type 0} (P : A → Type 0) (xs ys : List A) → Each P xs → Each P ys → Each P (xs ++ ys)
each-append P [] ys front back = back
each-append P (x ∷ xs) ys front back = (front.0, each-append P xs ys front.1 back)

pub each-map : {A : Type 0} (P Q : A → Type 0) (xs : List A) → ((x : A) → P x → Q x) → Each P xs → Each Q xs
each-map P Q [] f each = tt
each-map P Q (x ∷ xs) f each = (f x each.0, each-map P Q xs f each.1)

pub each-all : {A : Type 0} (P : A → Type 0) (xs : List A) → ((x : A) → P x) → Each P xs
each-all P [] f = tt
each-all P (x ∷ xs) f = (f x, each-all P xs f)

-- ---- the items of trees

-- the table of what stands in an entry: none where nothing around has OCCURS
pub inner-alone : (inside has : Bool) (around : ItemTable) (occurs : Option ℕ) (size : ℕ) → (inside ≡ false → around.occurs ≡ 0) → (is_some occurs ≡ true → has ≡ true)
    → (inside || has) ≡ false → (table_of around occurs size).occurs ≡ 0
inner-alone true has around occurs size alone count e = absurd cc
inner-alone false has around None size alone count e = alone refl
inner-alone false true around (Some n) size alone count e = absurd cc
inner-alone false false around (Some n) size alone count e = absurd (cc (count refl))

-- where an elementary item that begins somewhere begins
abbrev pub BeginsIn : ℕ → ℕ → ItemTable → Item → Type 0
BeginsIn at size around x = (p : ℕ) → Starts p x → InSpan p at size around

module _ (text : List ℕ) where
  pub counts : (e : Entry) (inside : Bool) (ms : Forest) → ShapedEntry text inside e ms → is_some e.occurs ≡ true → has_occurs e ≡ true
  counts e inside ms shape has = by e.clauses.occurs (ap is_some (sym shape.good.occurs) ∙ has)
    where
      by : (token : Option Token) → is_some (count_at text token) ≡ true → is_some token ≡ true
      by None is = absurd cc
      by (Some token) is = refl

  own-span : (at : ℕ) (around : ItemTable) (e : Entry) (ms : Forest) (inside : Bool) → ShapedEntry text inside e ms → (inside ≡ false → around.occurs ≡ 0)
      → HasSize (item_of text at (e.size + size_in ms) (table_of around e.occurs (e.size + size_in ms)) e)
      → BeginsIn at (times e * (e.size + size_in ms)) around (item_of text at (e.size + size_in ms) (table_of around e.occurs (e.size + size_in ms)) e)
  own-span at around e ms inside shape alone sized p s =
      let some : 1 ≤ e.size + size_in ms = sized s.elementary in
      table-span at around e.occurs (e.size + size_in ms) p 1 (λ has. alone (shape.alone has)) some
      (record { m = s.m; last = s.last; from = omega (arith, s.begins); below = omega (arith, s.begins) })

  pub begin-in : (inside : Bool) (at : ℕ) (around : ItemTable) (f : Forest) → Shaped text inside f → (inside ≡ false → around.occurs ≡ 0)
      → Each HasSize (items_in text at around f) → Each (BeginsIn at (size_in f) around) (items_in text at around f)
  begin-in inside at around Empty shape alone sized = tt
  begin-in inside at around (Node e ms r) shape alone sized =
      let size : ℕ = e.size + size_in ms in
      let table : ItemTable = table_of around e.occurs size in
      let inner : List Item = items_in text at table ms in
      let outer : List Item = items_in text (at + times e * size) around r in
      let members = begin-in (inside || has_occurs e) at table ms shape.1 (inner-alone inside (has_occurs e) around e.occurs size alone (counts e inside ms shape.0)) (each-left HasSize inner outer sized.1) in
      let behind = begin-in inside (at + times e * size) around r shape.2 alone (each-right HasSize inner outer sized.1) in (
        λ p s. in-larger p at (times e * size) (times e * size + size_in r) around (omega arith) (own-span at around e ms inside shape.0 alone sized.0 p s),
        each-append (BeginsIn at (times e * size + size_in r) around) inner outer
            (each-map (BeginsIn at (size_in ms) table) (BeginsIn at (times e * size + size_in r) around) inner
            (λ x begins p s. in-larger p at (times e * size) (times e * size + size_in r) around (omega arith)
            (table-span at around e.occurs size p (size_in ms) (λ has. alone (shape.0.alone has)) (omega arith) (begins p s))) members)
            (each-map (BeginsIn (at + times e * size) (size_in r) around) (BeginsIn at (times e * size + size_in r) around) outer
            (λ x begins p s. let t = begins p s in record { m = t.m; last = t.last; from = omega (arith, t.from); below = omega (arith, t.below) }) behind),
      )

-- ---- no two begin at one place

abbrev pub ApartFrom : Item → Item → Type 0
ApartFrom x y = (p : ℕ) → Starts p x → Starts p y → ⊥

abbrev pub AllApart : List Item → Type 0
AllApart [] = Unit {0}
AllApart (x ∷ xs) = Each (ApartFrom x) xs × AllApart xs

apart-append : (A B : ℕ → Type 0) (xs ys : List Item) → ((p : ℕ) → A p → B p → ⊥)
    → Each (λ x. (p : ℕ) → Starts p x → A p) xs → Each (λ y. (p : ℕ) → Starts p y → B p) ys
    → AllApart xs → AllApart ys → AllApart (xs ++ ys)
apart-append A B [] ys never front back one two = two
apart-append A B (x ∷ xs) ys never front back one two = (
  each-append (ApartFrom x) xs ys one.0
      (each-map (λ y. (p : ℕ) → Starts p y → B p) (ApartFrom x) ys (λ y begins p s t. never p (front.0 p s) (begins p t)) back),
  apart-append A B xs ys never front.1 back one.1 two,
)

-- a table has a place for its step
abbrev pub HasStep : Item → Type 0
HasStep x = is_some x.kind ≡ true → (x.occurs ≡ 0) ⊎ (1 ≤ x.step)

inner-fits : (around : ItemTable) (occurs : Option ℕ) (size inner rest : ℕ) → inner ≤ size → FitsTable around (max (unwrap_or occurs 1) 1 * size + rest)
    → FitsTable (table_of around occurs size) inner
inner-fits around None size inner rest le fits = ⊎_elim (λ none. inl none) (λ fit. inr (omega (arith, fit, le))) fits
inner-fits around (Some n) size inner rest le fits = inr le

own-step : (around : ItemTable) (occurs : Option ℕ) (size rest : ℕ) → 1 ≤ size → FitsTable around (max (unwrap_or occurs 1) 1 * size + rest)
    → ((table_of around occurs size).occurs ≡ 0) ⊎ (1 ≤ (table_of around occurs size).step)
own-step around None size rest some fits = ⊎_elim (λ none. inl none) (λ fit. inr (omega (arith, fit, some))) fits
own-step around (Some n) size rest some fits = inr some

module _ (text : List ℕ) where
  -- a group is not elementary, and what is no group has no items in it
  own-apart : (x : Item) (inside : Bool) (e : Entry) (at : ℕ) (table : ItemTable) (ms : Forest) → ShapedEntry text inside e ms → x.kind ≡ kind_at text e
      → Each (ApartFrom x) (items_in text at table ms)
  own-apart x inside e at table Empty shape kind = tt
  own-apart x inside e at table (Node a b c) shape kind =
      each-all (ApartFrom x) (items_in text at table (Node a b c))
      (λ y p s t. never (sym s.elementary ∙ ap is_some kind ∙ shape.elementary refl))
    where
      never : true ≡ false → ⊥
      never h = cc

  pub all-apart : (inside : Bool) (at : ℕ) (around : ItemTable) (f : Forest) → Shaped text inside f → (inside ≡ false → around.occurs ≡ 0) → FitsTable around (size_in f)
      → Each HasSize (items_in text at around f) → AllApart (items_in text at around f)
  all-apart inside at around Empty shape alone fits sized = tt
  all-apart inside at around (Node e ms r) shape alone fits sized =
      let size : ℕ = e.size + size_in ms in
      let table : ItemTable = table_of around e.occurs size in
      let item : Item = item_of text at size table e in
      let inner : List Item = items_in text at table ms in
      let outer : List Item = items_in text (at + times e * size) around r in
      let none_around = inner-alone inside (has_occurs e) around e.occurs size alone (counts text e inside ms shape.0) in
      let members = all-apart (inside || has_occurs e) at table ms shape.1 none_around (inner-fits around e.occurs size (size_in ms) (size_in r) (omega arith) fits) (each-left HasSize inner outer sized.1) in
      let behind = all-apart inside (at + times e * size) around r shape.2 alone (⊎_elim (λ none. inl none) (λ fit. inr (omega (arith, fit))) fits) (each-right HasSize inner outer sized.1) in
      let own = own-span text at around e ms inside shape.0 alone sized.0 in
      let in_members = each-map (BeginsIn at (size_in ms) table) (BeginsIn at (times e * size) around) inner
      (λ x begins p s. table-span at around e.occurs size p (size_in ms) (λ has. alone (shape.0.alone has)) (omega arith) (begins p s))
      (begin-in text (inside || has_occurs e) at table ms shape.1 none_around (each-left HasSize inner outer sized.1)) in
      let in_behind = begin-in text inside (at + times e * size) around r shape.2 alone (each-right HasSize inner outer sized.1) in
      apart-append (λ p. InSpan p at (times e * size) around) (λ p. InSpan p (at + times e * size) (size_in r) around) (item ∷ inner) outer
      (λ p s t. span-apart p at (times e * size) (size_in r) around fits s t)
      (own, in_members) in_behind
      (own-apart item inside e at table ms shape.0 refl, members) behind

  pub all-step : (inside : Bool) (at : ℕ) (around : ItemTable) (f : Forest) → FitsTable around (size_in f)
      → Each HasSize (items_in text at around f) → Each HasStep (items_in text at around f)
  all-step inside at around Empty fits sized = tt
  all-step inside at around (Node e ms r) fits sized =
      let size : ℕ = e.size + size_in ms in
      let table : ItemTable = table_of around e.occurs size in
      let inner : List Item = items_in text at table ms in
      let outer : List Item = items_in text (at + times e * size) around r in (
        λ elementary. own-step around e.occurs size (size_in r) (sized.0 elementary) fits,
        each-append HasStep inner outer
            (all-step inside at table ms (inner-fits around e.occurs size (size_in ms) (size_in r) (omega arith) fits) (each-left HasSize inner outer sized.1))
            (all-step inside (at + times e * size) around r (⊎_elim (λ none. inl none) (λ fit. inr (omega (arith, fit))) fits) (each-right HasSize inner outer sized.1)),
      )
