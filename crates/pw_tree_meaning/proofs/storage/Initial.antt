-- The initial store is that of the data.
use Rattle.std.proofs.Common.{◌≡◌, ℕ, zero, suc, ◌+◌, ◌-◌, ◌*◌, ◌/◌, ◌%◌, ◌<◌, ◌≤◌, max, Bool, true, false, ◌&&◌, List, [], ◌∷◌, ◌++◌, length, take, slice_get, ◌⊎◌, inl, All, Option, Some, None, is_some, IsSome, refl, sym, ap, ◌∙◌, subst, ⊎_elim, arith}
use Rattle.std.specs.Prelude.{nat_le, nat_lt, ◌==◌, if◌then◌else◌}
use Rattle.std.proofs.lemmas.Bool.{and_parts, and_from, eqb-true, eqb-false, eq-eqb, leb-true, ltb-true, le-leb, lt-ltb}
use Rattle.std.proofs.lemmas.Nat.{div-mul-add, mod-mul-add}
use Rattle.std.proofs.lemmas.List.Elements.{All-head, All-tail}
use Rattle.std.proofs.Math.Seq.{take-append_seam}
use Rattle.std.specs.Option.{ForSome}
use Rattle.pw_data.specs.declared.item.Item.{Item}
use Rattle.pw_picture.specs.Grammar.{IsPicture, size_of}
use Rattle.pw_data.specs.declared.item.ItemKind.{ItemKind}
use Rattle.pw_data.specs.declared.item.ItemKind.TheVariants as kind
use Rattle.pw_data.specs.Entries.{picture_of_kind}
use Rattle.pw_data.specs.Tree.{forest}
use Rattle.pw_data.specs.Laid.{items_in}
use Rattle.pw_data.specs.Layouts.{Laid, laid, no_table, entries_in, FitsPicture}
use Rattle.pw_data.specs.Store.{Cell, joined, LiesAt, LieFrom, IsStoreOf, store_of}
use Rattle.pw_data.proofs.StoreLaws.{store-of_layout, pictures-of_layout, fine}
use Rattle.pw_operands.specs.Resolved.{Each}
use Rattle.pw_tree_meaning.specs.Program.{Program}
use Rattle.pw_tree_meaning.specs.Store.{is_offset, occurrence_at, begins_at, cell_at, cells_from, initial_store}
use Rattle.pw_tree_meaning.specs.Sound.{IsLayout}
use Rattle.pw_tree_meaning.proofs.Resolved.{each-got}
use Rattle.pw_tree_meaning.proofs.storage.Shaped.{shaped}
use Rattle.pw_tree_meaning.proofs.storage.Places.{Starts, HasSize, HasStep, ApartFrom, AllApart, all-apart, all-step}

-- ---- where an item begins, by the test

has-step : (x : Item) → (x.occurs == 0) ≡ false → (x.occurs ≡ 0) ⊎ (1 ≤ x.step) → 1 ≤ x.step
has-step x none step = ⊎_elim (λ no. absurd (eqb-false x.occurs 0 none no)) (λ some. some) step

begins-by : (p : ℕ) (x : Item) (none : Bool) → (x.occurs == 0) ≡ none → (x.occurs ≡ 0) ⊎ (1 ≤ x.step) → x.at ≤ p
    → (if none then (p - x.at) == 0 else (p - x.at) % x.step == 0 && nat_lt ((p - x.at) / x.step) x.occurs) ≡ true
    → (m : ℕ) × (m + 1 ≤ max x.occurs 1) × (p ≡ x.at + m * x.step)
begins-by p x true none step le e = let z = eqb-true _ _ e in (0, omega arith, omega (arith, z, le))
begins-by p x false none step le e =
    let parts = and_parts ((p - x.at) % x.step == 0) (nat_lt ((p - x.at) / x.step) x.occurs) e in
    let rem : (p - x.at) % x.step ≡ 0 = eqb-true _ _ parts.0 in
    let low : (p - x.at) / x.step < x.occurs = ltb-true _ _ parts.1 in
    let some : 1 ≤ x.step = has-step x none step in
    ((p - x.at) / x.step, omega (arith, low), omega (arith, rem, some, le))

begins-starts : (p : ℕ) (x : Item) → HasStep x → begins_at p x ≡ true → Starts p x
begins-starts p x step e =
    let parts = and_parts (is_some x.kind) (nat_le x.at p && is_offset (p - x.at) x) e in
    let rest = and_parts (nat_le x.at p) (is_offset (p - x.at) x) parts.1 in
    let b = begins-by p x (x.occurs == 0) refl (step parts.0) (leb-true _ _ rest.0) rest.1 in
    record { elementary = parts.0; m = b.0; last = b.1; begins = b.2 }

-- an occurrence that lies somewhere begins there, by the test
offset-by : (x : Item) (m : ℕ) (none : Bool) → (x.occurs == 0) ≡ none → m + 1 ≤ max x.occurs 1 → (x.occurs ≡ 0) ⊎ (1 ≤ x.step)
    → ((if none then (m * x.step) == 0 else (m * x.step) % x.step == 0 && nat_lt ((m * x.step) / x.step) x.occurs) ≡ true)
    × ((if none then 1 else (m * x.step) / x.step + 1) ≡ m + 1)
offset-by x m true none last step =
    let zero_occurs : x.occurs ≡ 0 = eqb-true _ _ none in
    let first : m ≡ 0 = omega (arith, zero_occurs, last) in
    (eq-eqb (m * x.step) 0 (ap (λ k. k * x.step) first ∙ omega arith), omega (arith, first))
offset-by x m false none last step =
    let some : 1 ≤ x.step = has-step x none step in
    let plain : m * x.step ≡ m * x.step + 0 = omega arith in
    let rem : (m * x.step) % x.step ≡ 0 = ap (λ n. n % x.step) plain ∙ mod-mul-add m x.step 0 (omega (arith, some)) in
    let quotient : (m * x.step) / x.step ≡ m = ap (λ n. n / x.step) plain ∙ div-mul-add m x.step 0 (omega (arith, some)) in
    let occurs : 1 ≤ x.occurs = positive x.occurs none in
    (and_from _ _ (eq-eqb _ 0 rem) (lt-ltb _ _ (omega (arith, quotient, last, occurs))), omega (arith, quotient))
  where
    positive : (n : ℕ) → (n == 0) ≡ false → 1 ≤ n
    positive zero e = absurd cc
    positive (suc n) e = omega arith

-- the cell of an item that lies at a place: its test, its occurrence
pub record FoundAt (p : ℕ) (cell : Cell) (x : Item) : Type 0 where
  pub tests : begins_at p x ≡ true
  pub occurrence : occurrence_at (p - x.at) x ≡ cell.occurrence
  pub starts : Starts p x

elementary-test : {A : Type 0} (o : Option A) → IsSome o → is_some o ≡ true
elementary-test None some = some
elementary-test (Some x) some = refl

found-at : (items : List Item) (p : ℕ) (cell : Cell) (lies : LiesAt items p cell) → HasStep lies.item → FoundAt p cell lies.item
found-at items p cell lies step =
    let x = lies.item in
    let elementary = elementary-test x.kind lies.elementary in
    let m : ℕ = cell.occurrence - 1 in
    let offset : p - x.at ≡ m * x.step = omega (arith, lies.begins) in
    let o = offset-by x m (x.occurs == 0) refl (omega (arith, lies.first, lies.last)) (step elementary) in
    record {
      tests = and_from _ _ elementary (and_from _ _ (le-leb _ _ (omega (arith, lies.begins))) (ap (λ n. is_offset n x) offset ∙ o.0));
      occurrence = ap (λ n. occurrence_at n x) offset ∙ o.1 ∙ omega (arith, lies.first);
      starts = record { elementary = elementary; m = m; last = omega (arith, lies.first, lies.last); begins = lies.begins };
    }

-- ---- the cell at a place

picked-by : (b : Bool) (one other : Cell) → b ≡ true → (if b then one else other) ≡ one
picked-by true one other e = refl
picked-by false one other e = absurd cc

passed-by : (b : Bool) (one other : Cell) → (b ≡ true → ⊥) → (if b then one else other) ≡ other
passed-by true one other never = absurd (never refl)
passed-by false one other never = refl

-- the first item that begins there is the only one
picks : (items : List Item) (p number n : ℕ) (chars : List ℕ) (x : Item) → AllApart items → Each HasStep items → slice_get items n ≡ Some x
    → begins_at p x ≡ true → Starts p x
    → cell_at p chars number items ≡ record { item = number + n; occurrence = occurrence_at (p - x.at) x; chars = take x.size chars }
picks [] p number n chars x apart steps got test starts = absurd cc
picks (y ∷ ys) p number zero chars x apart steps got test starts =
    let same : y ≡ x = cc in
    picked-by (begins_at p y) _ _ (ap (begins_at p) same ∙ test)
    ∙ ap (λ z. record { item = number; occurrence = occurrence_at (p - z.at) z; chars = take z.size chars }) same
    ∙ ap (λ i. record { item = i; occurrence = occurrence_at (p - x.at) x; chars = take x.size chars }) (omega arith)
picks (y ∷ ys) p number (suc n) chars x apart steps got test starts =
    passed-by (begins_at p y) _ _ (λ here. each-got (ApartFrom y) ys n x apart.0 got p (begins-starts p y steps.0 here) starts)
    ∙ picks ys p (number + 1) n chars x apart.1 steps.1 got test starts
    ∙ ap (λ i. record { item = i; occurrence = occurrence_at (p - x.at) x; chars = take x.size chars }) (omega arith)

-- ---- all cells

skips : (items : List Item) (place : ℕ) (chars rest : List ℕ) → cells_from items place (length chars) (chars ++ rest) ≡ cells_from items (place + length chars) zero rest
skips items place [] rest = ap (λ p. cells_from items p zero rest) (omega arith)
skips items place (c ∷ cs) rest =
    skips items (place + 1) cs rest ∙ ap (λ p. cells_from items p zero rest) (omega arith)

pub take-front : (xs ys : List ℕ) (n : ℕ) → length xs ≡ n → take n (xs ++ ys) ≡ xs
take-front xs ys n e = ap (λ k. take k (xs ++ ys)) (sym e) ∙ take-append_seam xs ys

one-cell : (items : List Item) (place : ℕ) (cell : Cell) (own rest : List ℕ) (cells : List Cell) → cell.chars ≡ own → 1 ≤ length own
    → cell_at place (own ++ rest) 0 items ≡ cell → cells_from items (place + length own) 0 rest ≡ cells
    → cells_from items place 0 (own ++ rest) ≡ cell ∷ cells
one-cell items place cell [] rest cells is some at behind = absurd (omega (arith, some))
one-cell items place cell (c ∷ cs) rest cells is some at behind =
    ap (λ one. one ∷ cells_from items (place + 1) (length one.chars - 1) (cs ++ rest)) at
    ∙ ap (λ n. cell ∷ cells_from items (place + 1) n (cs ++ rest)) (omega (arith, ap length is))
    ∙ ap (λ more. cell ∷ more) (skips items (place + 1) cs rest ∙ ap (λ p. cells_from items p 0 rest) (omega arith) ∙ behind)

-- the storage of cells that lie where their items begin is cut into them again
pub cut-again : (items : List Item) → AllApart items → Each HasStep items → Each HasSize items → (place : ℕ) (cells : List Cell) → LieFrom items place cells
    → cells_from items place 0 (joined cells) ≡ cells
cut-again items apart steps sizes place [] lie = refl
cut-again items apart steps sizes place (cell ∷ cells) lie =
    let lies = lie.0 in
    let x = lies.item in
    let found = found-at items place cell lies (each-got HasStep items cell.item x steps lies.found) in
    let size : 1 ≤ x.size = each-got HasSize items cell.item x sizes lies.found found.starts.elementary in
    one-cell items place cell cell.chars (joined cells) cells refl (omega (arith, size, lies.long))
    (picks items place 0 cell.item (cell.chars ++ joined cells) x apart steps lies.found found.tests found.starts
    ∙ ap (λ k. record { item = 0 + cell.item; occurrence = k; chars = take x.size (cell.chars ++ joined cells) }) found.occurrence
    ∙ ap (λ chars. record { item = 0 + cell.item; occurrence = cell.occurrence; chars = chars }) (take-front cell.chars (joined cells) x.size lies.long)
    ∙ ap (λ i. record { item = i; occurrence = cell.occurrence; chars = cell.chars }) (omega arith))
    (cut-again items apart steps sizes (place + length cell.chars) cells lie.1)

-- ---- of a layout

pub all-each : {A : Type 0} (P : A → Type 0) (xs : List A) → All P xs → Each P xs
all-each P [] all = tt
all-each P (x ∷ xs) all = (All-head P x xs all, all-each P xs (All-tail P x xs all))

number-size : (digits : ℕ) (signed : Bool) → 1 ≤ digits → 1 ≤ (if signed then digits + 1 else digits)
number-size digits true some = omega arith
number-size digits false some = some

kind-size : (k : ItemKind) → IsPicture (picture_of_kind k) → 1 ≤ size_of (picture_of_kind k)
kind-size (kind.Text size) is = is.0
kind-size (kind.Number digits places signed) is = number-size digits signed is.0

size-by : (o : Option ItemKind) (size : ℕ) → ForSome o (λ k. IsPicture (picture_of_kind k) × (size_of (picture_of_kind k) ≡ size)) → is_some o ≡ true → 1 ≤ size
size-by None size fits some = absurd cc
size-by (Some k) size fits some = let fit = fits k refl in omega (arith, kind-size k fit.0, fit.1)

has-size : (items : List Item) → Each FitsPicture items → Each HasSize items
has-size [] each = tt
has-size (x ∷ xs) each = (λ some. size-by x.kind x.size each.0 some, has-size xs each.1)

-- the items of a layout
pub record ItemsOk (items : List Item) : Type 0 where
  pub sizes : Each HasSize items
  pub steps : Each HasStep items
  pub apart : AllApart items

pub items-ok : (server : Bool) (layout : Laid) (is : IsLayout server layout) → ItemsOk layout.items
items-ok server layout is =
    let f = forest (entries_in is.text is.tokens server) in
    let shape = shaped is.text is.tokens server layout is.is_laid in
    let sizes = has-size (items_in is.text 0 no_table f) (all-each FitsPicture _ (pictures-of_layout is.text is.tokens server layout is.is_laid)) in
    let ok : ItemsOk (laid is.text (entries_in is.text is.tokens server)).items = record {
      sizes = sizes;
      steps = all-step is.text false 0 no_table f (inl refl) sizes;
      apart = all-apart is.text false 0 no_table f shape (λ e. refl) (inl refl) sizes;
    } in
    subst (λ l. ItemsOk l.items) (fine is.text is.tokens server layout is.is_laid).is_laid ok

-- the initial store of a program is that of its data
pub initial-is : (server : Bool) (program : Program) (is : IsLayout server program.layout) → initial_store program ≡ store_of is.text is.tokens server
initial-is server program is =
    let store = store-of_layout is.text is.tokens server program.layout is.is_laid in
    let ok = items-ok server program.layout is in
    ap (cells_from program.layout.items 0 0) (sym store.storage)
    ∙ cut-again program.layout.items ok.apart ok.steps ok.sizes 0 (store_of is.text is.tokens server) store.places

pub initial-store : (server : Bool) (program : Program) → IsLayout server program.layout → IsStoreOf program.layout (initial_store program)
initial-store server program is = subst (IsStoreOf program.layout) (sym (initial-is server program is)) (store-of_layout is.text is.tokens server program.layout is.is_laid)
