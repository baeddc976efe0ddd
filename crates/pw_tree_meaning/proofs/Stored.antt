-- What a store keeps: as many characters in each item as it is long.
use Rattle.std.proofs.Common.{◌≡◌, ℕ, ◌+◌, ◌-◌, ◌*◌, ◌<◌, ◌≤◌, max, Bool, true, false, List, [], ◌∷◌, ◌++◌, length, map, inl, if◌then◌else◌, refl, sym, ap, ◌∙◌, subst, ⊎_elim, arith}
use Rattle.std.proofs.lemmas.Bool.{and_parts, and_from, leb-true, ltb-true, le-leb, lt-ltb, cases_lt, false≢true}
use Rattle.std.proofs.lemmas.List.{length-append, map-append}
use Rattle.pw_data.specs.Tree.{forest}
use Rattle.pw_data.specs.Laid.{items_in}
use Rattle.pw_data.specs.Layouts.{no_table, entries_in}
use Rattle.pw_data.specs.Store.{joined, store_of}
use Rattle.pw_data.specs.declared.item.Item.{Item}
use Rattle.pw_operands.specs.Resolved.{Each}
use Rattle.pw_tree_meaning.specs.Program.{Program}
use Rattle.pw_tree_meaning.specs.Store.{Store, Spot, spot_of, lies_in, chars_from, chars_at, put_at, initial_store}
use Rattle.pw_tree_meaning.specs.Sound.{IsLayout}
use Rattle.pw_tree_meaning.proofs.Stores.{put-sizes}
use Rattle.pw_tree_meaning.proofs.storage.Shaped.{shaped}
use Rattle.pw_data.proofs.StoreLaws.{fine}
use Rattle.pw_tree_meaning.proofs.storage.Initial.{initial-is}
use Rattle.pw_tree_meaning.proofs.storage.Cuts.{Cut, Covers, covers}

-- how long each item is
abbrev pub sizes : Store → List ℕ
sizes store = map (λ cell. length cell.chars) store

-- a store of the program: each item is as long as at the start
abbrev pub FitsProgram : Program → Store → Type 0
FitsProgram program store = sizes store ≡ sizes (initial_store program)

pub fits-kept : (program : Program) (spot : Spot) (chars : List ℕ) (store : Store) → FitsProgram program store → FitsProgram program (put_at spot chars store)
fits-kept program spot chars store ok = put-sizes spot chars store ∙ ok

-- each occurrence of an item has as many characters as the item is long
abbrev pub IsLong : Store → Item → Type 0
IsLong store item = (k : ℕ) → 1 ≤ k → k ≤ max item.occurs 1 → length (chars_at (spot_of item k) store) ≡ item.size

-- ---- how many characters lie in a spot

total : List ℕ → ℕ
total [] = 0
total (n ∷ ns) = n + total ns

-- so many characters of cells with these sizes lie in a spot, where the first begins at a place
abbrev covered : Spot → ℕ → List ℕ → ℕ
covered spot place [] = 0
covered spot place (n ∷ ns) = (if lies_in spot place then n else 0) + covered spot (place + n) ns

length-by : (b : Bool) (chars : List ℕ) → length (if b then chars else []) ≡ (if b then length chars else 0)
length-by true chars = refl
length-by false chars = refl

length-chars_from : (spot : Spot) (place : ℕ) (store : Store) → length (chars_from spot place store) ≡ covered spot place (sizes store)
length-chars_from spot place [] = refl
length-chars_from spot place (cell ∷ cells) =
    length-append (if lies_in spot place then cell.chars else []) (chars_from spot (place + length cell.chars) cells)
    ∙ ap (λ n. n + length (chars_from spot (place + length cell.chars) cells)) (length-by (lies_in spot place) cell.chars)
    ∙ ap (λ n. (if lies_in spot place then length cell.chars else 0) + n) (length-chars_from spot (place + length cell.chars) cells)

covered-append : (spot : Spot) (place : ℕ) (ns ms : List ℕ) → covered spot place (ns ++ ms) ≡ covered spot place ns + covered spot (place + total ns) ms
unfolding total
covered-append spot place [] ms =
    let same : place ≡ place + 0 = omega arith in
    let none : covered spot (place + 0) ms ≡ 0 + covered spot (place + 0) ms = omega arith in
    ap (λ p. covered spot p ms) same ∙ none
covered-append spot place (n ∷ ns) ms =
    let own : ℕ = if lies_in spot place then n else 0 in
    let same : place + n + total ns ≡ place + (n + total ns) = omega arith in
    let sum : own + (covered spot (place + n) ns + covered spot (place + (n + total ns)) ms) ≡ own + covered spot (place + n) ns + covered spot (place + (n + total ns)) ms = omega arith in
    ap (λ k. own + k) (covered-append spot (place + n) ns ms)
    ∙ ap (λ p. own + (covered spot (place + n) ns + covered spot p ms)) same
    ∙ sum

lies-by : (spot : Spot) (place : ℕ) (b : Bool) → lies_in spot place ≡ b → (b ≡ true → (spot.at ≤ place) × (place < spot.at + spot.size))
lies-by spot place true e holds = let parts = and_parts _ _ e in (leb-true _ _ parts.0, ltb-true _ _ parts.1)
lies-by spot place false e holds = absurd cc

not-lies : (spot : Spot) (place n : ℕ) (b : Bool) → lies_in spot place ≡ b → (spot.at ≤ place → place < spot.at + spot.size → n ≡ 0) → (if b then n else 0) ≡ 0
not-lies spot place n true e none = let lies = lies-by spot place true e refl in none lies.0 lies.1
not-lies spot place n false e none = refl

does-lie : (spot : Spot) (place n : ℕ) (b : Bool) → lies_in spot place ≡ b → spot.at ≤ place → (spot.at + spot.size ≤ place → n ≡ 0) → (if b then n else 0) ≡ n
does-lie spot place n true e from out = refl
does-lie spot place n false e from out =
    ⊎_elim
    (λ low. absurd (false≢true (sym e ∙ and_from _ _ (le-leb _ _ from) (lt-ltb _ _ low))))
    (λ high. sym (out high))
    (cases_lt place (spot.at + spot.size))

covered-before : (spot : Spot) (place : ℕ) (ns : List ℕ) → place + total ns ≤ spot.at → covered spot place ns ≡ 0
unfolding total
covered-before spot place [] le = refl
covered-before spot place (n ∷ ns) le =
    omega (arith, not-lies spot place n (lies_in spot place) refl (λ from below. omega (arith, from, le)), covered-before spot (place + n) ns (omega (arith, le)))

covered-behind : (spot : Spot) (place : ℕ) (ns : List ℕ) → spot.at + spot.size ≤ place → covered spot place ns ≡ 0
covered-behind spot place [] le = refl
covered-behind spot place (n ∷ ns) le =
    omega (arith, not-lies spot place n (lies_in spot place) refl (λ from below. absurd (omega (arith, below, le))), covered-behind spot (place + n) ns (omega (arith, le)))

covered-run : (spot : Spot) (place : ℕ) (ns : List ℕ) → spot.at ≤ place → place + total ns ≤ spot.at + spot.size → covered spot place ns ≡ total ns
unfolding total
covered-run spot place [] from le = refl
covered-run spot place (n ∷ ns) from le =
    omega (arith, does-lie spot place n (lies_in spot place) refl from (λ out. omega (arith, out, le)), covered-run spot (place + n) ns (omega (arith, from)) (omega (arith, le)))

total-sizes : (cells : Store) → total (sizes cells) ≡ length (joined cells)
unfolding total
total-sizes [] = refl
total-sizes (cell ∷ cells) = omega (arith, total-sizes cells, length-append cell.chars (joined cells))

-- a run of cells is all that lies in its spot
run-long : (spot : Spot) (cells : Store) → Cut cells spot.at spot.size → covered spot 0 (sizes cells) ≡ spot.size
run-long spot cells c =
    let front = sizes c.front in
    let run = sizes c.run in
    let back = sizes c.back in
    let before : total front ≡ spot.at = total-sizes c.front ∙ c.starts in
    let long : total run ≡ spot.size = total-sizes c.run ∙ c.reaches in
    let parts : sizes cells ≡ front ++ (run ++ back) = ap sizes c.is ∙ map-append (λ cell. length cell.chars) c.front (c.run ++ c.back) ∙ ap (λ ns. front ++ ns) (map-append (λ cell. length cell.chars) c.run c.back) in
    ap (covered spot 0) parts
    ∙ covered-append spot 0 front (run ++ back)
    ∙ ap (λ k. covered spot 0 front + k) (covered-append spot (0 + total front) run back)
    ∙ omega (
      arith,
      covered-before spot 0 front (omega (arith, before)),
      covered-run spot (0 + total front) run (omega (arith, before)) (omega (arith, before, long)),
      covered-behind spot (0 + total front + total run) back (omega (arith, before, long)),
      long,
    )

-- ---- each item of a program

items-of : (items : List Item) (cells store : Store) → sizes store ≡ sizes cells → Each (Covers cells 0 1 no_table) items → Each (IsLong store) items
items-of [] cells store same each = tt
items-of (x ∷ xs) cells store same each = (
  λ k low high.
      let c = each.0 k low high (inl refl) in
      let at : c.0 ≡ x.at + (k - 1) * x.step = omega (arith, c.1) in
      length-chars_from (spot_of x k) 0 store
      ∙ ap (covered (spot_of x k) 0) same
      ∙ run-long (spot_of x k) cells (let P : ℕ → Type 0 = λ n. Cut cells n x.size in subst P at c.2),
  items-of xs cells store same each.1,
)

pub items-long : (server : Bool) (program : Program) (store : Store) → IsLayout server program.layout → FitsProgram program store
    → Each (IsLong store) program.layout.items
items-long server program store is fits =
    let f = forest (entries_in is.text is.tokens server) in
    let shape = shaped is.text is.tokens server program.layout is.is_laid in
    let each = covers is.text false 0 0 1 no_table f shape (λ e. refl) (omega arith) (omega arith) in
    let same : sizes store ≡ sizes (store_of is.text is.tokens server) = fits ∙ ap sizes (initial-is server program is) in
    subst (λ l. Each (IsLong store) l.items) (fine is.text is.tokens server program.layout is.is_laid).is_laid
    (items-of (items_in is.text 0 no_table f) (store_of is.text is.tokens server) store same each)
