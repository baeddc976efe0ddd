-- Stores in which each occurrence of each item is a run of cells.
use Rattle.std.proofs.Common.{◌≡◌, ℕ, ◌+◌, ◌-◌, ◌*◌, ◌≤◌, max, List, [], ◌∷◌, ◌++◌, length, map, drop, get_or, refl, sym, ap, ◌∙◌, arith}
use Rattle.std.proofs.lemmas.List.{length-append}
use Rattle.pw_data.specs.Store.{joined}
use Rattle.pw_data.specs.declared.item.Item.{Item}
use Rattle.pw_operands.specs.Resolved.{Each}
use Rattle.pw_tree_meaning.specs.Program.{Program}
use Rattle.pw_tree_meaning.specs.Store.{Store, Spot, put_at}
use Rattle.pw_tree_meaning.proofs.Stores.{put-sizes}
use Rattle.pw_tree_meaning.proofs.storage.Cuts.{Cut}
use Rattle.pw_tree_meaning.proofs.storage.Places.{each-map}

abbrev sizes : Store → List ℕ
sizes cells = map (λ cell. length cell.chars) cells

first-same : (m n : ℕ) (ms ns : List ℕ) → m ∷ ms ≡ n ∷ ns → m ≡ n
first-same m n ms ns e = ap (λ xs. get_or xs 0 0) e

rest-same : (m n : ℕ) (ms ns : List ℕ) → m ∷ ms ≡ n ∷ ns → ms ≡ ns
rest-same m n ms ns e = ap (drop 1) e

-- stores with the same sizes are as long
same-long : (xs ys : Store) → sizes xs ≡ sizes ys → length (joined xs) ≡ length (joined ys)
same-long [] [] e = refl
same-long [] (y ∷ ys) e = absurd cc
same-long (x ∷ xs) [] e = absurd cc
same-long (x ∷ xs) (y ∷ ys) e =
    omega (
      arith,
      length-append x.chars (joined xs),
      length-append y.chars (joined ys),
      first-same (length x.chars) (length y.chars) (sizes xs) (sizes ys) e,
      same-long xs ys (rest-same (length x.chars) (length y.chars) (sizes xs) (sizes ys) e),
    )

-- a store with the sizes of two others, one behind the other
record Halves (xs ys zs : Store) : Type 0 where
  front : Store
  back : Store
  is : zs ≡ front ++ back
  first : sizes xs ≡ sizes front
  second : sizes ys ≡ sizes back

one-more : {xs ys : List ℕ} (m n : ℕ) → m ≡ n → xs ≡ ys → m ∷ xs ≡ n ∷ ys
one-more m n p q = cc

halves : (xs ys zs : Store) → sizes (xs ++ ys) ≡ sizes zs → Halves xs ys zs
halves [] ys zs e = record { front = []; back = zs; is = refl; first = refl; second = e }
halves (x ∷ xs) ys [] e = absurd cc
halves (x ∷ xs) ys (z ∷ zs) e =
    let own = first-same (length x.chars) (length z.chars) (sizes (xs ++ ys)) (sizes zs) e in
    let h = halves xs ys zs (rest-same (length x.chars) (length z.chars) (sizes (xs ++ ys)) (sizes zs) e) in
    record { front = z ∷ h.front; back = h.back; is = ap (λ all. z ∷ all) h.is; first = one-more (length x.chars) (length z.chars) own h.first; second = h.second }

-- a run of cells is one of each store with the same sizes
pub cut-same : (xs ys : Store) (at size : ℕ) → sizes ys ≡ sizes xs → Cut xs at size → Cut ys at size
cut-same xs ys at size same c =
    let h = halves c.front (c.run ++ c.back) ys (sym (ap sizes c.is) ∙ sym same) in
    let k = halves c.run c.back h.back h.second in
    record {
      front = h.front;
      run = k.front;
      back = k.back;
      is = h.is ∙ ap (λ all. h.front ++ all) k.is;
      starts = sym (same-long c.front h.front h.first) ∙ c.starts;
      reaches = sym (same-long c.run k.front k.first) ∙ c.reaches;
    }

pub cut-kept : (spot : Spot) (chars : List ℕ) (store : Store) (at size : ℕ) → Cut store at size → Cut (put_at spot chars store) at size
cut-kept spot chars store at size c = cut-same store (put_at spot chars store) at size (put-sizes spot chars store) c

-- each occurrence of the item is a run of cells
abbrev pub IsCut : Store → Item → Type 0
IsCut store item = (k : ℕ) → 1 ≤ k → k ≤ max item.occurs 1 → Cut store (item.at + (k - 1) * item.step) item.size

-- so is each occurrence of each item of a program, and together the cells are as long as its storage
abbrev pub Ground : Program → Store → Type 0
Ground program store = Each (IsCut store) program.layout.items × (length (joined store) ≡ length program.layout.storage)

pub ground-kept : (program : Program) (spot : Spot) (chars : List ℕ) (store : Store) → Ground program store → Ground program (put_at spot chars store)
ground-kept program spot chars store ok = (
  each-map (IsCut store) (IsCut (put_at spot chars store)) program.layout.items
      (λ item cuts k low high. cut-kept spot chars store (item.at + (k - 1) * item.step) item.size (cuts k low high)) ok.0,
  same-long (put_at spot chars store) store (put-sizes spot chars store) ∙ ok.1,
)
