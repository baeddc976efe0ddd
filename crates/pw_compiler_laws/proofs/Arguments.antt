-- Arguments of a CALL: how they are put into the called program and copied back.
use Rattle.std.proofs.Common.{◌≡◌, ℕ, ◌+◌, ◌-◌, ◌*◌, ◌<◌, ◌≤◌, Bool, true, false, List, [], ◌∷◌, ◌++◌, length, map, take, drop, Option, Some, None, IsSome, if◌then◌else◌, refl, sym, ap, ◌∙◌, arith}
use Rattle.std.specs.Prelude.{nat_le, ◌&&◌, ◌^◌, option_map}
use Rattle.std.proofs.lemmas.Bool.{and_parts, leb-true, or_parts}
use Rattle.std.proofs.Math.Nat.{mod-eq_of_lt}
use Rattle.std.proofs.lemmas.List.{append-nil, length-append, length-take, length-drop}
use Rattle.pw_base.specs.Limits.{most_occurrences}
use Rattle.pw_picture.specs.Stored.{value_of, digits_of}
use Rattle.pw_picture.proofs.Reading.{value_of-digits}
use Rattle.pw_words.specs.Words.{Word}
use Rattle.pw_data.specs.Layouts.{FitsPicture, place_at}
use Rattle.pw_data.specs.Names.{is_this_name}
use Rattle.pw_data.specs.Store.{joined}
use Rattle.pw_data.specs.declared.item.Item.{Item}
use Rattle.pw_data.proofs.Cells.{joined-append}
use Rattle.pw_operands.specs.Resolved.{Each}
use Rattle.pw_code.specs.declared.place.StoragePlace.{StoragePlace}
use Rattle.pw_code.specs.declared.place.Register.TheVariants as register
use Rattle.pw_code.specs.declared.place.PlaceSubscript as index
use Rattle.pw_code.specs.declared.place.PlaceSubscript.TheVariants as subscript
use Rattle.pw_code.specs.declared.place.PlaceTable.{PlaceTable}
use Rattle.pw_tree_meaning.specs.Program.{Program, item_named}
use Rattle.pw_tree_meaning.specs.State.{Registers}
use Rattle.pw_tree_meaning.specs.Store.{Store, Spot, spot_of, chars_at, put_at}
use Rattle.pw_tree_meaning.specs.Operands.{one_more}
use Rattle.pw_tree_meaning.specs.Performs as tree
use Rattle.pw_tree_meaning.proofs.Resolved.{each-found}
use Rattle.pw_tree_meaning.proofs.storage.Cuts.{Cut}
use Rattle.pw_tree_meaning.proofs.storage.Initial.{take-front}
use Rattle.pw_code_meaning.specs.Calls.{put_linkage, linkage_chars, put_all, kept, kept_in}
use Rattle.pw_code_meaning.specs.Reading as reading
use Rattle.pw_code_meaning.specs.Reading.{spots_of}
use Rattle.pw_compile.specs.Emitted.{keeps, is_by_register, is_register}
use Rattle.pw_compile.specs.Programs.{linked_by, linkage_of}
use Rattle.pw_terminal.specs.Shown.{written}
use Rattle.pw_terminal.proofs.Cells.{length-digits_of}
use Rattle.pw_compiler_laws.proofs.Flat.{flat-chars, flat-put, drop-front}
use Rattle.pw_compiler_laws.proofs.Ground.{Ground, IsCut, ground-kept}
use Rattle.pw_compiler_laws.proofs.Readings.{Sits, sits-kept}
use Rattle.std.specs.Prelude.{IfSome}
use Rattle.std.proofs.lemmas.Option.{same_Some}
use Rattle.pw_compiler_laws.proofs.Suits.{IsFew, IsKeptIndex, IsKeptTable, IsKeptPlace}
use Rattle.pw_compiler_laws.specs.Premises.{AreItems}

-- ---- the registers that a CALL keeps

value-again : (count size : ℕ) → size < 10 ^ count → value_of 0 (digits_of count size) ≡ size
value-again count size below = value_of-digits count 0 size ∙ ap (λ n. 0 * 10 ^ count + n) (mod-eq_of_lt below) ∙ omega arith

-- a register as its digits
first-same : (a b : List ℕ) (n : ℕ) → length a ≡ n → take n (a ++ b) ≡ a
first-same a b n long = take-front a b n long

abbrev reading-of : List ℕ → List ℕ → Registers
reading-of a b = record { termination = value_of 0 a; restarts = value_of 0 b; file_status = 0 }

kept-back : (registers : Registers) → kept_in (kept true registers)
    ≡ record { termination = value_of 0 (digits_of 4 registers.termination); restarts = value_of 0 (digits_of 5 registers.restarts); file_status = 0 }
kept-back registers =
    let t = digits_of 4 registers.termination in
    let r = digits_of 5 registers.restarts in
    ap (λ (chars : List ℕ). reading-of chars (take 5 (drop 4 (t ++ r)))) (first-same t r 4 (length-digits_of 4 registers.termination))
    ∙ ap (λ (chars : List ℕ). reading-of t (take 5 chars)) (drop-front t r 4 (length-digits_of 4 registers.termination))
    ∙ ap (λ (chars : List ℕ). reading-of t chars) (ap (take 5) (sym (append-nil r)) ∙ first-same r [] 5 (length-digits_of 5 registers.restarts))

-- what an index is, by the registers that a CALL kept: the same where it lies within a table
index-kept : (registers : Registers) (storage : List ℕ) (one : index.PlaceSubscript) (occurs : ℕ) → IsKeptIndex one → occurs ≤ most_occurrences
    → reading.subscript_of registers storage one ≤ occurs
    → reading.subscript_of (kept_in (kept true registers)) storage one ≡ reading.subscript_of registers storage one
index-kept registers storage (subscript.Number k) occurs is few within = refl
index-kept registers storage (subscript.Item at digits places) occurs is few within = refl
index-kept registers storage (subscript.Register register.Termination) occurs is few within =
    ap (λ (r : Registers). r.termination) (kept-back registers) ∙ value-again 4 registers.termination (omega (arith, few, within))
index-kept registers storage (subscript.Register register.Restarts) occurs is few within =
    ap (λ (r : Registers). r.restarts) (kept-back registers) ∙ value-again 5 registers.restarts (omega (arith, few, within))
index-kept registers storage (subscript.Register register.FileStatus) occurs is few within = absurd is

-- an occurrence that is there is there again
occurrence-by : (k occurs at step : ℕ) (b : Bool) → (nat_le 1 k && nat_le k occurs) ≡ b → (found : ℕ) → (if b then Some (at + (k - 1) * step) else None) ≡ Some found → k ≤ occurs
occurrence-by k occurs at step true e found is = leb-true k occurs (and_parts (nat_le 1 k) (nat_le k occurs) e).1
occurrence-by k occurs at step false e found is = absurd cc

at-kept : (registers : Registers) (storage : List ℕ) (at : ℕ) (table : Option PlaceTable) (found : ℕ) → IsKeptTable table → IfSome table (λ one. one.occurs ≤ most_occurrences)
    → reading.at_this_moment registers storage at table ≡ Some found → reading.at_this_moment (kept_in (kept true registers)) storage at table ≡ Some found
at-kept registers storage at None found is few e = e
at-kept registers storage at (Some table) found is few e =
    let k = reading.subscript_of registers storage table.subscript in
    let within = occurrence-by k table.occurs at table.step (nat_le 1 k && nat_le k table.occurs) refl found e in
    ap (reading.occurrence_at at table) (index-kept registers storage table.subscript table.occurs is few within) ∙ e

some-of : {A B : Type 0} (f : A → B) (o : Option A) (found : B) → option_map f o ≡ Some found → (x : A) × (o ≡ Some x) × (f x ≡ found)
some-of f None found e = absurd cc
some-of f (Some x) found e = (x, refl, same_Some (f x) found e)

spot-kept : (registers : Registers) (storage : List ℕ) (place : StoragePlace) (found : Spot) → IsKeptPlace place → IsFew place
    → reading.spot_of registers storage place ≡ Some found → reading.spot_of (kept_in (kept true registers)) storage place ≡ Some found
spot-kept registers storage place found is few e =
    let s = some-of (reading.spot_at place) (reading.at_this_moment registers storage place.at place.table) found e in
    ap (option_map (reading.spot_at place)) (at-kept registers storage place.at place.table s.0 is few s.1) ∙ ap Some s.2

-- each of some is there
pub one-some : {A : Type 0} (a : Option A) (b : Option (List A)) (x : A) (xs : List A) → one_more a b ≡ Some (x ∷ xs) → (a ≡ Some x) × (b ≡ Some xs)
one-some None b x xs e = absurd cc
one-some (Some y) None x xs e = absurd cc
one-some (Some y) (Some ys) x xs e = (cc, cc)

pub no-one : {A : Type 0} (a : Option A) (b : Option (List A)) → one_more a b ≡ Some [] → ⊥
no-one None b e = absurd cc
no-one (Some y) None e = absurd cc
no-one (Some y) (Some ys) e = absurd cc

both-some : {A : Type 0} (a : Option A) (b : Option (List A)) (x : A) (xs : List A) → a ≡ Some x → b ≡ Some xs → one_more a b ≡ Some (x ∷ xs)
both-some a b x xs e f = ap (λ o. one_more o b) e ∙ ap (one_more (Some x)) f

-- by registers by which the places lie where they did
spots-again : (old new : Registers) (storage : List ℕ) (places : List StoragePlace) (spots : List Spot)
    → Each (λ (place : StoragePlace). (spot : Spot) → reading.spot_of old storage place ≡ Some spot → reading.spot_of new storage place ≡ Some spot) places
    → spots_of old storage places ≡ Some spots → spots_of new storage places ≡ Some spots
spots-again old new storage [] spots same e = e
spots-again old new storage (place ∷ places) [] same e = absurd (no-one (reading.spot_of old storage place) (spots_of old storage places) e)
spots-again old new storage (place ∷ places) (spot ∷ spots) same e =
    let parts = one-some (reading.spot_of old storage place) (spots_of old storage places) spot spots e in
    both-some (reading.spot_of new storage place) (spots_of new storage places) spot spots (same.0 spot parts.0) (spots-again old new storage places spots same.1 parts.1)

-- as many characters as their places have
pub spots-long : (registers : Registers) (storage : List ℕ) (places : List StoragePlace) (spots : List Spot) → spots_of registers storage places ≡ Some spots
    → map (λ (spot : Spot). spot.size) spots ≡ map (λ (place : StoragePlace). place.size) places
spots-long registers storage [] spots e = ap (map (λ (spot : Spot). spot.size)) (sym (same_Some [] spots e))
spots-long registers storage (place ∷ places) [] e = absurd (no-one (reading.spot_of registers storage place) (spots_of registers storage places) e)
spots-long registers storage (place ∷ places) (spot ∷ spots) e =
    let parts = one-some (reading.spot_of registers storage place) (spots_of registers storage places) spot spots e in
    let s = some-of (reading.spot_at place) (reading.at_this_moment registers storage place.at place.table) spot parts.0 in
    ap (λ (n : ℕ). n ∷ map (λ (one : Spot). one.size) spots) (ap (λ (one : Spot). one.size) (sym s.2))
    ∙ ap (λ (ns : List ℕ). place.size ∷ ns) (spots-long registers storage places spots parts.1)

kept-each : (registers : Registers) (storage : List ℕ) (places : List StoragePlace) → Each IsKeptPlace places → Each IsFew places
    → Each (λ (place : StoragePlace). (spot : Spot) → reading.spot_of registers storage place ≡ Some spot → reading.spot_of (kept_in (kept true registers)) storage place ≡ Some spot) places
kept-each registers storage [] is few = tt
kept-each registers storage (place ∷ places) is few = ((λ spot e. spot-kept registers storage place spot is.0 few.0 e), kept-each registers storage places is.1 few.1)

-- the places of a CALL that keeps the registers
pub spots-kept : (registers : Registers) (storage : List ℕ) (places : List StoragePlace) (spots : List Spot) → Each IsKeptPlace places → Each IsFew places
    → spots_of registers storage places ≡ Some spots → spots_of (kept_in (kept true registers)) storage places ≡ Some spots
spots-kept registers storage places spots is few e =
    spots-again registers (kept_in (kept true registers)) storage places spots (kept-each registers storage places is few) e

-- ---- without registers

free-index : (old new : Registers) (storage : List ℕ) (one : index.PlaceSubscript) → is_register one ≡ false → reading.subscript_of new storage one ≡ reading.subscript_of old storage one
free-index old new storage (subscript.Number k) is = refl
free-index old new storage (subscript.Item at digits places) is = refl
free-index old new storage (subscript.Register one) is = absurd cc

free-at : (old new : Registers) (storage : List ℕ) (at : ℕ) (table : Option PlaceTable) → is_by_register table ≡ false
    → reading.at_this_moment new storage at table ≡ reading.at_this_moment old storage at table
free-at old new storage at None is = refl
free-at old new storage at (Some table) is = ap (reading.occurrence_at at table) (free-index old new storage table.subscript is)

free-each : (old new : Registers) (storage : List ℕ) (places : List StoragePlace) → keeps places ≡ false
    → Each (λ (place : StoragePlace). (spot : Spot) → reading.spot_of old storage place ≡ Some spot → reading.spot_of new storage place ≡ Some spot) places
free-each old new storage [] is = tt
free-each old new storage (place ∷ places) is =
    let parts = or_parts (is_by_register place.table) (keeps places) is in (
      (λ spot e. ap (option_map (reading.spot_at place)) (free-at old new storage place.at place.table parts.0) ∙ e),
      free-each old new storage places parts.1,
    )

pub spots-free : (old new : Registers) (storage : List ℕ) (places : List StoragePlace) (spots : List Spot) → keeps places ≡ false
    → spots_of old storage places ≡ Some spots → spots_of new storage places ≡ Some spots
spots-free old new storage places spots is e = spots-again old new storage places spots (free-each old new storage places is) e

-- ---- how long a spot is

length-taken : (n at : ℕ) (chars : List ℕ) → at + n ≤ length chars → length (take n (drop at chars)) ≡ n
length-taken n at chars le = omega (arith, length-take n (drop at chars), length-drop at chars, le)

pub length-joined : (store : Store) (at n : ℕ) → (c : Cut store at n) → at + n ≤ length (joined store)
length-joined store at n c =
    let whole : length (joined store) ≡ length (joined c.front ++ (joined c.run ++ joined c.back)) =
    ap length (ap joined c.is ∙ joined-append c.front (c.run ++ c.back) ∙ ap (λ zs. joined c.front ++ zs) (joined-append c.run c.back)) in
    omega (arith, whole, length-append (joined c.front) (joined c.run ++ joined c.back), length-append (joined c.run) (joined c.back), c.starts, c.reaches)

pub length-cut : (spot : Spot) (store : Store) → Cut store spot.at spot.size → length (chars_at spot store) ≡ spot.size
length-cut spot store cut =
    ap length (sym (flat-chars spot store [] cut) ∙ ap (λ chars. take spot.size (drop spot.at chars)) (append-nil (joined store)))
    ∙ length-taken spot.size spot.at (joined store) (length-joined store spot.at spot.size cut)

-- ---- USING items

abbrev sizes_of : List (ℕ × ℕ) → List ℕ
sizes_of items = map (λ (item : ℕ × ℕ). item.1) items

abbrev longs : List (List ℕ) → List ℕ
longs charss = map (λ chars. length chars) charss

abbrev first-of : List ℕ → ℕ
first-of [] = 0
first-of (x ∷ xs) = x

head-same : (m n : ℕ) (ms ns : List ℕ) → m ∷ ms ≡ n ∷ ns → (m ≡ n) × (ms ≡ ns)
head-same m n ms ns e = (ap first-of e, ap (drop 1) e)

item-place : (item : Item) → item.at + (1 - 1) * item.step ≡ item.at
item-place item = omega arith

module _ (program : Program) (fits : Each FitsPicture program.layout.items) where
  -- where an item lies, and what it says
  cut-of : (store : Store) (name : Word) (item : Item) → Ground program store → item_named program name ≡ Some item → Cut store (item.at + (1 - 1) * item.step) item.size
  cut-of store name item ground is =
      each-found (IsCut store) (λ one. is_this_name one.name name) program.layout.items item ground.0 is 1 (omega arith) (omega arith)

  -- where an item of a name begins, and its size
  abbrev linked : Option Item → ℕ × ℕ
  linked o = linked_by (option_map place_at o)

  -- characters are put into one of them
  put-one : (store : Store) (name : Word) (o : Option Item) (chars : List ℕ) → item_named program name ≡ o → IsSome o → Ground program store → length chars ≡ (linked o).1
      → written (linked o).0 chars (joined store ++ []) ≡ joined (put_at (tree.spot_by o) chars store) ++ []
  put-one store name None chars is some ground long = absurd cc
  put-one store name (Some item) chars is some ground long =
      ap (λ n. written n chars (joined store ++ [])) (sym (item-place item))
      ∙ flat-put (spot_of item 1) chars [] store (cut-of store name item ground is) long

  -- characters are put into each USING item
  pub linkage-put : (names : List Word) (charss : List (List ℕ)) (store : Store) → AreItems program names → Ground program store
      → longs charss ≡ sizes_of (linkage_of program.layout names)
      → put_linkage (linkage_of program.layout names) charss (joined store ++ []) ≡ joined (tree.put_all (map (λ name. tree.spot_by (item_named program name)) names) charss store) ++ []
  linkage-put [] charss store are ground long = refl
  linkage-put (name ∷ names) [] store are ground long = refl
  linkage-put (name ∷ names) (chars ∷ rest) store are ground long =
      let same = head-same (length chars) (linked (item_named program name)).1 (longs rest) (sizes_of (linkage_of program.layout names)) long in
      ap (put_linkage (linkage_of program.layout names) rest) (put-one store name (item_named program name) chars refl are.0 ground same.0)
      ∙ linkage-put names rest (put_at (tree.spot_by (item_named program name)) chars store) are.1
      (ground-kept program (tree.spot_by (item_named program name)) chars store ground) same.1

  -- what one of them says
  chars-one : (store : Store) (tail : List ℕ) (name : Word) (o : Option Item) → item_named program name ≡ o → IsSome o → Ground program store
      → take (linked o).1 (drop (linked o).0 (joined store ++ tail)) ≡ chars_at (tree.spot_by o) store
  chars-one store tail name None is some ground = absurd cc
  chars-one store tail name (Some item) is some ground =
      ap (λ n. take item.size (drop n (joined store ++ tail))) (sym (item-place item))
      ∙ flat-chars (spot_of item 1) store tail (cut-of store name item ground is)

  -- what each USING item says
  pub linkage-says : (names : List Word) (store : Store) (tail : List ℕ) → AreItems program names → Ground program store
      → linkage_chars (linkage_of program.layout names) (joined store ++ tail) ≡ tree.chars_of_all (map (λ name. tree.spot_by (item_named program name)) names) store
  linkage-says [] store tail are ground = refl
  linkage-says (name ∷ names) store tail are ground =
      ap (λ (chars : List ℕ). chars ∷ linkage_chars (linkage_of program.layout names) (joined store ++ tail)) (chars-one store tail name (item_named program name) refl are.0 ground)
      ∙ ap (λ (rest : List (List ℕ)). chars_at (tree.spot_by (item_named program name)) store ∷ rest) (linkage-says names store tail are.1 ground)

  long-one : (store : Store) (name : Word) (o : Option Item) → item_named program name ≡ o → IsSome o → Ground program store → length (chars_at (tree.spot_by o) store) ≡ (linked o).1
  long-one store name None is some ground = absurd cc
  long-one store name (Some item) is some ground = length-cut (spot_of item 1) store (cut-of store name item ground is)

  -- and how long that is
  pub linkage-long : (names : List Word) (store : Store) → AreItems program names → Ground program store
      → longs (tree.chars_of_all (map (λ name. tree.spot_by (item_named program name)) names) store) ≡ sizes_of (linkage_of program.layout names)
  linkage-long [] store are ground = refl
  linkage-long (name ∷ names) store are ground =
      ap (λ (n : ℕ). n ∷ longs (tree.chars_of_all (map (λ one. tree.spot_by (item_named program one)) names) store)) (long-one store name (item_named program name) refl are.0 ground)
      ∙ ap (λ (ns : List ℕ). (linked (item_named program name)).1 ∷ ns) (linkage-long names store are.1 ground)

-- ---- arguments

-- what each argument says
pub arguments-say : (spots : List Spot) (store : Store) (tail : List ℕ) → Each (Sits store) spots
    → map (λ (spot : Spot). reading.chars_at spot (joined store ++ tail)) spots ≡ tree.chars_of_all spots store
arguments-say [] store tail sits = refl
arguments-say (spot ∷ spots) store tail sits =
    ap (λ (chars : List ℕ). chars ∷ map (λ (one : Spot). reading.chars_at one (joined store ++ tail)) spots) (flat-chars spot store tail sits.0.cut)
    ∙ ap (λ (rest : List (List ℕ)). chars_at spot store ∷ rest) (arguments-say spots store tail sits.1)

pub arguments-long : (spots : List Spot) (store : Store) → Each (Sits store) spots → longs (tree.chars_of_all spots store) ≡ map (λ (spot : Spot). spot.size) spots
arguments-long [] store sits = refl
arguments-long (spot ∷ spots) store sits =
    ap (λ (n : ℕ). n ∷ longs (tree.chars_of_all spots store)) (length-cut spot store sits.0.cut) ∙ ap (λ (ns : List ℕ). spot.size ∷ ns) (arguments-long spots store sits.1)

each-sits : (spot : Spot) (chars : List ℕ) (store : Store) (spots : List Spot) → Each (Sits store) spots → Each (Sits (put_at spot chars store)) spots
each-sits spot chars store [] sits = tt
each-sits spot chars store (one ∷ ones) sits = (sits-kept spot chars store one sits.0, each-sits spot chars store ones sits.1)

-- they are copied back
pub arguments-put : (spots : List Spot) (charss : List (List ℕ)) (store : Store) (tail : List ℕ) → Each (Sits store) spots
    → longs charss ≡ map (λ (spot : Spot). spot.size) spots
    → put_all spots charss (joined store ++ tail) ≡ joined (tree.put_all spots charss store) ++ tail
arguments-put [] charss store tail sits long = refl
arguments-put (spot ∷ spots) [] store tail sits long = refl
arguments-put (spot ∷ spots) (chars ∷ rest) store tail sits long =
    let same = head-same (length chars) spot.size (longs rest) (map (λ (one : Spot). one.size) spots) long in
    ap (put_all spots rest) (flat-put spot chars tail store sits.0.cut same.0)
    ∙ arguments-put spots rest (put_at spot chars store) tail (each-sits spot chars store spots sits.1) same.1

pub put-ground : (program : Program) (spots : List Spot) (charss : List (List ℕ)) (store : Store) → Ground program store → Ground program (tree.put_all spots charss store)
put-ground program [] charss store ground = ground
put-ground program (spot ∷ spots) [] store ground = ground
put-ground program (spot ∷ spots) (chars ∷ rest) store ground =
    put-ground program spots rest (put_at spot chars store) (ground-kept program spot chars store ground)
