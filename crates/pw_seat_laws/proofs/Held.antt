-- The item SEAT-ROW of SALE-P as the row that was read, but for seats that nobody held.
use Rattle.std.proofs.Common.{◌≡◌, ◌≢◌, ℕ, zero, suc, ◌+◌, ◌-◌, ◌*◌, ◌<◌, ◌≤◌, Bool, true, false, List, [], ◌∷◌, ◌++◌, length, take, drop, Some, None, if◌then◌else◌, refl, sym, ap, ◌∙◌, subst, arith}
use Rattle.std.specs.Prelude.{◌==◌, codes}
use Rattle.std.proofs.lemmas.Bool.{eq-eqb, eqb-true, false≢true}
use Rattle.std.proofs.Math.Seq.{drop-append_seam, take-append_seam}
use Rattle.std.proofs.lemmas.List.{length-append, length-take, take-append-le, take-take}
use Rattle.pw_picture.specs.declared.picture.Picture.TheVariants as picture
use Rattle.pw_picture.specs.Text.{fitted}
use Rattle.pw_program_laws.proofs.Texts.{length-fitted}
use Rattle.pw_seat_laws.proofs.Parts.{apart-by, by-bool, fitted-whole, put-inside, put-outside, split-chars}
use Rattle.pw_seat_laws.specs.Seats.{KeepsHolders, holder_in}
use Rattle.pw_tree_meaning.proofs.Stored.{sizes}
use Rattle.pw_tree_meaning.proofs.Stores.{put-sizes}
use Rattle.pw_tree_meaning.specs.Store.{Spot, Store, chars_at, chars_from, lies_in, put_at}

-- ---- how long the parts are

abbrev pub sale_sizes : List ℕ
sale_sizes =
    6 ∷ 1 ∷ 1 ∷ 4 ∷ 1 ∷ 2 ∷ 1 ∷ 2 ∷ 1 ∷ 2 ∷ 1 ∷ 2 ∷ 1 ∷ 4 ∷ 2 ∷ 1 ∷ 1 ∷ 1 ∷ 6 ∷ 1 ∷ 1 ∷ 1 ∷ 6 ∷ 1 ∷ 1 ∷ 1 ∷ 6 ∷ 1 ∷ 1 ∷ 1 ∷ 6
    ∷ 1 ∷ 1 ∷ 4 ∷ 5 ∷ 16 ∷ []

abbrev covered : Spot → ℕ → List ℕ → ℕ
covered spot place [] = 0
covered spot place (n ∷ ns) = (if lies_in spot place then n else 0) + covered spot (place + n) ns

length-by : (b : Bool) (chars : List ℕ) → length (if b then chars else []) ≡ (if b then length chars else 0)
length-by true chars = refl
length-by false chars = refl

length-chars_from : (spot : Spot) (place : ℕ) (store : Store) → length (chars_from spot place store) ≡ covered spot place (sizes store)
length-chars_from spot place [] = refl
length-chars_from spot place (cell ∷ cells) =
    length-append (if lies_in spot place then cell.chars else []) (chars_from spot (place + length cell.chars) cells)
    ∙ ap (λ n. n + length (chars_from spot (place + length cell.chars) cells)) (length-by (lies_in spot place) cell.chars)
    ∙ ap (λ n. (if lies_in spot place then length cell.chars else 0) + n) (length-chars_from spot (place + length cell.chars) cells)

abbrev pub Fits : Store → Type 0
Fits store = sizes store ≡ sale_sizes

size-of : (spot : Spot) (store : Store) → Fits store → length (chars_at spot store) ≡ covered spot 0 sale_sizes
size-of spot store fits = length-chars_from spot 0 store ∙ ap (covered spot 0) fits

-- what holds of each of the four seats holds of all
pub four : (P : ℕ → Type 0) → P 0 → P 1 → P 2 → P 3 → (n : ℕ) → n < 4 → P n
four P a b c d zero lt = a
four P a b c d (suc zero) lt = b
four P a b c d (suc (suc zero)) lt = c
four P a b c d (suc (suc (suc zero))) lt = d
four P a b c d (suc (suc (suc (suc more)))) lt = absurd (omega (arith, lt))

-- ---- the parts of SEAT-ROW

abbrev spot_at : ℕ → ℕ → Spot
spot_at at size = record { at = at; size = size; picture = None }

abbrev pub row_spot : Spot
row_spot = spot_at 25 42

abbrev pub key_spot : Spot
key_spot = spot_at 25 6

abbrev pub holder_spot : ℕ → Spot
holder_spot seat = record { at = 34 + (suc seat - 1) * 9; size = 6; picture = Some (picture.Text 6) }

take-first : (n : ℕ) (xs ys : List ℕ) → length xs ≡ n → take n (xs ++ ys) ≡ xs
take-first n xs ys long = subst (λ (m : ℕ). take m (xs ++ ys) ≡ xs) long (take-append_seam xs ys)

drop-first : (n : ℕ) (xs ys : List ℕ) → length xs ≡ n → drop n (xs ++ ys) ≡ ys
drop-first n xs ys long = subst (λ (m : ℕ). drop m (xs ++ ys) ≡ ys) long (drop-append_seam xs ys)

module _ (store : Store) (fits : Fits store) where
  pub row-long : length (chars_at row_spot store) ≡ 42
  row-long = size-of row_spot store fits

  pub holder-long : (seat : ℕ) → seat < 4 → length (chars_at (holder_spot seat) store) ≡ 6
  holder-long =
      four (λ seat. length (chars_at (holder_spot seat) store) ≡ 6)
      (size-of (holder_spot 0) store fits) (size-of (holder_spot 1) store fits) (size-of (holder_spot 2) store fits) (size-of (holder_spot 3) store fits)

  before-long : (seat : ℕ) → seat < 4 → length (chars_at (spot_at 25 (9 + 9 * seat)) store) ≡ 9 + 9 * seat
  before-long =
      four (λ seat. length (chars_at (spot_at 25 (9 + 9 * seat)) store) ≡ 9 + 9 * seat)
      (size-of (spot_at 25 9) store fits) (size-of (spot_at 25 18) store fits) (size-of (spot_at 25 27) store fits) (size-of (spot_at 25 36) store fits)

  pub key-part : chars_at key_spot store ≡ take 6 (chars_at row_spot store)
  key-part =
      let key : List ℕ = chars_at key_spot store in
      let rest : List ℕ = chars_at (spot_at 31 36) store in
      sym (ap (take 6) (split-chars row_spot key_spot (spot_at 31 36) refl refl refl store) ∙ take-first 6 key rest (size-of key_spot store fits))

  pub holder-part : (seat : ℕ) → seat < 4 → chars_at (holder_spot seat) store ≡ take 6 (drop (9 + 9 * seat) (chars_at row_spot store))
  holder-part seat lt =
      let before : Spot = spot_at 25 (9 + 9 * seat) in
      let rest : Spot = spot_at (34 + seat * 9) (33 - 9 * seat) in
      let after : Spot = spot_at (40 + seat * 9) (27 - 9 * seat) in
      let one : chars_at row_spot store ≡ chars_at before store ++ chars_at rest store =
      split-chars row_spot before rest refl (omega arith) (omega (arith, lt)) store in
      let two : chars_at rest store ≡ chars_at (holder_spot seat) store ++ chars_at after store =
      split-chars rest (holder_spot seat) after (omega arith) (omega arith) (omega (arith, lt)) store in
      sym
      (ap (λ xs. take 6 (drop (9 + 9 * seat) xs)) one
      ∙ ap (take 6) (drop-first (9 + 9 * seat) (chars_at before store) (chars_at rest store) (before-long seat lt))
      ∙ ap (take 6) two
      ∙ take-first 6 (chars_at (holder_spot seat) store) (chars_at after store) (holder-long seat lt))

-- ---- what is known of SEAT-ROW

abbrev pub dots : List ℕ
dots = codes "......"

-- it has the key of a row, and each holder of it
pub record Held (row : List ℕ) (store : Store) : Type 0 where
  pub fits : Fits store
  pub key : chars_at key_spot store ≡ take 6 (fitted 42 row)
  pub holders : (seat : ℕ) → seat < 4 → holder_in seat row ≢ dots → chars_at (holder_spot seat) store ≡ holder_in seat row

pub fits-put : (spot : Spot) (chars : List ℕ) (store : Store) → Fits store → Fits (put_at spot chars store)
fits-put spot chars store fits = put-sizes spot chars store ∙ fits

-- the row that was read
pub held-read : (row : List ℕ) (store : Store) → Fits store → Held row (put_at row_spot (fitted 42 row) store)
held-read row store fits =
    let after : Store = put_at row_spot (fitted 42 row) store in
    let now : Fits after = fits-put row_spot (fitted 42 row) store fits in
    let whole : chars_at row_spot after ≡ fitted 42 row =
    put-inside row_spot (fitted 42 row) store (length-fitted 42 row ∙ sym (row-long store fits)) in
    record {
      fits = now;
      key = key-part after now ∙ ap (take 6) whole;
      holders = λ seat lt held. holder-part after now seat lt ∙ ap (λ xs. take 6 (drop (9 + 9 * seat) xs)) whole;
    }

-- the row that is written
pub held-written : (row : List ℕ) (store : Store) → Held row store → KeepsHolders row (chars_at row_spot store)
held-written row store held seat lt some =
    let whole : fitted 42 (chars_at row_spot store) ≡ chars_at row_spot store = fitted-whole 42 (chars_at row_spot store) (row-long store held.fits) in
    ap (λ xs. take 6 (drop (9 + 9 * seat) xs)) whole ∙ sym (holder-part store held.fits seat lt) ∙ held.holders seat lt some

pub held-key : (row : List ℕ) (store : Store) → Held row store → 6 ≤ length row → take 6 (chars_at row_spot store) ≡ take 6 row
held-key row store held long =
    sym (key-part store held.fits) ∙ held.key
    ∙ take-append-le 6 (take 42 row) _ (omega (arith, length-take 42 row, long))
    ∙ take-take 6 42 row (omega arith)

-- putting into an item outside SEAT-ROW
pub held-outside : (row : List ℕ) (spot : Spot) (chars : List ℕ) (store : Store)
    → ((p : ℕ) → spot.at ≤ p → p < spot.at + spot.size → 25 ≤ p → p < 67 → ⊥) → Held row store → Held row (put_at spot chars store)
held-outside row spot chars store away held =
    record {
      fits = fits-put spot chars store held.fits;
      key = put-outside key_spot spot (apart-by key_spot spot (λ p from below low high. away p from below low (omega (arith, high)))) chars store ∙ held.key;
      holders = λ seat lt some.
          put-outside (holder_spot seat) spot (apart-by (holder_spot seat) spot (λ p from below low high. away p from below (omega (arith, low)) (omega (arith, high, lt)))) chars store
          ∙ held.holders seat lt some;
    }

-- putting a holder into a seat that nobody held
pub held-taken : (row : List ℕ) (spot : Spot) (own : ℕ) (chars : List ℕ) (store : Store) → spot.at ≡ 34 + own * 9 → spot.size ≡ 6 → own < 4
    → chars_at (holder_spot own) store ≡ dots → Held row store → Held row (put_at spot chars store)
held-taken row spot own chars store at size few free held =
    record {
      fits = fits-put spot chars store held.fits;
      key = put-outside key_spot spot (apart-by key_spot spot (λ p from below low high. omega (arith, from, high, at))) chars store ∙ held.key;
      holders = λ seat lt some.
          by-bool (seat == own) (chars_at (holder_spot seat) (put_at spot chars store) ≡ holder_in seat row)
          (λ e.
          let same : seat ≡ own = eqb-true seat own e in
          absurd (some (sym (held.holders seat lt some) ∙ ap (λ n. chars_at (holder_spot n) store) same ∙ free)))
          (λ e.
          put-outside (holder_spot seat) spot (apart-by (holder_spot seat) spot (λ p from below low high. eqb-apart seat own e (omega (arith, from, below, low, high, at, size)))) chars store
          ∙ held.holders seat lt some);
    }
  where
    eqb-apart : (a b : ℕ) → (a == b) ≡ false → a ≡ b → ⊥
    eqb-apart a b e same = absurd (false≢true (sym e ∙ eq-eqb a b same))
