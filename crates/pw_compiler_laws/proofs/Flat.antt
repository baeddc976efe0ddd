-- A store and its characters, one cell behind the other.
use Rattle.std.proofs.Common.{◌≡◌, ℕ, zero, suc, ◌+◌, ◌-◌, ◌<◌, ◌≤◌, Bool, true, false, List, [], ◌∷◌, ◌++◌, length, take, drop, replicate, if◌then◌else◌, refl, sym, ap, ◌∙◌, ⊎_elim, append_assoc, arith}
use Rattle.std.proofs.lemmas.Bool.{and_parts, and_from, leb-true, ltb-true, le-leb, lt-ltb, cases_lt, false≢true}
use Rattle.std.proofs.lemmas.List.{length-append, length-drop, append-nil, nil_from_length}
use Rattle.pw_picture.specs.Text.{fitted}
use Rattle.pw_data.specs.Store.{Cell, joined}
use Rattle.pw_data.proofs.Cells.{joined-append}
use Rattle.pw_terminal.specs.Shown.{written}
use Rattle.pw_tree_meaning.specs.Store.{Spot, lies_in, chars_from, chars_at, put_from, put_at}
use Rattle.pw_tree_meaning.proofs.storage.Cuts.{Cut}
use Rattle.pw_tree_meaning.proofs.storage.Initial.{take-front}

-- ---- lists

pub drop-front : (xs ys : List ℕ) (n : ℕ) → length xs ≡ n → drop n (xs ++ ys) ≡ ys
drop-front [] ys zero is = refl
drop-front [] ys (suc n) is = absurd (omega (arith, is))
drop-front (x ∷ xs) ys zero is = absurd (omega (arith, is))
drop-front (x ∷ xs) ys (suc n) is = drop-front xs ys n (omega (arith, is))

take-all : (xs : List ℕ) (n : ℕ) → length xs ≡ n → take n xs ≡ xs
take-all xs n is = ap (take n) (sym (append-nil xs)) ∙ take-front xs [] n is

take-none : (n : ℕ) → take {A = ℕ} n [] ≡ []
take-none zero = refl
take-none (suc n) = refl

drop-none : (n : ℕ) → drop {A = ℕ} n [] ≡ []
drop-none zero = refl
drop-none (suc n) = refl

take-add : (m n : ℕ) (xs : List ℕ) → take (m + n) xs ≡ take m xs ++ take n (drop m xs)
take-add zero n xs = let e : zero + n ≡ n = omega arith in ap (λ k. take k xs) e
take-add (suc m) n [] = take-none (suc m + n) ∙ sym (take-none n)
take-add (suc m) n (x ∷ xs) =
    let e : suc m + n ≡ suc (m + n) = omega arith in
    ap (λ k. take k (x ∷ xs)) e ∙ ap (λ zs. x ∷ zs) (take-add m n xs)

drop-add : (m n : ℕ) (xs : List ℕ) → drop n (drop m xs) ≡ drop (m + n) xs
drop-add zero n xs = let e : n ≡ zero + n = omega arith in ap (λ k. drop k xs) e
drop-add (suc m) n [] = drop-none n ∙ sym (drop-none (suc m + n))
drop-add (suc m) n (x ∷ xs) =
    let e : suc (m + n) ≡ suc m + n = omega arith in
    drop-add m n xs ∙ ap (λ k. drop k (x ∷ xs)) e

-- ---- which cells lie in a spot

lies : (spot : Spot) (p : ℕ) → lies_in spot p ≡ true → (spot.at ≤ p) × (p < spot.at + spot.size)
lies spot p e = let parts = and_parts _ _ e in (leb-true _ _ parts.0, ltb-true _ _ parts.1)

lies-not : (spot : Spot) (p : ℕ) → lies_in spot p ≡ false → spot.at ≤ p → spot.at + spot.size ≤ p
lies-not spot p e from =
    ⊎_elim (λ low. absurd (false≢true (sym e ∙ and_from _ _ (le-leb _ _ from) (lt-ltb _ _ low)))) (λ high. high) (cases_lt p (spot.at + spot.size))

-- ---- the characters of a spot

module _ (spot : Spot) where
  chars-append : (p : ℕ) (xs ys : List Cell) → chars_from spot p (xs ++ ys) ≡ chars_from spot p xs ++ chars_from spot (p + length (joined xs)) ys
  chars-append p [] ys = let e : p ≡ p + 0 = omega arith in ap (λ n. chars_from spot n ys) e
  chars-append p (x ∷ xs) ys =
      let own : List ℕ = if lies_in spot p then x.chars else [] in
      let e : p + length x.chars + length (joined xs) ≡ p + length (x.chars ++ joined xs) = omega (arith, length-append x.chars (joined xs)) in
      ap (λ zs. own ++ zs) (chars-append (p + length x.chars) xs ys)
      ∙ ap (λ n. own ++ (chars_from spot (p + length x.chars) xs ++ chars_from spot n ys)) e
      ∙ sym (append_assoc own (chars_from spot (p + length x.chars) xs) (chars_from spot (p + length (x.chars ++ joined xs)) ys))

  none-by : (b : Bool) (p : ℕ) (chars rest : List ℕ) → lies_in spot p ≡ b → (spot.at ≤ p → p < spot.at + spot.size → length chars ≡ 0) → rest ≡ []
      → (if b then chars else []) ++ rest ≡ []
  none-by true p chars rest e short is = let at = lies spot p e in ap (λ xs. xs ++ rest) (nil_from_length chars (short at.0 at.1)) ∙ is
  none-by false p chars rest e short is = is

  chars-before : (p : ℕ) (xs : List Cell) → p + length (joined xs) ≤ spot.at → chars_from spot p xs ≡ []
  chars-before p [] le = refl
  chars-before p (x ∷ xs) le =
      let long = length-append x.chars (joined xs) in
      none-by (lies_in spot p) p x.chars (chars_from spot (p + length x.chars) xs) refl (λ from below. omega (arith, le, long, from)) (chars-before (p + length x.chars) xs (omega (arith, le, long)))

  chars-behind : (p : ℕ) (xs : List Cell) → spot.at + spot.size ≤ p → chars_from spot p xs ≡ []
  chars-behind p [] le = refl
  chars-behind p (x ∷ xs) le =
      none-by (lies_in spot p) p x.chars (chars_from spot (p + length x.chars) xs) refl (λ from below. absurd (omega (arith, le, below))) (chars-behind (p + length x.chars) xs (omega (arith, le)))

  all-by : (b : Bool) (p : ℕ) (chars : List ℕ) → lies_in spot p ≡ b → spot.at ≤ p → p + length chars ≤ spot.at + spot.size → (if b then chars else []) ≡ chars
  all-by true p chars e from le = refl
  all-by false p chars e from le = sym (nil_from_length chars (omega (arith, lies-not spot p e from, le)))

  chars-inside : (p : ℕ) (xs : List Cell) → spot.at ≤ p → p + length (joined xs) ≤ spot.at + spot.size → chars_from spot p xs ≡ joined xs
  chars-inside p [] from le = refl
  chars-inside p (x ∷ xs) from le =
      let long = length-append x.chars (joined xs) in
      ap (λ zs. zs ++ chars_from spot (p + length x.chars) xs) (all-by (lies_in spot p) p x.chars refl from (omega (arith, le, long)))
      ∙ ap (λ zs. x.chars ++ zs) (chars-inside (p + length x.chars) xs (omega (arith, from)) (omega (arith, le, long)))

  -- ---- putting into a spot

  before-by : (b : Bool) (p : ℕ) (chars : List ℕ) (x : Cell) (more : List Cell) (rest : List ℕ) → lies_in spot p ≡ b → (spot.at ≤ p → length x.chars ≡ 0)
      → ((given : List ℕ) → given ≡ chars → joined (put_from spot given (p + length x.chars) more) ≡ rest)
      → joined (if b then record x { chars = fitted (length x.chars) chars } ∷ put_from spot (drop (length x.chars) chars) (p + length x.chars) more else x ∷ put_from spot chars (p + length x.chars) more)
      ≡ x.chars ++ rest
  before-by true p chars x more rest e short same =
      let none : length x.chars ≡ 0 = short (lies spot p e).0 in
      ap (λ n. fitted n chars ++ joined (put_from spot (drop (length x.chars) chars) (p + length x.chars) more)) none
      ∙ ap (λ n. (take 0 chars ++ replicate (0 - length chars) 32) ++ joined (put_from spot (drop n chars) (p + length x.chars) more)) none
      ∙ empty (length chars)
      ∙ ap (λ zs. zs ++ rest) (sym (nil_from_length x.chars none))
    where
      empty : (n : ℕ) → (take 0 chars ++ replicate (0 - n) 32) ++ joined (put_from spot (drop 0 chars) (p + length x.chars) more) ≡ rest
      empty n = let e : 0 - n ≡ 0 = omega arith in ap (λ k. (take 0 chars ++ replicate k 32) ++ joined (put_from spot chars (p + length x.chars) more)) e ∙ same chars refl
  before-by false p chars x more rest e short same = ap (λ zs. x.chars ++ zs) (same chars refl)

  put-before : (chars : List ℕ) (p : ℕ) (xs more : List Cell) → p + length (joined xs) ≤ spot.at
      → joined (put_from spot chars p (xs ++ more)) ≡ joined xs ++ joined (put_from spot chars (p + length (joined xs)) more)
  put-before chars p [] more le = let e : p ≡ p + 0 = omega arith in ap (λ n. joined (put_from spot chars n more)) e
  put-before chars p (x ∷ xs) more le =
      let long = length-append x.chars (joined xs) in
      let e : p + length x.chars + length (joined xs) ≡ p + length (x.chars ++ joined xs) = omega (arith, long) in
      before-by (lies_in spot p) p chars x (xs ++ more) (joined xs ++ joined (put_from spot chars (p + length (x.chars ++ joined xs)) more)) refl
      (λ from. omega (arith, le, long, from))
      (λ given is. ap (λ g. joined (put_from spot g (p + length x.chars) (xs ++ more))) is ∙ put-before chars (p + length x.chars) xs more (omega (arith, le, long)) ∙ ap (λ n. joined xs ++ joined (put_from spot chars n more)) e)
      ∙ sym (append_assoc x.chars (joined xs) (joined (put_from spot chars (p + length (x.chars ++ joined xs)) more)))

  behind-by : (b : Bool) (p : ℕ) (chars : List ℕ) (x : Cell) (xs : List Cell) → lies_in spot p ≡ b → spot.at + spot.size ≤ p → put_from spot chars (p + length x.chars) xs ≡ xs
      → (if b then record x { chars = fitted (length x.chars) chars } ∷ put_from spot (drop (length x.chars) chars) (p + length x.chars) xs else x ∷ put_from spot chars (p + length x.chars) xs) ≡ x ∷ xs
  behind-by true p chars x xs e le same = absurd (omega (arith, le, (lies spot p e).1))
  behind-by false p chars x xs e le same = ap (λ zs. x ∷ zs) same

  put-behind : (chars : List ℕ) (p : ℕ) (xs : List Cell) → spot.at + spot.size ≤ p → put_from spot chars p xs ≡ xs
  put-behind chars p [] le = refl
  put-behind chars p (x ∷ xs) le = behind-by (lies_in spot p) p chars x xs refl le (put-behind chars (p + length x.chars) xs (omega (arith, le)))

  fitted-front : (n : ℕ) (chars : List ℕ) → n ≤ length chars → fitted n chars ≡ take n chars
  fitted-front n chars le = let e : n - length chars ≡ 0 = omega (arith, le) in ap (λ k. take n chars ++ replicate k 32) e ∙ append-nil (take n chars)

  inside-by : (b : Bool) (p : ℕ) (chars : List ℕ) (x : Cell) (more : List Cell) → lies_in spot p ≡ b → spot.at ≤ p → p + length x.chars ≤ spot.at + spot.size → length x.chars ≤ length chars
      → joined (if b then record x { chars = fitted (length x.chars) chars } ∷ put_from spot (drop (length x.chars) chars) (p + length x.chars) more else x ∷ put_from spot chars (p + length x.chars) more)
      ≡ take (length x.chars) chars ++ joined (put_from spot (drop (length x.chars) chars) (p + length x.chars) more)
  inside-by true p chars x more e from le enough = ap (λ zs. zs ++ joined (put_from spot (drop (length x.chars) chars) (p + length x.chars) more)) (fitted-front (length x.chars) chars enough)
  inside-by false p chars x more e from le enough =
      let none : length x.chars ≡ 0 = omega (arith, lies-not spot p e from, le) in
      ap (λ zs. zs ++ joined (put_from spot chars (p + length x.chars) more)) (nil_from_length x.chars none)
      ∙ ap (λ n. take n chars ++ joined (put_from spot (drop n chars) (p + length x.chars) more)) (sym none)

  put-inside : (chars : List ℕ) (p : ℕ) (xs more : List Cell) → spot.at ≤ p → p + length (joined xs) ≤ spot.at + spot.size → length (joined xs) ≤ length chars
      → joined (put_from spot chars p (xs ++ more)) ≡ take (length (joined xs)) chars ++ joined (put_from spot (drop (length (joined xs)) chars) (p + length (joined xs)) more)
  put-inside chars p [] more from le enough = let e : p ≡ p + 0 = omega arith in ap (λ n. joined (put_from spot chars n more)) e
  put-inside chars p (x ∷ xs) more from le enough =
      let n = length x.chars in
      let m = length (joined xs) in
      let long : length (x.chars ++ joined xs) ≡ n + m = length-append x.chars (joined xs) in
      let left : length (drop n chars) ≡ length chars - n = length-drop n chars in
      let e : p + n + m ≡ p + length (x.chars ++ joined xs) = omega (arith, long) in
      inside-by (lies_in spot p) p chars x (xs ++ more) refl from (omega (arith, le, long)) (omega (arith, enough, long))
      ∙ ap (λ zs. take n chars ++ zs) (put-inside (drop n chars) (p + n) xs more (omega (arith, from)) (omega (arith, le, long)) (omega (arith, enough, long, left)))
      ∙ sym (append_assoc (take n chars) (take m (drop n chars)) (joined (put_from spot (drop m (drop n chars)) (p + n + m) more)))
      ∙ ap (λ zs. zs ++ joined (put_from spot (drop m (drop n chars)) (p + n + m) more)) (sym (take-add n m chars))
      ∙ ap (λ cs. take (n + m) chars ++ joined (put_from spot cs (p + n + m) more)) (drop-add n m chars)
      ∙ ap (λ k. take (n + m) chars ++ joined (put_from spot (drop (n + m) chars) k more)) e
      ∙ ap (λ k. take k chars ++ joined (put_from spot (drop k chars) (p + length (x.chars ++ joined xs)) more)) (sym long)

-- a store by its cut
parts : (cells : List Cell) (a n : ℕ) (tail : List ℕ) → (c : Cut cells a n) → joined cells ++ tail ≡ joined c.front ++ (joined c.run ++ (joined c.back ++ tail))
parts cells a n tail c =
    ap (λ xs. joined xs ++ tail) c.is ∙ ap (λ zs. zs ++ tail) (joined-append c.front (c.run ++ c.back) ∙ ap (λ zs. joined c.front ++ zs) (joined-append c.run c.back))
    ∙ append_assoc (joined c.front) (joined c.run ++ joined c.back) tail ∙ ap (λ zs. joined c.front ++ zs) (append_assoc (joined c.run) (joined c.back) tail)

-- the characters of a spot are those that lie there
pub flat-chars : (spot : Spot) (cells : List Cell) (tail : List ℕ) → Cut cells spot.at spot.size → take spot.size (drop spot.at (joined cells ++ tail)) ≡ chars_at spot cells
flat-chars spot cells tail c =
    let f = joined c.front in
    let r = joined c.run in
    let p : ℕ = 0 + length f in
    let q : ℕ = p + length r in
    let own : chars_at spot cells ≡ r =
    ap (chars_at spot) c.is ∙ chars-append spot 0 c.front (c.run ++ c.back) ∙ ap (λ zs. zs ++ chars_from spot p (c.run ++ c.back)) (chars-before spot 0 c.front (omega (arith, c.starts)))
    ∙ chars-append spot p c.run c.back ∙ ap (λ zs. zs ++ chars_from spot q c.back) (chars-inside spot p c.run (omega (arith, c.starts)) (omega (arith, c.starts, c.reaches)))
    ∙ ap (λ zs. r ++ zs) (chars-behind spot q c.back (omega (arith, c.starts, c.reaches))) ∙ append-nil r in
    ap (λ zs. take spot.size (drop spot.at zs)) (parts cells spot.at spot.size tail c)
    ∙ ap (take spot.size) (drop-front f (r ++ (joined c.back ++ tail)) spot.at c.starts)
    ∙ take-front r (joined c.back ++ tail) spot.size c.reaches ∙ sym own

-- characters that are put into a spot are written there
pub flat-put : (spot : Spot) (chars tail : List ℕ) (cells : List Cell) → Cut cells spot.at spot.size → length chars ≡ spot.size
    → written spot.at chars (joined cells ++ tail) ≡ joined (put_at spot chars cells) ++ tail
flat-put spot chars tail cells c long =
    let f = joined c.front in
    let r = joined c.run in
    let b = joined c.back in
    let p : ℕ = 0 + length f in
    let q : ℕ = p + length r in
    let size : length r ≡ length chars = c.reaches ∙ sym long in
    let put : joined (put_at spot chars cells) ≡ f ++ (chars ++ b) =
    ap (λ xs. joined (put_at spot chars xs)) c.is
    ∙ put-before spot chars 0 c.front (c.run ++ c.back) (omega (arith, c.starts))
    ∙ ap (λ zs. f ++ zs) (put-inside spot chars p c.run c.back (omega (arith, c.starts)) (omega (arith, c.starts, c.reaches)) (omega (arith, size))
    ∙ ap (λ zs. zs ++ joined (put_from spot (drop (length r) chars) q c.back)) (take-all chars (length r) (sym size))
    ∙ ap (λ xs. chars ++ joined xs) (put-behind spot (drop (length r) chars) q c.back (omega (arith, c.starts, c.reaches)))) in
    let whole = parts cells spot.at spot.size tail c in
    let behind : drop (spot.at + length chars) (f ++ (r ++ (b ++ tail))) ≡ b ++ tail =
    sym (drop-add spot.at (length chars) (f ++ (r ++ (b ++ tail)))) ∙ ap (drop (length chars)) (drop-front f (r ++ (b ++ tail)) spot.at c.starts) ∙ drop-front r (b ++ tail) (length chars) size in
    ap (λ zs. take spot.at zs ++ (chars ++ drop (spot.at + length chars) zs)) whole
    ∙ ap (λ zs. zs ++ (chars ++ drop (spot.at + length chars) (f ++ (r ++ (b ++ tail))))) (take-front f (r ++ (b ++ tail)) spot.at c.starts)
    ∙ ap (λ zs. f ++ (chars ++ zs)) behind
    ∙ ap (λ zs. f ++ zs) (sym (append_assoc chars b tail))
    ∙ sym (append_assoc f (chars ++ b) tail)
    ∙ ap (λ zs. zs ++ tail) (sym put)
