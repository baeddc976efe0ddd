-- What lies in the parts of an item, and what stays there.
use Rattle.std.proofs.Common.{◌≡◌, ℕ, ◌+◌, ◌-◌, ◌<◌, ◌≤◌, Bool, true, false, List, [], ◌∷◌, ◌++◌, length, take, drop, replicate, if◌then◌else◌, refl, sym, ap, ◌∙◌, subst, arith}
use Rattle.std.proofs.lemmas.Bool.{and_parts, leb-true, ltb-true, le-leb, lt-ltb, leb-false}
use Rattle.std.specs.Prelude.{nat_le, ◌&&◌}
use Rattle.std.proofs.lemmas.List.{append_assoc, append-nil, length-append, length-drop, take-append-drop, take_all}
use Rattle.pw_data.specs.Store.{Cell}
use Rattle.pw_picture.specs.Text.{fitted}
use Rattle.pw_program_laws.proofs.Texts.{length-fitted}
use Rattle.pw_tree_meaning.specs.Store.{Spot, Store, chars_at, chars_from, lies_in, put_at, put_from}

pub fitted-within : (n : ℕ) (xs : List ℕ) → n ≤ length xs → fitted n xs ≡ take n xs
fitted-within n xs within =
    let none : n - length xs ≡ 0 = omega (arith, within) in
    ap (λ m. take n xs ++ replicate m 32) none ∙ append-nil (take n xs)

pub fitted-whole : (n : ℕ) (xs : List ℕ) → length xs ≡ n → fitted n xs ≡ xs
fitted-whole n xs long = fitted-within n xs (omega (arith, long)) ∙ take_all n xs (omega (arith, long))

-- ---- which places lie in a spot

lies : (spot : Spot) (p : ℕ) → lies_in spot p ≡ true → (spot.at ≤ p) × (p < spot.at + spot.size)
lies spot p e = let parts = and_parts _ _ e in (leb-true _ _ parts.0, ltb-true _ _ parts.1)

pub by-bool : (b : Bool) (P : Type 0) → (b ≡ true → P) → (b ≡ false → P) → P
by-bool true P one other = one refl
by-bool false P one other = other refl

and-none : (a b : Bool) → (a ≡ true → b ≡ false) → (a && b) ≡ false
and-none true b h = h refl
and-none false b h = refl

-- below or behind
lies-not : (spot : Spot) (p : ℕ) → (spot.at ≤ p → p < spot.at + spot.size → ⊥) → lies_in spot p ≡ false
lies-not spot p never =
    by-bool (lies_in spot p) (lies_in spot p ≡ false) (λ e. let at = lies spot p e in absurd (never at.0 at.1)) (λ e. e)

-- ---- putting into another spot

module _ (spot other : Spot) (apart : (p : ℕ) → lies_in other p ≡ true → lies_in spot p ≡ false) where
  outside-by : (o : Bool) (place : ℕ) (chars : List ℕ) (cell : Cell) (one rest cells : Store) → (o ≡ true → lies_in spot place ≡ false)
      → chars_from spot (place + length cell.chars) one ≡ chars_from spot (place + length cell.chars) cells
      → chars_from spot (place + length cell.chars) rest ≡ chars_from spot (place + length cell.chars) cells
      → chars_from spot place (if o then record cell { chars = fitted (length cell.chars) chars } ∷ one else cell ∷ rest) ≡ chars_from spot place (cell ∷ cells)
  outside-by true place chars cell one rest cells away is also =
      let next : List ℕ = chars_from spot (place + length cell.chars) cells in
      ap (λ (n : ℕ). (if lies_in spot place then fitted (length cell.chars) chars else []) ++ chars_from spot (place + n) one) (length-fitted (length cell.chars) chars)
      ∙ ap (λ (xs : List ℕ). (if lies_in spot place then fitted (length cell.chars) chars else []) ++ xs) is
      ∙ ap (λ (b : Bool). (if b then fitted (length cell.chars) chars else []) ++ next) (away refl)
      ∙ sym (ap (λ (b : Bool). (if b then cell.chars else []) ++ next) (away refl))
  outside-by false place chars cell one rest cells away is also = ap (λ (xs : List ℕ). (if lies_in spot place then cell.chars else []) ++ xs) also

  outside : (chars : List ℕ) (place : ℕ) (store : Store) → chars_from spot place (put_from other chars place store) ≡ chars_from spot place store
  outside chars place [] = refl
  outside chars place (cell ∷ cells) =
      outside-by (lies_in other place) place chars cell _ _ cells (apart place)
      (outside (drop (length cell.chars) chars) (place + length cell.chars) cells)
      (outside chars (place + length cell.chars) cells)

  pub put-outside : (chars : List ℕ) (store : Store) → chars_at spot (put_at other chars store) ≡ chars_at spot store
  put-outside chars store = outside chars 0 store

-- spots of which one is behind the other
pub apart-by : (spot other : Spot) → ((p : ℕ) → other.at ≤ p → p < other.at + other.size → spot.at ≤ p → p < spot.at + spot.size → ⊥)
    → (p : ℕ) → lies_in other p ≡ true → lies_in spot p ≡ false
apart-by spot other never p e = let at = lies other p e in lies-not spot p (λ from below. never p at.0 at.1 from below)

-- ---- putting into the spot itself

module _ (spot : Spot) where
  inside-by : (b : Bool) (place : ℕ) (chars : List ℕ) (cell : Cell) (one rest : Store) (cells : Store) → lies_in spot place ≡ b
      → length chars ≡ length (chars_from spot place (cell ∷ cells))
      → ((given : List ℕ) → length given ≡ length (chars_from spot (place + length cell.chars) cells) → given ≡ drop (length cell.chars) chars → chars_from spot (place + length cell.chars) one ≡ given)
      → ((given : List ℕ) → length given ≡ length (chars_from spot (place + length cell.chars) cells) → given ≡ chars → chars_from spot (place + length cell.chars) rest ≡ given)
      → chars_from spot place (if b then record cell { chars = fitted (length cell.chars) chars } ∷ one else cell ∷ rest) ≡ chars
  inside-by true place chars cell one rest cells is long first second =
      let n : ℕ = length cell.chars in
      let next : List ℕ = chars_from spot (place + n) cells in
      let whole : length chars ≡ n + length next =
      long ∙ ap (λ (b : Bool). length ((if b then cell.chars else []) ++ next)) is ∙ length-append cell.chars next in
      let own : fitted n chars ≡ take n chars = fitted-within n chars (omega (arith, whole)) in
      ap (λ (k : ℕ). (if lies_in spot place then fitted n chars else []) ++ chars_from spot (place + k) one) (length-fitted n chars)
      ∙ ap (λ (b : Bool). (if b then fitted n chars else []) ++ chars_from spot (place + n) one) is
      ∙ ap (λ (xs : List ℕ). xs ++ chars_from spot (place + n) one) own
      ∙ ap (λ (xs : List ℕ). take n chars ++ xs) (first (drop n chars) (omega (arith, whole, length-drop n chars)) refl)
      ∙ take-append-drop n chars
  inside-by false place chars cell one rest cells is long first second =
      let n : ℕ = length cell.chars in
      let next : List ℕ = chars_from spot (place + n) cells in
      ap (λ (b : Bool). (if b then cell.chars else []) ++ chars_from spot (place + n) rest) is
      ∙ second chars (long ∙ ap (λ (b : Bool). length ((if b then cell.chars else []) ++ next)) is) refl

  inside : (chars : List ℕ) (place : ℕ) (store : Store) → length chars ≡ length (chars_from spot place store) → chars_from spot place (put_from spot chars place store) ≡ chars
  inside [] place [] long = refl
  inside (c ∷ chars) place [] long = absurd (omega (arith, long))
  inside chars place (cell ∷ cells) long =
      inside-by (lies_in spot place) place chars cell _ _ cells refl long
      (λ given is same. subst (λ (xs : List ℕ). chars_from spot (place + length cell.chars) (put_from spot xs (place + length cell.chars) cells) ≡ given) same (inside given (place + length cell.chars) cells is))
      (λ given is same. subst (λ (xs : List ℕ). chars_from spot (place + length cell.chars) (put_from spot xs (place + length cell.chars) cells) ≡ given) same (inside given (place + length cell.chars) cells is))

  pub put-inside : (chars : List ℕ) (store : Store) → length chars ≡ length (chars_at spot store) → chars_at spot (put_at spot chars store) ≡ chars
  put-inside chars store long = inside chars 0 store long

-- ---- the parts of a spot

nothing-by : (b : Bool) (chars rest : List ℕ) → b ≡ false → rest ≡ [] → (if b then chars else []) ++ rest ≡ []
nothing-by true chars rest e is = absurd cc
nothing-by false chars rest e is = is

behind : (spot : Spot) (p : ℕ) (cells : Store) → spot.at + spot.size ≤ p → chars_from spot p cells ≡ []
behind spot p [] le = refl
behind spot p (cell ∷ cells) le =
    nothing-by (lies_in spot p) cell.chars _ (lies-not spot p (λ from below. omega (arith, le, below))) (behind spot (p + length cell.chars) cells (omega (arith, le)))

both-true : (a b : Bool) → a ≡ true → b ≡ true → (a && b) ≡ true
both-true true true e f = refl
both-true true false e f = absurd cc
both-true false b e f = absurd cc

module _ (whole first second : Spot) (at : whole.at ≡ first.at) (then' : second.at ≡ first.at + first.size) (size : whole.size ≡ first.size + second.size) where
  lies-yes : (p : ℕ) → whole.at ≤ p → p < whole.at + whole.size → lies_in whole p ≡ true
  lies-yes p from below = both-true _ _ (le-leb whole.at p from) (lt-ltb p (whole.at + whole.size) below)

  split-by : (x a b : Bool) (p : ℕ) (chars xs before after : List ℕ) → lies_in whole p ≡ x → lies_in first p ≡ a → lies_in second p ≡ b
      → xs ≡ before ++ after → (second.at ≤ p → before ≡ [])
      → (if x then chars else []) ++ xs ≡ ((if a then chars else []) ++ before) ++ ((if b then chars else []) ++ after)
  split-by x true true p chars xs before after ex ea eb is none =
      let in1 = lies first p ea in let in2 = lies second p eb in absurd (omega (arith, in1.0, in1.1, in2.0, in2.1, then'))
  split-by true true false p chars xs before after ex ea eb is none = ap (λ (zs : List ℕ). chars ++ zs) is ∙ sym (append_assoc chars before after)
  split-by false true false p chars xs before after ex ea eb is none =
      let in1 = lies first p ea in
      let yes : lies_in whole p ≡ true = lies-yes p (omega (arith, in1.0, at)) (omega (arith, in1.1, at, size)) in absurd cc
  split-by true false true p chars xs before after ex ea eb is none =
      let in2 = lies second p eb in
      let empty : before ≡ [] = none in2.0 in
      ap (λ (zs : List ℕ). chars ++ zs) (is ∙ ap (λ (zs : List ℕ). zs ++ after) empty) ∙ sym (ap (λ (zs : List ℕ). zs ++ (chars ++ after)) empty)
  split-by false false true p chars xs before after ex ea eb is none =
      let in2 = lies second p eb in
      let yes : lies_in whole p ≡ true = lies-yes p (omega (arith, in2.0, at, then')) (omega (arith, in2.1, at, then', size)) in absurd cc
  split-by true false false p chars xs before after ex ea eb is none =
      let in0 = lies whole p ex in
      let out : lies_in whole p ≡ false =
      by-bool (nat_le (first.at + first.size) p) (lies_in whole p ≡ false)
      (λ e. let yes : lies_in second p ≡ true = both-true _ _ (le-leb second.at p (omega (arith, leb-true _ _ e, then'))) (lt-ltb p (second.at + second.size) (omega (arith, in0.1, at, then', size))) in absurd cc)
      (λ e. let yes : lies_in first p ≡ true = both-true _ _ (le-leb first.at p (omega (arith, in0.0, at))) (lt-ltb p (first.at + first.size) (leb-false _ _ e)) in absurd cc) in
      absurd cc
  split-by false false false p chars xs before after ex ea eb is none = is

  split-from : (p : ℕ) (store : Store) → chars_from whole p store ≡ chars_from first p store ++ chars_from second p store
  split-from p [] = refl
  split-from p (cell ∷ cells) =
      split-by (lies_in whole p) (lies_in first p) (lies_in second p) p cell.chars _ _ _ refl refl refl (split-from (p + length cell.chars) cells)
      (λ from. behind first (p + length cell.chars) cells (omega (arith, from, then')))

  pub split-chars : (store : Store) → chars_at whole store ≡ chars_at first store ++ chars_at second store
  split-chars store = split-from 0 store
