-- Each unit number of a terminal ends at most once, and TMF's last ended unit never falls.
use Rattle.std.proofs.Common.{◌≡◌, ◌≢◌, ℕ, zero, suc, ◌+◌, ◌<◌, ◌≤◌, ⊎_elim, Bool, true, false, ◌&&◌, ◌==◌, is_none, List, [], ◌∷◌, ◌++◌, length, filter, cond, Option, Some, None, if◌then◌else◌, refl, ap, subst, ◌∙◌, arith}
use Rattle.std.proofs.lemmas.Bool.{cases_eq, eqb-true, and_left, and_right}
use Rattle.std.proofs.lemmas.List.{length-append}
use Rattle.std.proofs.lemmas.List.Elements.{filter-append}
use Rattle.pw_onecopy.specs.Blocks.{SerialBlock, Attempted, AttemptEnding, Left}
use Rattle.pw_paired.specs.Headline.{ends_unit, is_end_of}
use Rattle.pw_paired.specs.Serial.{Reading, blocks, left_block, left_blocks}
use Rattle.pw_paired.specs.State.{OpenUnit, State}

-- how many of these blocks end unit n of t
abbrev pub ends_in : ℕ → ℕ → List SerialBlock → ℕ
ends_in t n blocks = length (filter (is_end_of t n) blocks)

-- the ends in two lists of blocks
pub ends_in-append : (t n : ℕ) (xs ys : List SerialBlock) → ends_in t n (xs ++ ys) ≡ ends_in t n xs + ends_in t n ys
ends_in-append t n xs ys = ap (λ (l : List SerialBlock). length l) (filter-append (is_end_of t n) xs ys) ∙ length-append (filter (is_end_of t n) xs) (filter (is_end_of t n) ys)

-- the number of a terminal's last ended unit
abbrev pub last_of : State → ℕ → ℕ
last_of s t = (s.ended t).number

-- from a state to the next one these blocks end the unit not at all, or once and rightly
pub data EndsBy (t n : ℕ) (before after : ℕ) (blocks : List SerialBlock) : Type 0 where
  not_at_all : ends_in t n blocks ≡ 0 → EndsBy t n before after blocks
  once : ends_in t n blocks ≡ 1 → before < n → after ≡ n → EndsBy t n before after blocks

-- one block that is over
pub single : (t n own number : ℕ) (how : AttemptEnding) (j before after : ℕ) → (own ≡ t → number ≡ n → (before < n) × (after ≡ n))
    → EndsBy t n before after (Attempted own number how j ∷ [])
single t n own number how j before after right = by_own (own == t) refl
  where
    by_how : (b : Bool) → own ≡ t → number ≡ n → (c : Bool) → (own == t && (number == n && ends_unit how)) ≡ c → EndsBy t n before after (Attempted own number how j ∷ [])
    by_how b same same_number true is =
        once (ap (λ (x : Bool). length (cond x (Attempted own number how j ∷ []) [])) is) (right same same_number).0 (right same same_number).1
    by_how b same same_number false is = not_at_all (ap (λ (x : Bool). length (cond x (Attempted own number how j ∷ []) [])) is)

    by_number : own ≡ t → (b : Bool) → (number == n) ≡ b → EndsBy t n before after (Attempted own number how j ∷ [])
    by_number same true is = by_how true same (eqb-true number n is) (own == t && (number == n && ends_unit how)) refl
    by_number same false is =
        not_at_all (ap (λ (x : Bool). length (cond x (Attempted own number how j ∷ []) [])) (and_right (own == t) (number == n && ends_unit how) (and_left (number == n) (ends_unit how) is)))

    by_own : (b : Bool) → (own == t) ≡ b → EndsBy t n before after (Attempted own number how j ∷ [])
    by_own true is = by_number (eqb-true own t is) (number == n) refl
    by_own false is = not_at_all (ap (λ (x : Bool). length (cond x (Attempted own number how j ∷ []) [])) (and_left (own == t) (number == n && ends_unit how) is))

-- an attempt that is left
pub left-one : (t n k j before after : ℕ) (unit : Option OpenUnit) → ((u : OpenUnit) → unit ≡ Some u → k ≡ t → u.number ≡ n → (before < n) × (after ≡ n))
    → EndsBy t n before after (left_block k j unit)
left-one t n k j before after None right = not_at_all refl
left-one t n k j before after (Some u) right = by_running (is_none u.running)
  where
    by_running : (b : Bool) → EndsBy t n before after (if b then [] else Attempted k u.number Left j ∷ [])
    by_running true = not_at_all refl
    by_running false = single t n k u.number Left j before after (λ same number. right u refl same number)

-- where the unit had ended before, these blocks end it not at all
none-of : (t n after : ℕ) (blocks : List SerialBlock) → EndsBy t n n after blocks → ends_in t n blocks ≡ 0
none-of t n after blocks (not_at_all is) = is
none-of t n after blocks (once is low same) = absurd (omega (arith, low))

-- blocks behind ones that do not end the unit, and before such ones
pub behind : (t n before after : ℕ) (xs ys : List SerialBlock) → ends_in t n xs ≡ 0 → EndsBy t n before after ys → EndsBy t n before after (xs ++ ys)
behind t n before after xs ys none (not_at_all is) = not_at_all (let sum = ends_in-append t n xs ys in omega (arith, sum, none, is))
behind t n before after xs ys none (once is low same) = once (let sum = ends_in-append t n xs ys in omega (arith, sum, none, is)) low same

-- blocks that end nothing stand ahead
pub ahead : (t n before after : ℕ) (xs ys : List SerialBlock) → ends_in t n ys ≡ 0 → EndsBy t n before after xs → EndsBy t n before after (xs ++ ys)
ahead t n before after xs ys none (not_at_all is) = not_at_all (let sum = ends_in-append t n xs ys in omega (arith, sum, none, is))
ahead t n before after xs ys none (once is low same) = once (let sum = ends_in-append t n xs ys in omega (arith, sum, none, is)) low same

-- the attempts of some terminals that are left, each once
pub lefts-one : (s : State) (reading : Reading) (whose : ℕ → Bool) (t n before after N : ℕ)
    → ((u : OpenUnit) → s.units t ≡ Some u → whose t ≡ true → u.number ≡ n → (before < n) × (after ≡ n))
    → (N ≤ t → ends_in t n (left_blocks s reading whose N) ≡ 0) × EndsBy t n before after (left_blocks s reading whose N)
lefts-one s reading whose t n before after zero right = (λ low. refl, not_at_all refl)
lefts-one s reading whose t n before after (suc k) right = (
  λ low. let sum = ends_in-append t n (left_blocks s reading whose k) (here (whose k)) in
      let first = (lefts-one s reading whose t n before after k right).0 (omega (arith, low)) in
      let last = other (λ same. absurd (omega (arith, low, same))) in
      omega (arith, sum, first, last),
  ⊎_elim
      (λ same. behind t n before after (left_blocks s reading whose k) (here (whose k)) ((lefts-one s reading whose t n before after k right).0 (omega (arith, same))) (own same (whose k) refl))
      (λ differ. ahead t n before after (left_blocks s reading whose k) (here (whose k)) (other differ) (lefts-one s reading whose t n before after k right).1)
      (cases_eq k t),
)
  where
    here : Bool → List SerialBlock
    here b = if b then left_block k (reading.answers k) (s.units k) else []

    other-by : (b : Bool) → k ≢ t → ends_in t n (here b) ≡ 0
    other-by false differ = refl
    other-by true differ = none-of t n n (left_block k (reading.answers k) (s.units k)) (left-one t n k (reading.answers k) n n (s.units k) (λ u is same number. absurd (differ same)))

    other : k ≢ t → ends_in t n (here (whose k)) ≡ 0
    other differ = other-by (whose k) differ

    own : k ≡ t → (b : Bool) → whose k ≡ b → EndsBy t n before after (here b)
    own same false is = not_at_all refl
    own same true is =
        left-one t n k (reading.answers k) before after (s.units k)
        (λ u is_open _ number. right u (subst (λ (m : ℕ). s.units m ≡ Some u) same is_open) (subst (λ (m : ℕ). whose m ≡ true) same is) number)
