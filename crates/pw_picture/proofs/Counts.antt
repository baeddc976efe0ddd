-- Counts of symbols, and the symbols that are read one run after another.
use Rattle.std.proofs.Common.{◌≡◌, ℕ, zero, suc, ◌+◌, ◌-◌, ◌*◌, ◌<◌, ◌≤◌, min, List, [], ◌∷◌, ◌++◌, length, drop, Option, Some, None, refl, sym, ap, ◌∙◌, arith, append_assoc, get_or, add-one, drop-cons, ◌^◌}
use Rattle.std.proofs.Math.Nat.{pow-le-pow_right}
use Rattle.std.proofs.lemmas.Nat.{pow-add}
use Rattle.std.specs.Option.{option_and_then, option_map}
use Rattle.std.specs.Prelude.{replicate}
use Rattle.pw_picture.specs.Symbols.{longest, value_behind, count_behind, symbols_behind, with_front}
use Rattle.pw_picture.specs.Runs.{capped}

-- a value may be cut on the way to its cut value
cut_before : (x limit : ℕ) (digits : List ℕ) → min (value_behind (min x limit) digits) limit ≡ min (value_behind x digits) limit
cut_before x limit [] = omega arith
cut_before x limit (digit ∷ digits) =
    let once : min (10 * min x limit + (digit - 48)) limit ≡ min (10 * x + (digit - 48)) limit = omega arith in
    sym (cut_before (10 * min x limit + (digit - 48)) limit digits) ∙ ap (λ m. min (value_behind m digits) limit) once ∙ cut_before (10 * x + (digit - 48)) limit digits

-- to skip characters is to read what is behind them
pub symbols_behind-drop : (skip : ℕ) (text : List ℕ) → symbols_behind skip text ≡ symbols_behind 0 (drop skip text)
symbols_behind-drop zero text = refl
symbols_behind-drop (suc skip) [] = refl
symbols_behind-drop (suc skip) (symbol ∷ text) = symbols_behind-drop skip text

with_two : (front run : List ℕ) (o : Option (List ℕ)) → with_front front (with_front run o) ≡ with_front (front ++ run) o
with_two front run None = refl
with_two front run (Some symbols) = ap (λ s. Some s) (sym (append_assoc front run symbols))

-- one run is read of a text
pub run_read : (symbol count size : ℕ) (behind : List ℕ) → count_behind symbol behind ≡ Some (count, size)
    → symbols_behind 0 (symbol ∷ behind) ≡ with_front (replicate count symbol) (symbols_behind 0 (drop size behind))
run_read symbol count size behind is =
    ap (λ o. option_and_then (λ (found : ℕ × ℕ). with_front (replicate found.0 symbol) (symbols_behind found.1 behind)) o) is
    ∙ ap (with_front (replicate count symbol)) (symbols_behind-drop size behind)

-- and goes behind those that are known
pub run_joined : (whole now behind : Option (List ℕ)) (front run : List ℕ) → whole ≡ with_front front now → now ≡ with_front run behind
    → whole ≡ with_front (front ++ run) behind
run_joined whole now behind front run known is = known ∙ ap (with_front front) is ∙ with_two front run behind

-- one more digit of a count, cut
pub count_step : (value i next limit : ℕ) (digits : List ℕ) → i < length digits → next ≡ min (10 * value + (get_or digits i 0 - 48)) limit
    → min (value_behind next (drop (i + 1) digits)) limit ≡ min (value_behind value (drop i digits)) limit
count_step value i next limit digits within is =
    ap (λ n. min (value_behind n (drop (i + 1) digits)) limit) is
    ∙ cut_before (10 * value + (get_or digits i 0 - 48)) limit (drop (i + 1) digits)
    ∙ rw (add-one, drop-cons digits i 0) refl

-- at most 18 digits are below ten to that power
pub power_bound : (i : ℕ) → i ≤ 18 → 10 ^ i ≤ 10 ^ 18
power_bound i h = pow-le-pow_right (omega arith) h

pub one_more_fits : (value i : ℕ) → value < 10 ^ i → i < 18 → 10 * value + 10 ≤ 10 ^ 18
one_more_fits value i below few = omega (arith, pow-add 10 i 1, power_bound (i + 1) (omega arith))

-- a count that is not cut is the count
pub uncapped : (found : Option (ℕ × ℕ)) (count size : ℕ) → Some (count, size) ≡ option_map capped found → count ≤ longest → found ≡ Some (count, size)
uncapped None count size is short = absurd cc
uncapped (Some (whole, behind)) count size is short =
    let same : (count, size) ≡ capped (whole, behind) = cc in
    let counts : count ≡ min whole (longest + 1) = ap (λ (p : ℕ × ℕ). p.0) same in
    let sizes : size ≡ behind = ap (λ (p : ℕ × ℕ). p.1) same in
    let uncut : whole ≡ count = omega arith in
    cc
