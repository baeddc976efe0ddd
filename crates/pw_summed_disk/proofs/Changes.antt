-- A change of one byte changes the sum, and the numbers of a head.
use Rattle.std.proofs.Common.{◌≡◌, ℕ, zero, suc, ◌+◌, ◌*◌, ◌/◌, ◌%◌, ◌^◌, ◌<◌, ◌≤◌, List, [], ◌∷◌, length, get_or, set, sym, ◌∙◌, ap, arith}
use Rattle.std.proofs.lemmas.List.{length-set, take-set-le}
use Rattle.pw_summed_disk.specs.Extents.{sum_in, word_of}
use Rattle.pw_summed_disk.specs.Sums.{after_byte, sum_from, sum_of}
use Rattle.pw_summed_disk.proofs.Reading.{sum_taken, word_taken}

-- ---- sums

unique : (x y a b : ℕ) → x < 2 ^ 64 → y < 2 ^ 64 → x + 2 ^ 64 * a ≡ y + 2 ^ 64 * b → x ≡ y
unique x y a b small less is = omega arith

-- the factor has an inverse: 1099511628211 * 14886173955864302971 is 1 + 887285111055 * 2 ^ 64
inverse : (x y p q : ℕ) → x < 2 ^ 64 → y < 2 ^ 64 → x * 1099511628211 + 2 ^ 64 * q ≡ y * 1099511628211 + 2 ^ 64 * p → x ≡ y
inverse x y p q small less e =
    unique x y (x * 887285111055 + q * 14886173955864302971) (y * 887285111055 + p * 14886173955864302971) small less (omega arith)

scaled : (x y : ℕ) → x < 2 ^ 64 → y < 2 ^ 64 → (x * 1099511628211) % 2 ^ 64 ≡ (y * 1099511628211) % 2 ^ 64 → x ≡ y
scaled x y small less is =
    let p = (x * 1099511628211) / 2 ^ 64 in
    let q = (y * 1099511628211) / 2 ^ 64 in
    let e : x * 1099511628211 + 2 ^ 64 * q ≡ y * 1099511628211 + 2 ^ 64 * p = omega arith in
    inverse x y p q small less e

step_same : (sum other byte : ℕ) → sum < 2 ^ 64 → other < 2 ^ 64 → after_byte sum byte ≡ after_byte other byte → sum ≡ other
step_same sum other byte small less is =
    let x = (sum * 1099511628211) % 2 ^ 64 in
    let y = (other * 1099511628211) % 2 ^ 64 in
    let e : x + 2 ^ 64 * ((y + byte) / 2 ^ 64) ≡ y + 2 ^ 64 * ((x + byte) / 2 ^ 64) = omega arith in
    scaled sum other small less (unique x y ((y + byte) / 2 ^ 64) ((x + byte) / 2 ^ 64) (omega arith) (omega arith) e)

step_byte : (sum byte other : ℕ) → byte < 256 → other < 256 → after_byte sum byte ≡ after_byte sum other → byte ≡ other
step_byte sum byte other small less is =
    let x = (sum * 1099511628211) % 2 ^ 64 in
    let e : byte + 2 ^ 64 * ((x + other) / 2 ^ 64) ≡ other + 2 ^ 64 * ((x + byte) / 2 ^ 64) = omega arith in
    unique byte other ((x + other) / 2 ^ 64) ((x + byte) / 2 ^ 64) (omega arith) (omega arith) e

step_small : (sum byte : ℕ) → after_byte sum byte < 2 ^ 64
step_small sum byte = omega arith

sums_same : (bytes : List ℕ) (sum other : ℕ) → sum < 2 ^ 64 → other < 2 ^ 64 → sum_from sum bytes ≡ sum_from other bytes → sum ≡ other
sums_same [] sum other small less is = is
sums_same (byte ∷ bytes) sum other small less is =
    step_same sum other byte small less (sums_same bytes (after_byte sum byte) (after_byte other byte) (step_small sum byte) (step_small other byte) is)

changed_from : (bytes : List ℕ) (i byte sum : ℕ) → i < length bytes → get_or bytes i 0 < 256 → byte < 256 → sum_from sum (set bytes i byte) ≡ sum_from sum bytes → byte ≡ get_or bytes i 0
changed_from [] i byte sum within old new is = absurd (omega arith)
changed_from (first ∷ bytes) zero byte sum within old new is =
    step_byte sum byte first new old (sums_same bytes (after_byte sum byte) (after_byte sum first) (step_small sum byte) (step_small sum first) is)
changed_from (first ∷ bytes) (suc i) byte sum within old new is = changed_from bytes i byte (after_byte sum first) (omega arith) old new is

pub changed_sum : (bytes : List ℕ) (i byte : ℕ) → i < length bytes → get_or bytes i 0 < 256 → byte < 256 → sum_of (set bytes i byte) ≡ sum_of bytes → byte ≡ get_or bytes i 0
unfolding sum_of
changed_sum bytes i byte within old new is = changed_from bytes i byte 14695981039346656037 within old new is

-- ---- numbers

pub changed_word : (bytes : List ℕ) (i byte : ℕ) → 4 ≤ length bytes → i < 4 → word_of (set bytes i byte) ≡ word_of bytes → byte ≡ get_or bytes i 0
unfolding word_of
changed_word (a ∷ b ∷ c ∷ d ∷ rest) zero byte long within is = omega arith
changed_word (a ∷ b ∷ c ∷ d ∷ rest) (suc zero) byte long within is = omega arith
changed_word (a ∷ b ∷ c ∷ d ∷ rest) (suc (suc zero)) byte long within is = omega arith
changed_word (a ∷ b ∷ c ∷ d ∷ rest) (suc (suc (suc zero))) byte long within is = omega arith
changed_word (a ∷ b ∷ c ∷ d ∷ rest) (suc (suc (suc (suc i)))) byte long within is = absurd (omega arith)
changed_word [] i byte long within is = absurd (omega arith)
changed_word (a ∷ []) i byte long within is = absurd (omega arith)
changed_word (a ∷ b ∷ []) i byte long within is = absurd (omega arith)
changed_word (a ∷ b ∷ c ∷ []) i byte long within is = absurd (omega arith)

pub changed_number : (bytes : List ℕ) (i byte : ℕ) → 8 ≤ length bytes → i < 8 → sum_in (set bytes i byte) ≡ sum_in bytes → byte ≡ get_or bytes i 0
unfolding sum_in
changed_number (a ∷ b ∷ c ∷ d ∷ e ∷ f ∷ g ∷ h ∷ rest) zero byte long within is = omega arith
changed_number (a ∷ b ∷ c ∷ d ∷ e ∷ f ∷ g ∷ h ∷ rest) (suc zero) byte long within is = omega arith
changed_number (a ∷ b ∷ c ∷ d ∷ e ∷ f ∷ g ∷ h ∷ rest) (suc (suc zero)) byte long within is = omega arith
changed_number (a ∷ b ∷ c ∷ d ∷ e ∷ f ∷ g ∷ h ∷ rest) (suc (suc (suc zero))) byte long within is = omega arith
changed_number (a ∷ b ∷ c ∷ d ∷ e ∷ f ∷ g ∷ h ∷ rest) (suc (suc (suc (suc zero)))) byte long within is = omega arith
changed_number (a ∷ b ∷ c ∷ d ∷ e ∷ f ∷ g ∷ h ∷ rest) (suc (suc (suc (suc (suc zero))))) byte long within is = omega arith
changed_number (a ∷ b ∷ c ∷ d ∷ e ∷ f ∷ g ∷ h ∷ rest) (suc (suc (suc (suc (suc (suc zero)))))) byte long within is = omega arith
changed_number (a ∷ b ∷ c ∷ d ∷ e ∷ f ∷ g ∷ h ∷ rest) (suc (suc (suc (suc (suc (suc (suc zero))))))) byte long within is = omega arith
changed_number (a ∷ b ∷ c ∷ d ∷ e ∷ f ∷ g ∷ h ∷ rest) (suc (suc (suc (suc (suc (suc (suc (suc i)))))))) byte long within is = absurd (omega arith)
changed_number [] i byte long within is = absurd (omega arith)
changed_number (a ∷ []) i byte long within is = absurd (omega arith)
changed_number (a ∷ b ∷ []) i byte long within is = absurd (omega arith)
changed_number (a ∷ b ∷ c ∷ []) i byte long within is = absurd (omega arith)
changed_number (a ∷ b ∷ c ∷ d ∷ []) i byte long within is = absurd (omega arith)
changed_number (a ∷ b ∷ c ∷ d ∷ e ∷ []) i byte long within is = absurd (omega arith)
changed_number (a ∷ b ∷ c ∷ d ∷ e ∷ f ∷ []) i byte long within is = absurd (omega arith)
changed_number (a ∷ b ∷ c ∷ d ∷ e ∷ f ∷ g ∷ []) i byte long within is = absurd (omega arith)

-- a change further on
pub kept_word : (bytes : List ℕ) (i byte : ℕ) → 4 ≤ length bytes → 4 ≤ i → word_of (set bytes i byte) ≡ word_of bytes
kept_word bytes i byte long past =
    sym (word_taken 4 (set bytes i byte) (omega arith) (omega (arith, length-set bytes i byte)))
    ∙ ap word_of (take-set-le 4 bytes i byte past)
    ∙ word_taken 4 bytes (omega arith) long

pub kept_number : (bytes : List ℕ) (i byte : ℕ) → 8 ≤ length bytes → 8 ≤ i → sum_in (set bytes i byte) ≡ sum_in bytes
kept_number bytes i byte long past =
    sym (sum_taken 8 (set bytes i byte) (omega arith) (omega (arith, length-set bytes i byte)))
    ∙ ap sum_in (take-set-le 8 bytes i byte past)
    ∙ sum_taken 8 bytes (omega arith) long
