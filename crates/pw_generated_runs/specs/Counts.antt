-- How many entries ask for which key, and the records that count them.
use Rattle.std.specs.Prelude.{ℕ, zero, suc, ◌+◌, ◌==◌, List, [], ◌∷◌, length, map, if◌then◌else◌}
use Rattle.pw_picture.specs.Stored.{digits_of}

-- how many of the digits are d
abbrev pub times_in : ℕ → List ℕ → ℕ
times_in d [] = 0
times_in d (digit ∷ digits) = (if digit == d then 1 else 0) + times_in d digits

-- the sum of the first n numbers of a function, from that of 0 on
abbrev pub sum_below : ℕ → (ℕ → ℕ) → ℕ
sum_below zero f = 0
sum_below (suc n) f = sum_below n f + f n

-- how many entries of the first n terminals have the key of a digit
abbrev pub asked_for : ℕ → (ℕ → List ℕ) → ℕ → ℕ
asked_for n digits d = sum_below n (λ t. times_in d (digits t))

-- how many entries the first n terminals have
abbrev pub entry_total : ℕ → (ℕ → List ℕ) → ℕ
entry_total n digits = sum_below n (λ t. length (digits t))

-- the record of the key `A` and a digit: the key, and a number of 4 digits
abbrev pub stock_record : ℕ → ℕ → List ℕ
stock_record d number = 65 ∷ (48 + d) ∷ digits_of 4 number

-- the records of the keys A0 to A9, with the number of each
abbrev pub stock_with : (ℕ → ℕ) → List (List ℕ)
stock_with number =
    map (λ d. stock_record d (number d)) (0 ∷ 1 ∷ 2 ∷ 3 ∷ 4 ∷ 5 ∷ 6 ∷ 7 ∷ 8 ∷ 9 ∷ [])
