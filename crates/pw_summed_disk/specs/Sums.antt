-- The sum of bytes, by which a change of one of them is found.
use Rattle.std.specs.Prelude.{ℕ, ◌+◌, ◌*◌, ◌%◌, ◌^◌, List, [], ◌∷◌}

-- the sum behind one byte more
abbrev pub after_byte : ℕ → ℕ → ℕ
after_byte sum byte = ((sum * 1099511628211) % 2 ^ 64 + byte) % 2 ^ 64

-- the sum behind some bytes more
abbrev pub sum_from : ℕ → List ℕ → ℕ
sum_from sum [] = sum
sum_from sum (byte ∷ rest) = sum_from (after_byte sum byte) rest

-- the sum of bytes
unfoldable pub sum_of : List ℕ → ℕ
sum_of bytes = sum_from 14695981039346656037 bytes
