-- The keys of the entries of a generated deck.
use Rattle.std.specs.Prelude.{ℕ, zero, suc, ◌*◌, List, [], ◌∷◌}
use Rattle.pw_gen.specs.Generated.{digit_of, next_number, number_after}

-- the digits of the keys of so many entries, the first of them that of the number after x
abbrev pub key_digits : ℕ → ℕ → List ℕ
key_digits zero x = []
key_digits (suc count) x = digit_of (next_number x) ∷ key_digits count (next_number x)

-- the digits of the 8 entries of a terminal, by its number from 0, of the deck of a seed
abbrev pub terminal_digits : ℕ → ℕ → List ℕ
terminal_digits seed t = key_digits 8 (number_after (8 * t) seed)
