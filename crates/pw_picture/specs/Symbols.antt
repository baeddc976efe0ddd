-- The symbols that a picture's text stands for, with its counts written out.
use Rattle.std.specs.Prelude.{ℕ, zero, suc, ◌+◌, ◌-◌, ◌*◌, nat_le, Bool, false, ◌&&◌, ◌||◌, ◌==◌, List, [], ◌∷◌, ◌++◌, length, drop, take_while, replicate, Option, Some, None, if◌then◌else◌}
use Rattle.std.specs.Char.{is_ascii_digit}
use Rattle.std.specs.Option.{option_and_then, option_map}
use Rattle.pw_base.specs.Characters.{capital_x, capital_z, digit_nine, digit_zero, left_parenthesis, right_parenthesis}

-- X, 9 and Z may have a count
abbrev pub may_repeat : ℕ → Bool
may_repeat symbol = symbol == capital_x || (symbol == digit_nine || symbol == capital_z)

-- the value of digits behind those of a value
abbrev pub value_behind : ℕ → List ℕ → ℕ
value_behind value [] = value
value_behind value (digit ∷ digits) = value_behind (10 * value + (digit - digit_zero)) digits

-- the first character is this one
abbrev pub begins_with : ℕ → List ℕ → Bool
begins_with wanted [] = false
begins_with wanted (found ∷ rest) = found == wanted

-- the longest picture
abbrev pub longest : ℕ
longest = 32000

-- how often a symbol stands whose count begins behind a `(`, and how many characters the count takes
abbrev pub count_in : List ℕ → Option (ℕ × ℕ)
count_in text =
    let digits = take_while is_ascii_digit text in
    let count = value_behind 0 digits in
    if nat_le 1 count && begins_with right_parenthesis (drop (length digits) text) then Some (count, length digits + 2) else None

-- the same behind a symbol: once, where no count follows
abbrev pub count_behind : ℕ → List ℕ → Option (ℕ × ℕ)
count_behind symbol [] = Some (1, 0)
count_behind symbol (next ∷ text) = if next == left_parenthesis then (if may_repeat symbol then count_in text else None) else Some (1, 0)

-- the symbols that are read, with these in front
abbrev pub with_front : List ℕ → Option (List ℕ) → Option (List ℕ)
with_front front read = option_map (λ symbols. front ++ symbols) read

-- the symbols of a text behind this many characters of it
abbrev pub symbols_behind : ℕ → List ℕ → Option (List ℕ)
symbols_behind skip [] = Some []
symbols_behind (suc skip) (symbol ∷ text) = symbols_behind skip text
symbols_behind zero (symbol ∷ text) =
    option_and_then (λ count. with_front (replicate count.0 symbol) (symbols_behind count.1 text)) (count_behind symbol text)

-- these symbols, where they are not too many for a picture
abbrev pub bounded : List ℕ → Option (List ℕ)
bounded symbols = if nat_le (length symbols) longest then Some symbols else None

-- the symbols that a text stands for, where they are not too many
abbrev pub symbols_of : List ℕ → Option (List ℕ)
symbols_of text = option_and_then bounded (symbols_behind 0 text)
