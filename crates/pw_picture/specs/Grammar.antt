-- Which runs of symbols are a picture.
use Rattle.std.specs.Prelude.{ℕ, ◌+◌, ◌≤◌, nat_le, Bool, true, not, ◌&&◌, ◌||◌, ◌==◌, List, [], ◌∷◌, length, drop, take_while, count_by, Option, Some, None, IsTrue, if◌then◌else◌}
use Rattle.std.specs.List.{list_all}
use Rattle.std.specs.Option.{option_and_then}
use Rattle.pw_base.specs.Characters.{capital_s, capital_v, capital_x, capital_z, comma, digit_nine, full_stop, hyphen}
use Rattle.pw_picture.specs.Symbols.{begins_with, longest, symbols_of}
use Rattle.pw_picture.specs.declared.picture.Picture.{Picture}
use Rattle.pw_picture.specs.declared.picture.Picture.TheVariants.{Text, Number, Edited}

-- one or more of this symbol alone
abbrev pub is_run_of : ℕ → List ℕ → Bool
is_run_of symbol symbols = nat_le 1 (length symbols) && list_all (λ s. s == symbol) symbols

-- one of the two symbols
abbrev pub is_either : ℕ → ℕ → ℕ → Bool
is_either first second symbol = symbol == first || symbol == second

-- what is behind those in front that are one of the two symbols
abbrev pub past : ℕ → ℕ → List ℕ → List ℕ
past first second symbols = drop (length (take_while (is_either first second) symbols)) symbols

-- what is behind a symbol in front, where it is there
abbrev pub after_symbol : ℕ → List ℕ → List ℕ
after_symbol symbol [] = []
after_symbol symbol (found ∷ rest) = if found == symbol then rest else found ∷ rest

-- the decimals behind the nines of a number: none, or a V and one or more 9
abbrev pub decimals : List ℕ → Option ℕ
decimals [] = Some 0
decimals (point ∷ rest) = if point == capital_v && is_run_of digit_nine rest then Some (length rest) else None

-- a number of so many digits before and behind the V, 1 to 18 in all
abbrev pub number_with : Bool → ℕ → ℕ → Option Picture
number_with signed whole places = if nat_le 1 (whole + places) && nat_le (whole + places) 18 then Some (Number (whole + places) places signed) else None

-- an optional S, nines, and decimals
abbrev pub number_picture_of : List ℕ → Option Picture
number_picture_of symbols =
    let body = after_symbol capital_s symbols in
    let whole = length (take_while (λ s. s == digit_nine) body) in
    option_and_then (λ places. number_with (begins_with capital_s symbols) whole places) (decimals (drop whole body))

-- the end of an edited picture: nothing, or a `-` where there is no leading one
abbrev pub is_edited_end : Bool → List ℕ → Bool
is_edited_end leading [] = true
is_edited_end leading (last ∷ rest) = not leading && (last == hyphen && length rest == 0)

-- what is behind the digits before the point: an optional point with one or more 9, and the end
abbrev pub is_tail : Bool → List ℕ → Bool
is_tail leading [] = true
is_tail leading (point ∷ rest) = if point == full_stop then begins_with digit_nine rest && is_edited_end leading (past digit_nine digit_nine rest) else is_edited_end leading (point ∷ rest)

-- Z and comma, then 9 and comma, and the rest
abbrev pub is_body : Bool → List ℕ → Bool
is_body leading body = not (leading && begins_with comma body) && is_tail leading (past digit_nine comma (past capital_z comma body))

-- how many of the symbols are digits
abbrev pub digit_symbols : List ℕ → ℕ
digit_symbols symbols = count_by (is_either digit_nine capital_z) symbols

-- an optional `-` and a body, 1 to 18 digits, and not nines alone
abbrev pub is_edited : List ℕ → Bool
is_edited symbols =
    is_body (begins_with hyphen symbols) (after_symbol hyphen symbols) && (nat_le 1 (digit_symbols symbols) && (nat_le (digit_symbols symbols) 18 && not (is_run_of digit_nine symbols)))

-- the picture of these symbols, of which there are not too many
abbrev pub picture_of_symbols : List ℕ → Option Picture
picture_of_symbols symbols =
    if is_run_of capital_x symbols then Some (Text (length symbols))
    else if is_edited symbols then Some (Edited symbols)
    else number_picture_of symbols

-- the picture that a text is
abbrev pub picture_of : List ℕ → Option Picture
picture_of text = option_and_then picture_of_symbols (symbols_of text)

-- a picture is one that a text may be
abbrev pub IsPicture : Picture → Type 0
IsPicture (Text size) = (1 ≤ size) × (size ≤ longest)
IsPicture (Number digits places signed) = (1 ≤ digits) × (digits ≤ 18) × (places ≤ digits)
IsPicture (Edited symbols) = (length symbols ≤ longest) × IsTrue (is_edited symbols)

-- how many characters an item of this picture has
abbrev pub size_of : Picture → ℕ
size_of (Text size) = size
size_of (Number digits places signed) = if signed then digits + 1 else digits
size_of (Edited symbols) = length symbols
