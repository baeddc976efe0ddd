-- The characters of a text between quotes.
use Rattle.std.specs.Prelude.{ℕ, List, [], ◌∷◌, ◌++◌, ◌==◌, Bool, not, ◌&&◌, if◌then◌else◌}
use Rattle.pw_base.specs.Characters.{quotation_mark}

-- the byte, unless it is the second of two quotes
abbrev pub kept : Bool → ℕ → List ℕ
kept second byte = if second then [] else byte ∷ []

-- a quote that is not the second of two is the first of two
abbrev pub is_first_quote : Bool → ℕ → Bool
is_first_quote second byte = not second && byte == quotation_mark

-- the characters of a text, where of two quotes one stands; second: the byte before was the first of two
abbrev pub unquoted : Bool → List ℕ → List ℕ
unquoted second [] = []
unquoted second (byte ∷ bytes) = kept second byte ++ unquoted (is_first_quote second byte) bytes
