-- How much room a picture has for a number.
use Rattle.std.specs.Prelude.{ℕ, ◌-◌, Bool, false, ◌==◌}
use Rattle.std.specs.List.{list_any}
use Rattle.pw_base.specs.Characters.{hyphen}
use Rattle.pw_picture.specs.Grammar.{digit_symbols}
use Rattle.pw_picture.specs.Edited.{shown_decimals}
use Rattle.pw_picture.specs.declared.picture.Picture.{Picture}
use Rattle.pw_picture.specs.declared.picture.Picture.TheVariants.{Text, Number, Edited}

-- the digits before the point
abbrev pub whole_digits : Picture → ℕ
whole_digits (Text size) = 0
whole_digits (Number digits places signed) = digits - places
whole_digits (Edited symbols) = digit_symbols symbols - shown_decimals symbols

-- the digits behind it
abbrev pub decimals_of : Picture → ℕ
decimals_of (Text size) = 0
decimals_of (Number digits places signed) = places
decimals_of (Edited symbols) = shown_decimals symbols

-- there is a place for a sign
abbrev pub has_sign : Picture → Bool
has_sign (Text size) = false
has_sign (Number digits places signed) = signed
has_sign (Edited symbols) = list_any (λ symbol. symbol == hyphen) symbols
