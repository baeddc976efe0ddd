-- Exact sums, differences, products and quotients, and what is cut of them.
use Rattle.std.specs.Prelude.{ℕ, ◌+◌, ◌-◌, ◌^◌, max, min, ℤ, pos, ◌+ℤ◌, ◌-ℤ◌, ◌*ℤ◌, int_div, unsigned_abs, ◌==◌, Result, Ok, Err, if◌then◌else◌}
use Rattle.pw_number.specs.Number.{Number, is_short}
use Rattle.pw_number.specs.declared.size_error.SizeError.{SizeError}

-- the result, where it has at most 30 digits
abbrev pub sized : Number → Result Number SizeError
sized n = if is_short n then Ok n else Err (record {})

-- the units of the same value at these places, which are not fewer
abbrev pub raised : ℕ → Number → ℤ
raised places n = n.units *ℤ pos (10 ^ (places - n.places))

-- the larger of the places of two numbers
abbrev pub common : Number → Number → ℕ
common a b = max a.places b.places

-- the exact sum
abbrev pub sum : Number → Number → Number
sum a b = record { units = raised (common a b) a +ℤ raised (common a b) b; places = common a b }

-- the exact difference
abbrev pub difference : Number → Number → Number
difference a b = record { units = raised (common a b) a -ℤ raised (common a b) b; places = common a b }

-- the exact product
abbrev pub product : Number → Number → Number
product a b = record { units = a.units *ℤ b.units; places = a.places + b.places }

-- a number cut toward zero to at most these places
abbrev pub cut : ℕ → Number → Number
cut places n = record { units = int_div n.units (pos (10 ^ (n.places - places))); places = min n.places places }

-- the quotient of the values, cut toward zero to these places
abbrev pub quotient : ℕ → Number → Number → Number
quotient places a b = record {
  units = int_div (a.units *ℤ pos (10 ^ (b.places + places))) (b.units *ℤ pos (10 ^ a.places));
  places = places;
}

-- the quotient, where there is one and it has at most 30 digits
abbrev pub divided : ℕ → Number → Number → Result Number SizeError
divided places a b = if unsigned_abs b.units == 0 then Err (record {}) else sized (quotient places a b)
