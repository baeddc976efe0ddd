-- The order of the values of numbers.
use Rattle.std.specs.Prelude.{◌≡◌, ◌^◌, ℤ, pos, ◌*ℤ◌}
use Rattle.std.specs.declared.cmp.Ordering.{Ordering}
use Rattle.std.specs.Ordering.{int_cmp}
use Rattle.pw_number.specs.Number.{Number}

-- a number's units over the places of both: of two numbers, these compare as the values do
abbrev pub units_over_places : Number → Number → ℤ
units_over_places b a = a.units *ℤ pos (10 ^ b.places)

-- how the value of a compares with that of b
abbrev pub order : Number → Number → Ordering
order a b = int_cmp (units_over_places b a) (units_over_places a b)

-- the two have one value
abbrev pub SameValue : Number → Number → Type 0
SameValue a b = units_over_places b a ≡ units_over_places a b
