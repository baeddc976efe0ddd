-- Decimal numbers, and which of them are held.
use Rattle.std.specs.Prelude.{ℕ, ◌^◌, ℤ, unsigned_abs, Bool, ◌&&◌, nat_lt, nat_le, Option, Some, None, if◌then◌else◌}

-- a decimal number: its value is units over ten to the power of places
pub record Number : Type 0 where
  pub units : ℤ
  pub places : ℕ

-- the number with these units and places
abbrev pub number : ℤ → ℕ → Number
number units places = record { units = units; places = places }

-- at most 30 digits
abbrev pub is_short : Number → Bool
is_short n = nat_lt (unsigned_abs n.units) (10 ^ 30)

-- the number, where it has at most 30 digits and 18 places
abbrev pub held : Number → Option Number
held n = if is_short n && nat_le n.places 18 then Some n else None
