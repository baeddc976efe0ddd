-- Signs and sizes of whole numbers.
use Rattle.std.specs.Prelude.{ℕ, Bool, true, false, ℤ, pos, negsuc, neg_ℤ}

-- the number of this size, negative where the flag is set
abbrev pub signed : Bool → ℕ → ℤ
signed false size = pos size
signed true size = neg_ℤ (pos size)

-- one of the two is negative and the other is not
abbrev pub signs_differ : ℤ → ℤ → Bool
signs_differ (pos a) (pos b) = false
signs_differ (pos a) (negsuc b) = true
signs_differ (negsuc a) (pos b) = true
signs_differ (negsuc a) (negsuc b) = false
