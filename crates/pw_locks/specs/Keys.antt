-- Keys in the order of bytes, and the high ends of spans.
use Rattle.std.specs.Prelude.{ℕ, List, Bool, true, false, not, Option, Some, None, if◌then◌else◌}
use Rattle.std.specs.Cmp.Lexicographic.{slice_cmp}
use Rattle.std.specs.Ordering.{nat_cmp, is_lt}
use Rattle.std.specs.Str.{bytes_eq}

-- key a stands before key b
abbrev pub is_below : List ℕ → List ℕ → Bool
is_below a b = is_lt (slice_cmp nat_cmp a b)

-- the larger of two keys
abbrev pub larger : List ℕ → List ℕ → List ℕ
larger a b = if is_below a b then b else a

-- the key is not above the high end, where there is one
abbrev pub is_up_to : List ℕ → Option (List ℕ) → Bool
is_up_to key None = true
is_up_to key (Some high) = not (is_below high key)

-- the key is below the high end, where there is one
abbrev pub is_below_end : List ℕ → Option (List ℕ) → Bool
is_below_end key None = true
is_below_end key (Some high) = is_below key high

-- the first high end is not above the other, and no end is above each
abbrev pub ends_by : Option (List ℕ) → Option (List ℕ) → Bool
ends_by high None = true
ends_by None (Some other) = false
ends_by (Some high) (Some other) = not (is_below other high)

-- the high ends are equal, or neither is there
abbrev pub is_same_end : Option (List ℕ) → Option (List ℕ) → Bool
is_same_end None None = true
is_same_end None (Some other) = false
is_same_end (Some high) None = false
is_same_end (Some high) (Some other) = bytes_eq high other
