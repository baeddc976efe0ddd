-- What a lock covers of a file, and when two such spans overlap. Keys are compared byte by byte.
use Rattle.std.specs.Prelude.{◌≡◌, ℕ, List, Bool, ◌&&◌, Option, Some, None}
use Rattle.std.specs.declared.cmp.Ordering.TheVariants.{Less}
use Rattle.std.specs.Cmp.Lexicographic.{slice_cmp}
use Rattle.std.specs.Ordering.{nat_cmp}
use Rattle.std.specs.Str.{bytes_eq}
use Rattle.pw_locks.specs.Keys.{is_below, larger, is_up_to, is_below_end}
use Rattle.pw_locks.specs.declared.span.Span.{Span}
use Rattle.pw_locks.specs.declared.span.Span.TheVariants.{Point, After}

-- two points overlap where they are equal, a point and a span where the point is above low and not above high, and
-- two spans where the larger low is below each high that is there
abbrev pub overlap : Span → Span → Bool
overlap (Point a) (Point b) = bytes_eq a b
overlap (Point key) (After low high) = is_below low key && is_up_to key high
overlap (After low high) (Point key) = is_below low key && is_up_to key high
overlap (After low high) (After other_low other_high) =
    is_below_end (larger low other_low) high && is_below_end (larger low other_low) other_high

-- a stands before b in the order of bytes
abbrev pub Precedes : List ℕ → List ℕ → Type 0
Precedes a b = slice_cmp nat_cmp a b ≡ Less

-- the key is not above the high end, where there is one
abbrev pub IsUpTo : List ℕ → Option (List ℕ) → Type 0
IsUpTo key None = Unit {0}
IsUpTo key (Some high) = ¬ Precedes high key

-- the span covers the key
abbrev pub Covers : Span → List ℕ → Type 0
Covers (Point own) key = key ≡ own
Covers (After low high) key = Precedes low key × IsUpTo key high

-- the span has no upper end
abbrev pub IsOpenEnded : Span → Type 0
IsOpenEnded (Point key) = ⊥
IsOpenEnded (After low None) = Unit {0}
IsOpenEnded (After low (Some high)) = ⊥

-- both spans cover some key
abbrev pub HaveCommonKey : Span → Span → Type 0
HaveCommonKey a b = (key : List ℕ) × Covers a key × Covers b key
