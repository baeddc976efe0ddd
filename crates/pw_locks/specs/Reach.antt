-- How far a span reaches among keys.
use Rattle.std.specs.Prelude.{ℕ, List, Bool, Option, Some, None}
use Rattle.std.specs.declared.ops.Bound.{Bound}
use Rattle.std.specs.declared.ops.Bound.TheVariants.{Included, Excluded, Unbounded}
use Rattle.pw_locks.specs.Keys.{is_up_to, is_below_end}
use Rattle.pw_locks.specs.declared.span.Span.{Span}
use Rattle.pw_locks.specs.declared.span.Span.TheVariants.{Point, After}

-- among points: up to its high end
abbrev pub up_to : Option (List ℕ) → Bound (List ℕ)
up_to None = Unbounded
up_to (Some high) = Included high

-- among the low ends of spans: below its key or its high end
abbrev pub before : Span → Bound (List ℕ)
before (Point key) = Excluded key
before (After low None) = Unbounded
before (After low (Some high)) = Excluded high

-- among the high ends of spans: from its key on, or above its low end
abbrev pub is_reached : Span → Option (List ℕ) → Bool
is_reached (Point key) high = is_up_to key high
is_reached (After low own) high = is_below_end low high
