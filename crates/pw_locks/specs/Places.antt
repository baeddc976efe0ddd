-- Where the numbers of locks are filed: for each file, points by their key and spans in chains.
use Rattle.std.specs.Prelude.{◌≡◌, ℕ, List, Bool, true, false, Option, Some, None}
use Rattle.std.specs.BTreeMap.{BTreeMap, get}
use Rattle.std.specs.Cmp.Lexicographic.{slice_cmp}
use Rattle.std.specs.Ordering.{nat_cmp}
use Rattle.pw_locks.specs.Chains.{is_in_chains}
use Rattle.pw_locks.specs.Indexes.{is_filed}
use Rattle.pw_locks.specs.Spans.{overlap}
use Rattle.pw_locks.specs.declared.places.FilePlaces.{FilePlaces}
use Rattle.pw_locks.specs.declared.span.Span.{Span}
use Rattle.pw_locks.specs.declared.span.Span.TheVariants.{Point, After}

-- the number is filed under the key of a point, or under a span in one of the chains
abbrev pub is_placed : FilePlaces → Span → ℕ → Bool
is_placed places (Point key) n = is_filed (slice_cmp nat_cmp) places.points.numbers key n
is_placed places (After low high) n = is_in_chains places.spans.all.items low high n

-- the same of a file that a look-up found
abbrev pub found_placed : Option FilePlaces → Span → ℕ → Bool
found_placed None span n = false
found_placed (Some places) span n = is_placed places span n

-- the number is filed among those of the file
abbrev pub is_in_file : BTreeMap ℕ FilePlaces → ℕ → Span → ℕ → Bool
is_in_file files file span n = found_placed (get nat_cmp files file) span n

-- the number is filed under a point that the span overlaps
abbrev pub IsMetPoint : Span → FilePlaces → ℕ → Type 0
IsMetPoint span places n = (key : List ℕ) × (overlap span (Point key) ≡ true) × (is_placed places (Point key) n ≡ true)
