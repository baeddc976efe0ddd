-- Runs of locks by the low ends of their spans.
use Rattle.std.specs.Prelude.{◌≡◌, ℕ, List, Bool, true, false, ◌&&◌, Option, Some, None}
use Rattle.std.specs.BTreeMap.{BTreeMap, get}
use Rattle.std.specs.Cmp.Lexicographic.{slice_cmp}
use Rattle.std.specs.Ordering.{nat_cmp}
use Rattle.pw_locks.specs.Indexes.{has}
use Rattle.pw_locks.specs.Keys.{is_below, ends_by, is_same_end}
use Rattle.pw_locks.specs.declared.run.SpanLocks.{SpanLocks}

-- a look-up found a run with this high end that has the number
abbrev pub found_run : Option SpanLocks → Option (List ℕ) → ℕ → Bool
found_run None high n = false
found_run (Some run) high n = is_same_end run.high high && has run.numbers.items n

-- the number is filed under the low end, in a run with the high end
abbrev pub is_in_runs : BTreeMap (List ℕ) SpanLocks → List ℕ → Option (List ℕ) → ℕ → Bool
is_in_runs runs low high n = found_run (get (slice_cmp nat_cmp) runs low) high n

-- no span that begins before low ends after high
abbrev pub EndsLast : BTreeMap (List ℕ) SpanLocks → List ℕ → Option (List ℕ) → Type 0
EndsLast runs low high = (other : List ℕ) (run : SpanLocks) → get (slice_cmp nat_cmp) runs other ≡ Some run
    → is_below other low ≡ true → ends_by run.high high ≡ true

-- no span that begins after low ends before high
abbrev pub EndsFirst : BTreeMap (List ℕ) SpanLocks → List ℕ → Option (List ℕ) → Type 0
EndsFirst runs low high = (other : List ℕ) (run : SpanLocks) → get (slice_cmp nat_cmp) runs other ≡ Some run
    → is_below low other ≡ true → ends_by high run.high ≡ true

-- of two spans the one that begins later does not end earlier
abbrev pub IsRising : BTreeMap (List ℕ) SpanLocks → Type 0
IsRising runs = (low : List ℕ) (run : SpanLocks) → get (slice_cmp nat_cmp) runs low ≡ Some run → EndsLast runs low run.high

-- a span may stand among these: no earlier one ends later, no later one earlier, and one that begins with it ends with it
pub record FitsAmongSpans (runs : BTreeMap (List ℕ) SpanLocks) (low : List ℕ) (high : Option (List ℕ)) : Type 0 where
  pub last : EndsLast runs low high
  pub first : EndsFirst runs low high
  pub same : (run : SpanLocks) → get (slice_cmp nat_cmp) runs low ≡ Some run → is_same_end run.high high ≡ true
