-- The locks on the spans of a file, in chains.
use Rattle.std.specs.Prelude.{◌≡◌, ℕ, List, Bool, true, Option}
use Rattle.std.specs.BTreeMap.{BTreeMap}
use Rattle.std.specs.List.{list_any}
use Rattle.pw_locks.specs.Runs.{is_in_runs}
use Rattle.pw_locks.specs.Spans.{overlap}
use Rattle.pw_locks.specs.declared.chain.Chain.{Chain}
use Rattle.pw_locks.specs.declared.run.SpanLocks.{SpanLocks}
use Rattle.pw_locks.specs.declared.span.Span.{Span}
use Rattle.pw_locks.specs.declared.span.Span.TheVariants.{After}

-- the number is filed under the span in one of the chains
abbrev pub is_in_chains : List Chain → List ℕ → Option (List ℕ) → ℕ → Bool
is_in_chains chains low high n = list_any (λ chain. is_in_runs chain.runs low high n) chains

-- the number is filed under a span that this one overlaps, in a chain
abbrev pub IsMet : Span → BTreeMap (List ℕ) SpanLocks → ℕ → Type 0
IsMet span runs n = (low : List ℕ) × (high : Option (List ℕ)) × (overlap span (After low high) ≡ true) × (is_in_runs runs low high n ≡ true)

-- the same of some chains
abbrev pub IsMetIn : Span → List Chain → ℕ → Type 0
IsMetIn span chains n = (low : List ℕ) × (high : Option (List ℕ)) × (overlap span (After low high) ≡ true) × (is_in_chains chains low high n ≡ true)
