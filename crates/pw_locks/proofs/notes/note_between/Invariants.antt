use Rattle.std.specs.BTreeMap.Range.{entries_between}
use Rattle.std.specs.Cmp.Lexicographic.{slice_cmp}
use Rattle.std.specs.Ordering.{nat_cmp}
use Rattle.std.specs.Range.Bound.{bound_map}
use Rattle.pw_locks.specs.Searches.{Searched, is_sought, numbers_of}
use Rattle.pw_locks.proofs.Searching.{IsPast}
use Rattle.pw_locks.proofs.notes.note_between.Given as goal

abbrev pub invariant-loop-numbers : goal.invariant-loop-numbers
invariant-loop-numbers l =
    Searched (is_sought l.sought) l.locks l.fn.known l.found
    (IsPast (numbers_of (entries_between (slice_cmp nat_cmp) (bound_map (λ x. x.now) l.fn.low) (bound_map (λ x. x.now) l.fn.high) l.index.numbers.entries))
    (numbers_of l.numbers-iterator))
