use Rattle.std.proofs.Common.{◌≡◌, ℕ, List, ◌∷◌, true}
use Rattle.std.specs.Global.{Vec}
use Rattle.std.proofs.lemmas.Map.Iter.{rest_more}
use Rattle.std.specs.Map.Iter.{deref_pair}
use Rattle.std.specs.BTreeMap.Range.{entries_between}
use Rattle.std.specs.Cmp.Lexicographic.{slice_cmp}
use Rattle.std.specs.Ordering.{nat_cmp}
use Rattle.std.specs.Range.Bound.{bound_map}
use Rattle.pw_locks.specs.Indexes.{has}
use Rattle.pw_locks.specs.Searches.{is_sought, numbers_of}
use Rattle.pw_locks.proofs.Searching.{IsPast, Searched-then, past-more}
use Rattle.pw_locks.proofs.notes.note_between.Goals as goal

pub loop-numbers-preserved : goal.loop-numbers-preserved
loop-numbers-preserved c =
    let all : List ℕ = numbers_of (entries_between (slice_cmp nat_cmp) (bound_map (λ x. x.now) c.args.low) (bound_map (λ x. x.now) c.args.high) c.args.index.now.numbers.entries) in
    let left : List (List ℕ × Vec ℕ) = c.next.new.self in
    let turn : c.loop-numbers.numbers-iterator ≡ (c.in-Some.field-0-0.now, c.in-Some.numbers.now) ∷ left = rest_more deref_pair _ _ _ _ c.in-Some.is c.next.ensures.steps in
    let piece : c.as_slice.result.now ≡ c.in-Some.numbers.now.items = c.as_slice.ensures.value in
    Searched-then (is_sought c.args.sought.now) c.args.locks.now c.args.known c.loop-numbers.found c.note_all-found.result
    (IsPast all (numbers_of c.loop-numbers.numbers-iterator)) (λ n. has c.as_slice.result.now n ≡ true) (IsPast all (numbers_of left))
    (λ n h. rw (turn, piece) (past-more all c.in-Some.numbers.now.items (numbers_of left) n h))
    c.loop-numbers.invariant c.note_all-found.ensures
