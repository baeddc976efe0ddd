use Rattle.std.proofs.Common.{◌≡◌, true, take}
use Rattle.pw_locks.specs.Indexes.{has}
use Rattle.pw_locks.specs.Searches.{Searched, is_sought}
use Rattle.pw_locks.proofs.notes.note_all.Given as goal

abbrev pub invariant-loop-number : goal.invariant-loop-number
invariant-loop-number l = Searched (is_sought l.sought) l.locks l.fn.known l.found (λ n. has (take l.number-index l.numbers) n ≡ true)
