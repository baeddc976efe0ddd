use Rattle.std.proofs.Common.{◌≡◌, ◌++◌}
use Rattle.pw_locks.proofs.book.LockBook.copy.Given as goal

abbrev pub invariant-loop-held : goal.invariant-loop-held
invariant-loop-held l = l.book ++ l.held-iterator ≡ l.self
