-- The clauses that are found, with those that are left, are all.
use Rattle.std.proofs.Common.{◌≡◌, ◌≤◌, ℕ, length}
use Rattle.pw_screen.specs.Clauses.{clauses_from, clauses_in}
use Rattle.pw_screen.proofs.clauses.clauses_in.Given as goal

abbrev pub invariant-loop-ahead : goal.invariant-loop-ahead
invariant-loop-ahead l = (turns : ℕ) × (length l.ahead.tokens ≤ turns) × (clauses_from l.cursor.text l.layout turns l.found l.ahead ≡ clauses_in l.layout l.cursor)

abbrev pub decreases-loop-ahead : goal.decreases-loop-ahead
decreases-loop-ahead l = length l.ahead.tokens
