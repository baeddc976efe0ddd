-- The sizes so far, with those that are left, are all.
use Rattle.std.proofs.Common.{◌≡◌, ◌+◌, drop}
use Rattle.pw_compile.specs.Sizes.{body_size}
use Rattle.pw_compile.proofs.sizes.+sizes.Given as goal

abbrev pub invariant-body_size-loop-statement : goal.invariant-body_size-loop-statement
invariant-body_size-loop-statement l = l.total + body_size (drop l.statement-index l.body) ≡ body_size l.body
