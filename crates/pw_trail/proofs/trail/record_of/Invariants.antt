use Rattle.std.proofs.Common.{◌≡◌, map}
use Rattle.pw_trail.specs.Committing.{change_to}
use Rattle.pw_trail.proofs.trail.record_of.Given as goal

-- the changes so far
abbrev pub invariant-loop-one : goal.invariant-loop-one
invariant-loop-one l = l.changes ≡ map change_to l.yielded
