-- The lengths so far.
use Rattle.std.proofs.Common.{◌≡◌, take}
use Rattle.pw_names.specs.Calls.{lengths_of}
use Rattle.pw_names.proofs.names.lengths_of.Given as goal

abbrev pub invariant-loop-name : goal.invariant-loop-name
invariant-loop-name l = l.lengths ≡ lengths_of l.layout (take l.name-index l.names)
