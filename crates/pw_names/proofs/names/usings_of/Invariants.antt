-- The lengths so far.
use Rattle.std.proofs.Common.{◌≡◌, take}
use Rattle.pw_names.specs.Names.{usings_of}
use Rattle.pw_names.proofs.names.usings_of.Given as goal

abbrev pub invariant-loop-requester : goal.invariant-loop-requester
invariant-loop-requester l = l.usings ≡ usings_of (take l.requester-index l.requesters)
