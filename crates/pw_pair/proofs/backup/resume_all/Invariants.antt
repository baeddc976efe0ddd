-- Those so far go on.
use Rattle.std.proofs.Common.{take}
use Rattle.pw_pair.specs.Takeover.{AreResumed}
use Rattle.pw_pair.proofs.backup.resume_all.Given as goal

abbrev pub invariant-loop-held : goal.invariant-loop-held
invariant-loop-held l = AreResumed (take l.held-index l.images) l.ended l.resumed.items
