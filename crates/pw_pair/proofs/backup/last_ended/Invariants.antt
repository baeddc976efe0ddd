-- What is left names the terminal as the whole does.
use Rattle.std.proofs.Common.{◌≡◌, drop}
use Rattle.pw_pair.specs.Takeover.{last_ended}
use Rattle.pw_pair.proofs.backup.last_ended.Given as goal

abbrev pub invariant-loop-named : goal.invariant-loop-named
invariant-loop-named l = last_ended (drop l.named-index l.ended) l.terminal ≡ last_ended l.ended l.terminal
