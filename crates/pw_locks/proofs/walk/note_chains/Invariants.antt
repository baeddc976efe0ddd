use Rattle.std.proofs.Common.{take}
use Rattle.pw_locks.specs.Chains.{IsMetIn}
use Rattle.pw_locks.specs.Searches.{Searched, is_sought}
use Rattle.pw_locks.proofs.walk.note_chains.Given as goal

abbrev pub invariant-loop-chain : goal.invariant-loop-chain
invariant-loop-chain l = Searched (is_sought l.sought) l.locks l.fn.known l.found (IsMetIn l.sought.span.now (take l.chain-index l.chains.all.items))
