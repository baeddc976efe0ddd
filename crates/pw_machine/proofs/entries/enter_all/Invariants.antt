-- The pairs that are left, on the storage now, give what all give.
use Rattle.std.proofs.Common.{◌≡◌, drop}
use Rattle.pw_code_meaning.specs.Entries.{storage_entered}
use Rattle.pw_machine.proofs.entries.enter_all.Given as goal

abbrev pub invariant-loop-name : goal.invariant-loop-name
invariant-loop-name l = storage_entered l.fields (drop l.name-index l.pairs) l.storage ≡ storage_entered l.fields l.pairs l.fn.storage
