use Rattle.std.proofs.Common.{◌≡◌, take}
use Rattle.pw_code.proofs.copies.ListDuplicate.copy.Given as goal

abbrev pub invariant-loop-item : goal.invariant-loop-item
invariant-loop-item g l = l.copies ≡ take l.item-index l.self
