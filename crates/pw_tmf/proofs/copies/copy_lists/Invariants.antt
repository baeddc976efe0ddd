use Rattle.std.proofs.Common.{◌≡◌, take}
use Rattle.pw_tmf.proofs.copies.copy_lists.Given as goal

abbrev pub invariant-loop-images : goal.invariant-loop-images
invariant-loop-images l = l.copies.items ≡ take l.images-index l.lists
