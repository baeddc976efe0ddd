-- A linkage item is as long as its argument.
use Rattle.std.proofs.Common.{arith}
use Rattle.pw_machine.proofs.LinkageLemmas.{back_fits}
use Rattle.pw_machine.proofs.linkage.copy_back.Goals as goal

pub write_at-requires : goal.write_at-requires
write_at-requires c =
    back_fits c.args.places.now c.args.linkage.now c.loop-place.place (0, 0) _ _ _ _ c.requires.places c.requires.sizes (omega arith) c.chars_at-chars.ensures.size c.loop-place.auto.storage
