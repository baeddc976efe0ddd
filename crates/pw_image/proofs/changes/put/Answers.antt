-- A record that lies in an image ends within it.
use Rattle.std.proofs.Common.{arith}
use Rattle.pw_image.proofs.Patching.{lies-end}
use Rattle.pw_image.proofs.changes.put.Goals as goal

pub overwrite-requires : goal.overwrite-requires
overwrite-requires c = rw c.as_slice.ensures (lies-end c.args.image.now c.args.changed.now c.requires)
