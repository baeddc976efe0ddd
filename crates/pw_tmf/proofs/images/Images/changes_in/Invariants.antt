use Rattle.std.proofs.Common.{◌≡◌, map, take}
use Rattle.pw_tmf.specs.Restored.{changed_in}
use Rattle.pw_tmf.specs.Tmf.{key_lengths, stored}
use Rattle.pw_tmf.proofs.images.Images.changes_in.Given as goal

abbrev pub invariant-loop-image : goal.invariant-loop-image
invariant-loop-image l = l.changes.items ≡ map (changed_in (key_lengths l.files) (stored l.files)) (take l.image-index l.image-items)
