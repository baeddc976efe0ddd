-- What is still to be put in leads from the image so far to the whole one.
use Rattle.std.proofs.Common.{◌≡◌, drop, length}
use Rattle.pw_image.specs.Records.{patched}
use Rattle.pw_image.proofs.changes.patch.Given as goal

abbrev pub invariant-loop-changed : goal.invariant-loop-changed
invariant-loop-changed l = record {
  same_length : length l.image ≡ length l.old;
  leads : patched l.image (drop l.changed-index l.changed-items) ≡ patched l.old l.changes;
}
