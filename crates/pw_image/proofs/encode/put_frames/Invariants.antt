-- The bytes of those so far stand behind what was there, and their values are of their types.
use Rattle.std.proofs.Common.{◌≡◌, ◌++◌, All, take}
use Rattle.std.specs.List.{flat_map}
use Rattle.pw_image.specs.Image.{frame_bytes}
use Rattle.pw_image.specs.Values.{FrameHasValues}
use Rattle.pw_image.proofs.encode.put_frames.Given as goal

abbrev pub invariant-loop-frame : goal.invariant-loop-frame
invariant-loop-frame l = record {
  bytes : l.image ≡ l.initial.image ++ flat_map frame_bytes (take l.frame-index l.frames);
  values : All FrameHasValues (take l.frame-index l.frames);
}
