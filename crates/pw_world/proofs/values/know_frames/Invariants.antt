use Rattle.std.proofs.Common.{All, take}
use Rattle.pw_image.specs.Values.{FrameHasValues}
use Rattle.pw_world.proofs.values.know_frames.Given as goal

abbrev pub invariant-loop-frame : goal.invariant-loop-frame
invariant-loop-frame l = All FrameHasValues (take l.frame-index l.frames)
