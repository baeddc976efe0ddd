-- What is left behind those so far.
use Rattle.std.proofs.Common.{◌≡◌, take}
use Rattle.std.specs.List.{flat_map}
use Rattle.std.specs.Option.{option_copied}
use Rattle.pw_image.specs.Image.{frame_bytes}
use Rattle.pw_entry_tests.specs.Images.{left_of}
use Rattle.pw_entry_tests.proofs.images.behind_frames.Given as goal

abbrev pub invariant-loop-frame : goal.invariant-loop-frame
invariant-loop-frame l =
    option_copied l.rest ≡ left_of (flat_map frame_bytes (take l.frame-index l.frames)) (option_copied l.initial.rest)
