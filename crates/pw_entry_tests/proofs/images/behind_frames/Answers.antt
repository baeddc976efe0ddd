-- One more.
use Rattle.std.specs.Option.{option_copied}
use Rattle.pw_image.specs.Image.{frame_bytes}
use Rattle.pw_entry_tests.proofs.Left.{left-more}
use Rattle.pw_entry_tests.proofs.images.behind_frames.Goals as goal

pub loop-frame-preserved : goal.loop-frame-preserved
loop-frame-preserved c =
    left-more frame_bytes c.args.frames.now c.loop-frame.frame-index c.frame-item.result c.loop-frame-test.true c.frame-item.is
    (option_copied c.args.left) (option_copied c.loop-frame.rest) (option_copied c.behind_one-rest.result) c.loop-frame.invariant
    c.behind_one-rest.ensures
