-- The next program stands behind the others.
use Rattle.pw_image.proofs.Appending.{next-all, next-bytes}
use Rattle.pw_image.specs.Image.{frame_bytes}
use Rattle.pw_image.specs.Values.{FrameHasValues}
use Rattle.pw_image.proofs.encode.put_frames.Goals as goal

pub loop-frame-preserved : goal.loop-frame-preserved
loop-frame-preserved c =
    let frames = c.args.frames.now in
    let i = c.loop-frame.frame-index in
    let frame = c.frame-item.result in
    record {
      bytes =
          next-bytes frame_bytes FrameHasValues c.args.image.now frames i frame c.loop-frame-test.true c.frame-item.is
          c.loop-frame.image c.put_frame.new.image c.loop-frame.invariant.bytes c.in_ok-put_frame.ensures.bytes;
      values =
          next-all frame_bytes FrameHasValues c.args.image.now frames i frame c.loop-frame-test.true c.frame-item.is
          c.loop-frame.invariant.values c.in_ok-put_frame.ensures.values;
    }
