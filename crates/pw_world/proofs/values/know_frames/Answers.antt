use Rattle.std.proofs.Common.{All, subst, take}
use Rattle.std.proofs.lemmas.List.{take_all}
use Rattle.std.proofs.lemmas.List.Elements.{All-more}
use Rattle.pw_image.specs.Values.{FrameHasValues}
use Rattle.pw_world.proofs.values.know_frames.Goals as goal

pub loop-frame-preserved : goal.loop-frame-preserved
loop-frame-preserved c =
    All-more FrameHasValues c.args.frames.now c.loop-frame.frame-index c.frame-item.result c.loop-frame-test.true
    c.loop-frame.invariant (subst FrameHasValues c.frame-item.is c.know_frame.ensures)

pub returns : goal.returns
returns c =
    subst (All FrameHasValues) (take_all c.loop-frame.frame-index c.args.frames.now c.loop-frame-test.false)
    c.loop-frame.invariant
