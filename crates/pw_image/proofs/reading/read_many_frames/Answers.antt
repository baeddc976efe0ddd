-- Each turn reads one more.
use Rattle.std.proofs.Common.{◌≡◌, ◌++◌, ◌∷◌, []}
use Rattle.std.proofs.lemmas.Result.{err_from_is_err_and}
use Rattle.pw_image.specs.Reading.{many_at, frame_at}
use Rattle.pw_image.proofs.Loop.{fails, goes_on, is_done}
use Rattle.pw_image.proofs.reading.read_many_frames.Goals as goal

pub returns-in_err-frame : goal.returns-in_err-frame
returns-in_err-frame c =
    let p = err_from_is_err_and c.from_residual.result c.from_residual.ensures.1 in
    rw (p.1, p.2)
    (fails frame_at c.in_err-frame.field-0.0 c.loop.frames.items c.args.count c.loop.counter c.loop.rest.now
    (many_at frame_at c.args.count c.args.bytes.now) c.loop-test.true c.in_err-frame.ensures c.loop.invariant)

pub loop-preserved : goal.loop-preserved
loop-preserved c =
    let e : c.push.new.self.items ≡ c.loop.frames.items ++ c.in_ok-frame.frame ∷ [] = c.in_ok-push.ensures.items in
    rw e
    (goes_on frame_at c.loop.frames.items c.args.count c.loop.counter c.loop.rest.now c.in_ok-frame.frame c.in_ok-frame.behind.now
    (many_at frame_at c.args.count c.args.bytes.now) c.loop-test.true c.in_ok-frame.ensures c.loop.invariant)

pub returns : goal.returns
returns c =
    is_done frame_at c.loop.frames.items c.args.count c.loop.counter c.loop.rest.now
    (many_at frame_at c.args.count c.args.bytes.now) c.loop-test.false c.loop.invariant
