-- Each turn reads one more.
use Rattle.std.proofs.Common.{◌≡◌, ◌++◌, ◌∷◌, []}
use Rattle.std.proofs.lemmas.Result.{err_from_is_err_and}
use Rattle.pw_image.specs.Reading.{many_at, return_at}
use Rattle.pw_image.proofs.Loop.{fails, goes_on, is_done}
use Rattle.pw_image.proofs.reading.read_many_returns.Goals as goal

pub returns-in_err-active : goal.returns-in_err-active
returns-in_err-active c =
    let p = err_from_is_err_and c.from_residual.result c.from_residual.ensures.1 in
    rw (p.1, p.2)
    (fails return_at c.in_err-active.field-0.0 c.loop.returns.items c.args.count c.loop.counter c.loop.rest.now
    (many_at return_at c.args.count c.args.bytes.now) c.loop-test.true c.in_err-active.ensures c.loop.invariant)

pub loop-preserved : goal.loop-preserved
loop-preserved c =
    let e : c.push.new.self.items ≡ c.loop.returns.items ++ c.in_ok-active.active ∷ [] = c.in_ok-push.ensures.items in
    rw e
    (goes_on return_at c.loop.returns.items c.args.count c.loop.counter c.loop.rest.now c.in_ok-active.active c.in_ok-active.behind.now
    (many_at return_at c.args.count c.args.bytes.now) c.loop-test.true c.in_ok-active.ensures c.loop.invariant)

pub returns : goal.returns
returns c =
    is_done return_at c.loop.returns.items c.args.count c.loop.counter c.loop.rest.now
    (many_at return_at c.args.count c.args.bytes.now) c.loop-test.false c.loop.invariant
