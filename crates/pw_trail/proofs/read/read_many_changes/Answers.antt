-- Each turn reads one more.
use Rattle.std.proofs.Common.{◌≡◌, ◌++◌, ◌∷◌, []}
use Rattle.std.proofs.lemmas.Result.{err_from_is_err_and}
use Rattle.pw_image.proofs.Loop.{fails, goes_on, is_done}
use Rattle.pw_image.specs.Reading.{many_at}
use Rattle.pw_trail.specs.Body.{change_at}
use Rattle.pw_trail.proofs.read.read_many_changes.Goals as goal

pub returns-in_err-change : goal.returns-in_err-change
returns-in_err-change c =
    let p = err_from_is_err_and c.from_residual.result c.from_residual.ensures.1 in
    rw (p.1, p.2)
    (fails (change_at c.args.files.now) c.in_err-change.field-0.0 c.loop.changes.items c.args.count c.loop.counter c.loop.rest.now
    (many_at (change_at c.args.files.now) c.args.count c.args.bytes.now) c.loop-test.true c.in_err-change.ensures c.loop.invariant)

pub loop-preserved : goal.loop-preserved
loop-preserved c =
    let e : c.push.new.self.items ≡ c.loop.changes.items ++ c.in_ok-change.change ∷ [] = c.in_ok-push.ensures.items in
    rw e
    (goes_on (change_at c.args.files.now) c.loop.changes.items c.args.count c.loop.counter c.loop.rest.now c.in_ok-change.change c.in_ok-change.behind.now
    (many_at (change_at c.args.files.now) c.args.count c.args.bytes.now) c.loop-test.true c.in_ok-change.ensures c.loop.invariant)

pub returns : goal.returns
returns c =
    is_done (change_at c.args.files.now) c.loop.changes.items c.args.count c.loop.counter c.loop.rest.now
    (many_at (change_at c.args.files.now) c.args.count c.args.bytes.now) c.loop-test.false c.loop.invariant
