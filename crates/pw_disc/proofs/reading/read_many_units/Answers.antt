-- Each turn reads one more.
use Rattle.std.proofs.Common.{◌≡◌, ◌++◌, ◌∷◌, []}
use Rattle.std.proofs.lemmas.Result.{err_from_is_err_and}
use Rattle.pw_image.proofs.Loop.{fails, goes_on, is_done}
use Rattle.pw_image.specs.Reading.{many_at}
use Rattle.pw_disc.specs.Reading.{unit_at}
use Rattle.pw_disc.proofs.reading.read_many_units.Goals as goal

pub returns-in_err-unit : goal.returns-in_err-unit
returns-in_err-unit c =
    let p = err_from_is_err_and c.from_residual.result c.from_residual.ensures.1 in
    rw (p.1, p.2)
    (fails unit_at c.in_err-unit.field-0.0 c.loop.units.items c.args.count c.loop.counter c.loop.rest.now
    (many_at unit_at c.args.count c.args.bytes.now) c.loop-test.true c.in_err-unit.ensures c.loop.invariant)

pub loop-preserved : goal.loop-preserved
loop-preserved c =
    let e : c.push.new.self.items ≡ c.loop.units.items ++ c.in_ok-unit.unit ∷ [] = c.in_ok-push.ensures.items in
    rw e
    (goes_on unit_at c.loop.units.items c.args.count c.loop.counter c.loop.rest.now c.in_ok-unit.unit c.in_ok-unit.behind.now
    (many_at unit_at c.args.count c.args.bytes.now) c.loop-test.true c.in_ok-unit.ensures c.loop.invariant)

pub returns : goal.returns
returns c =
    is_done unit_at c.loop.units.items c.args.count c.loop.counter c.loop.rest.now
    (many_at unit_at c.args.count c.args.bytes.now) c.loop-test.false c.loop.invariant
