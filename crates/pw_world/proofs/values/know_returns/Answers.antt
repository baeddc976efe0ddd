use Rattle.std.proofs.lemmas.List.Elements.{All-more}
use Rattle.pw_image.specs.Values.{ReturnHasValues}
use Rattle.pw_world.proofs.values.know_returns.Goals as goal

pub loop-active-preserved : goal.loop-active-preserved
loop-active-preserved c =
    All-more ReturnHasValues c.args.returns.now c.loop-active.active-index _ c.loop-active-test.true
    c.loop-active.invariant c.know_return.ensures
