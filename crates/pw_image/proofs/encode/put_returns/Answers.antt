-- The next PERFORM stands behind the others.
use Rattle.std.proofs.Common.{arith}
use Rattle.std.proofs.lemmas.Grind.{common_steps}
use Rattle.std.proofs.lemmas.List.Elements.{All-more}
use Rattle.pw_image.specs.Values.{ReturnHasValues}
use Rattle.pw_image.proofs.encode.put_returns.Goals as goal

pub loop-active-preserved : goal.loop-active-preserved
loop-active-preserved c = record {
  bytes = grind (arith, common_steps);
  values =
      All-more ReturnHasValues c.args.returns.now c.loop-active.active-index _ c.loop-active-test.true
      c.loop-active.invariant.values c.in_ok-put_return.ensures.values;
}
