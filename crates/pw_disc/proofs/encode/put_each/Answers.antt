-- The next unit stands behind the others.
use Rattle.std.proofs.Common.{arith}
use Rattle.std.proofs.lemmas.Grind.{common_steps}
use Rattle.std.proofs.lemmas.List.Elements.{All-more}
use Rattle.pw_disc.specs.Values.{UnitHasValues}
use Rattle.pw_disc.proofs.encode.put_each.Goals as goal

pub loop-unit-preserved : goal.loop-unit-preserved
loop-unit-preserved c = record {
  bytes = grind (arith, common_steps);
  values =
      All-more UnitHasValues c.args.units.now c.loop-unit.unit-index _ c.loop-unit-test.true
      c.loop-unit.invariant.values c.in_ok-put_unit.ensures.values;
}
