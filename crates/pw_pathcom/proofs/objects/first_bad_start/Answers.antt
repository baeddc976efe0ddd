use Rattle.std.proofs.Common.{arith}
use Rattle.pw_pathcom.proofs.Unknowns.{one_line, no_line}
use Rattle.pw_pathcom.proofs.Orders.{no_lines}
use Rattle.pw_pathcom.proofs.objects.first_bad_start.Goals as goal

pub loop-line-preserved : goal.loop-line-preserved
loop-line-preserved c = record {
  so_far = one_line c.args.commands.now c.loop-line.number _ _ _ c.loop-line.best c.in_ok-best.best _ c.in-Some.ensures.cases c.in_ok-best.ensures c.loop-line.invariant.so_far;
  number = omega (arith, c.in-Some.ensures.shorter);
}

pub returns : goal.returns
returns c = no_line c.args.commands.now c.loop-line.number _ c.loop-line.best _ (no_lines _ c.in_default.ensures.cases) c.loop-line.invariant.so_far
