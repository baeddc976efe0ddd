use Rattle.std.proofs.Common.{arith}
use Rattle.pw_deck_tables.proofs.Lines.{summed-next, summed-all}
use Rattle.pw_deck_tables.proofs.piece.line_ends.Goals as goal

pub loop-byte-preserved : goal.loop-byte-preserved
loop-byte-preserved c = record {
  so_far = summed-next c.loop-byte.ends c.ends_with-ends.result c.in-Some.byte.now c.loop-byte.rest.now c.in-Some.behind.now c.args.text.now
      c.in-Some.ensures.cases.0 c.ends_with-ends.ensures.value c.loop-byte.invariant.so_far;
  within = omega (arith, c.in-Some.ensures.cases.1);
}

pub returns-clause-value : goal.returns-clause-value
returns-clause-value c =
    summed-all c.loop-byte.ends c.loop-byte.rest.now c.args.text.now c.in_default.ensures.cases c.loop-byte.invariant.so_far
