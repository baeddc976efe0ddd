use Rattle.std.proofs.Common.{◌∙◌, arith}
use Rattle.pw_sections.proofs.Spans.{turn_here, turn_more, turn_end}
use Rattle.pw_sections.proofs.entry.part_size.Goals as goal

pub returns-then-ends_part-clause-value : goal.returns-then-ends_part-clause-value
returns-then-ends_part-clause-value c =
    c.loop-byte.invariant.count ∙ turn_here c.args.line.now c.loop-byte.byte-index _ c.loop-byte.in_text c.loop-byte-test.true c.if-ends_part.ensures c.loop-byte.invariant.value

pub loop-byte-preserved : goal.loop-byte-preserved
loop-byte-preserved c = record {
  count = omega (arith, c.loop-byte.invariant.count);
  value = turn_more c.args.line.now c.loop-byte.byte-index _ c.loop-byte.in_text _ c.loop-byte-test.true c.if-ends_part.ensures c.in_text_behind-in_text.ensures c.loop-byte.invariant.value;
}

pub returns-clause-value : goal.returns-clause-value
returns-clause-value c =
    c.loop-byte.invariant.count ∙ turn_end c.args.line.now c.loop-byte.byte-index _ c.loop-byte.in_text c.loop-byte-test.false c.loop-byte.invariant.value
