use Rattle.std.proofs.Common.{true, false, Some, None, sym, ap, ◌∙◌, arith}
use Rattle.pw_text.specs.Items.{quoted}
use Rattle.pw_text.proofs.Quotes.{quoted_closed, quoted_doubled, quoted_line, quoted_quote, quoted_byte, quoted_end, quoted_further, quoted_stops}
use Rattle.pw_text.proofs.quoted.quoted.Goals as goal
use Rattle.pw_text.proofs.quoted.quoted.Goals.{then-closed+else-byte-ne34, else-closed+else-byte-eq10+then-byte-eq34, else-closed+else-byte-eq10+else-byte-eq34}

pub returns-then-byte-ne34-clause-value : goal.returns-then-byte-ne34-clause-value
returns-then-byte-ne34-clause-value c =
    let is = rw c.if-closed.true at c.loop-i.invariant in
    ap Some (omega arith) ∙ quoted_stops true c.args.bytes.now c.loop-i.i (quoted false c.args.bytes.now) (Some 0) c.loop-i-test.true (quoted_closed _ _ c.if-byte-ne34.true) is

pub returns-then-byte-eq10-clause-value : goal.returns-then-byte-eq10-clause-value
returns-then-byte-eq10-clause-value c =
    let is = rw c.if-closed.false at c.loop-i.invariant in
    quoted_stops false c.args.bytes.now c.loop-i.i (quoted false c.args.bytes.now) None c.loop-i-test.true (quoted_line _ _ c.if-byte-eq10.true) is

pub loop-i-preserved : goal.loop-i-preserved
loop-i-preserved c =
    elim c.if-closed.branch [
      | then-closed+else-byte-ne34 w ↦ rw w.closed-is (quoted_further true false c.args.bytes.now c.loop-i.i (quoted false c.args.bytes.now) c.loop-i-test.true (quoted_doubled _ _ w.if-byte-ne34.false) (rw w.if-closed.true at c.loop-i.invariant))
      | else-closed+else-byte-eq10+then-byte-eq34 w ↦ rw w.closed-is (quoted_further false true c.args.bytes.now c.loop-i.i (quoted false c.args.bytes.now) c.loop-i-test.true (quoted_quote _ _ w.if-byte-eq10.false w.if-byte-eq34.true) (rw w.if-closed.false at c.loop-i.invariant))
      | else-closed+else-byte-eq10+else-byte-eq34 w ↦ rw (w.closed-is, w.if-closed.false) (quoted_further false false c.args.bytes.now c.loop-i.i (quoted false c.args.bytes.now) c.loop-i-test.true (quoted_byte _ _ w.if-byte-eq10.false w.if-byte-eq34.false) (rw w.if-closed.false at c.loop-i.invariant))
    ]

pub returns-then-closed-2-clause-value : goal.returns-then-closed-2-clause-value
returns-then-closed-2-clause-value c =
    let is = rw c.if-closed-2.true at c.loop-i.invariant in
    sym (quoted_end true c.args.bytes.now c.loop-i.i (quoted false c.args.bytes.now) (omega arith) is)

pub returns-else-closed-2-clause-value : goal.returns-else-closed-2-clause-value
returns-else-closed-2-clause-value c =
    let is = rw c.if-closed-2.false at c.loop-i.invariant in
    sym (quoted_end false c.args.bytes.now c.loop-i.i (quoted false c.args.bytes.now) (omega arith) is)
