use Rattle.std.proofs.Common.{◌≡◌, ◌+◌, ◌-◌, arith, drop, ◌∙◌, sym}
use Rattle.pw_terminal.proofs.Blank.{blank-lines}
use Rattle.pw_terminal.proofs.RowLines.{row_lines-next, row_lines-none}
use Rattle.pw_terminal.proofs.printing.print_each.Goals as goal

pub loop-number-preserved : goal.loop-number-preserved
loop-number-preserved c = record {
  rows_left = omega arith;
  lines =
      let one_less : 24 - (c.loop-number.number + 1) ≡ (24 - c.loop-number.number) - 1 = omega arith in
      let step = row_lines-next (24 - c.loop-number.number) c.loop-number.number c.loop-number.text c.loop-number.rest.now (omega arith) in
      rw (one_less, c.in_ok-print_row.ensures, c.split_at.ensures.back, c.split_at.ensures.front)
      (step ∙ c.loop-number.invariant.lines);
}

pub returns : goal.returns
returns c =
    let none : 24 - c.loop-number.number ≡ 0 = omega arith in
    sym (row_lines-none c.loop-number.text c.loop-number.number c.loop-number.rest.now) ∙ rw none at c.loop-number.invariant.lines

pub returns-then-is_blank : goal.returns-then-is_blank
returns-then-is_blank c =
    let number = c.loop-number.number in
    let rest = c.loop-number.rest.now in
    let blank = rw c.split_at.ensures.back at (c.is_blank.ensures.0 c.if-is_blank.true) in
    let step = row_lines-next (24 - number) number c.loop-number.text rest (omega arith) in
    sym (blank-lines c.print_row.new.text (drop 80 rest) ((24 - number) - 1) (number + 1) blank)
    ∙ (rw (c.in_ok-print_row.ensures, c.split_at.ensures.front) (step ∙ c.loop-number.invariant.lines))
