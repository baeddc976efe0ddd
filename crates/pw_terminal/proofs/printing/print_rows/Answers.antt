-- The line of the last row stands behind those of the others.
use Rattle.pw_terminal.proofs.RowLines.{row_lines-last}
use Rattle.pw_terminal.proofs.printing.print_rows.Goals as goal

pub returns : goal.returns
returns c =
    rw (c.in_ok-print_row.ensures, c.in_ok-print_upper.ensures, c.split_at.ensures.back, c.split_at.ensures.front, c.cells.ensures.cells)
    (row_lines-last c.args.text.now c.args.image.now c.cells.ensures.whole)
