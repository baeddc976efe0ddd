use Rattle.std.proofs.Common.{arith, rules, ◌∙◌}
use Rattle.pw_terminal.proofs.Trimmed.{trimmed-nil, trimmed-take_cell, trimmed-take_space}
use Rattle.pw_terminal.proofs.printing.trim_cells.Goals as goal

pub loop-end-preserved : goal.loop-end-preserved
loop-end-preserved c = record {
  within = omega arith;
  same = trimmed-take_space c.args.row.now c.loop-end.end (omega arith) c.loop-end.invariant.within (search rules) ∙ c.loop-end.invariant.same;
}

pub returns : goal.returns
returns c = grind (arith, trimmed-nil, trimmed-take_cell)
