use Rattle.std.proofs.Common.{sym, ◌∙◌, arith}
use Rattle.pw_sections.proofs.Folds.{no_lines}
use Rattle.pw_log_lines.proofs.Opened.{blank_opened, none_opened}
use Rattle.pw_log_lines.proofs.log.open_log.Goals as goal

pub loop-line-preserved : goal.loop-line-preserved
loop-line-preserved c = record {
  so_far = blank_opened c.loop-line.number _ _ c.in-Some.line.now _ c.in-Some.ensures.cases c.if-not-is_blank.ensures c.loop-line.invariant.so_far;
  first = omega (arith, c.loop-line.invariant.first);
  number = omega (arith, c.loop-line.invariant.number, c.in-Some.ensures.shorter);
}

pub returns-clause-opened : goal.returns-clause-opened
returns-clause-opened c = sym c.loop-line.invariant.so_far ∙ none_opened c.loop-line.number _ (no_lines _ c.in_default.ensures.cases)
