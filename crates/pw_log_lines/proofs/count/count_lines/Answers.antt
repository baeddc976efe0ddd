use Rattle.std.proofs.Common.{arith, rules, sym, ◌∙◌}
use Rattle.pw_base.specs.First.{Refuses}
use Rattle.pw_sections.specs.Lines.{lines}
use Rattle.pw_sections.specs.Steps.{each_line}
use Rattle.pw_sections.proofs.Folds.{no_lines, none_taken, one_taken, one_refused}
use Rattle.pw_log_lines.proofs.count.count_lines.Goals as goal

pub returns-in_err-count : goal.returns-in_err-count
returns-in_err-count g c =
    let refused : Refuses c.in_err-count.field-0.0 (each_line (g.C.CountedLines.counted c.args.names.now) c.args.first_line 0 (lines c.args.text.now)) =
    one_refused _ (g.C.CountedLines.counted c.args.names.now) c.loop-line.number c.loop-line.count _ _ _ _ c.in-Some.ensures.cases c.in_err-count.ensures.gives c.loop-line.invariant.so_far in
    search rules

pub loop-line-preserved : goal.loop-line-preserved
loop-line-preserved g c = record {
  so_far = one_taken (g.C.CountedLines.counted c.args.names.now) c.loop-line.number c.loop-line.count _ _ _ _ _ c.in-Some.ensures.cases c.in_ok-count.ensures.gives c.loop-line.invariant.so_far;
  count = c.in_ok-count.ensures.bound;
  number = omega (arith, c.in-Some.ensures.shorter);
}

pub returns : goal.returns
returns g c = sym c.loop-line.invariant.so_far ∙ none_taken (g.C.CountedLines.counted c.args.names.now) c.loop-line.number c.loop-line.count _ (no_lines _ c.in_default.ensures.cases)
