use Rattle.std.proofs.Common.{arith, rules, sym, ◌∙◌}
use Rattle.pw_base.specs.First.{Refuses}
use Rattle.pw_sections.proofs.Folds.{no_lines, none_taken, one_taken, one_refused}
use Rattle.pw_sections.specs.Records.{printable_line, printable}
use Rattle.pw_sections.proofs.record.printable.Goals as goal

pub returns-in_err-printable_line : goal.returns-in_err-printable_line
returns-in_err-printable_line c =
    let refused : Refuses c.in_err-printable_line.field-0.0 (printable c.args.text.now c.args.first_line) =
    one_refused _ printable_line c.loop-line.number (tt {0}) _ _ _ _ c.in-Some.ensures.cases c.in_err-printable_line.ensures c.loop-line.invariant.so_far in
    search rules

pub loop-line-preserved : goal.loop-line-preserved
loop-line-preserved c = record {
  so_far = one_taken printable_line c.loop-line.number (tt {0}) (tt {0}) _ _ _ _ c.in-Some.ensures.cases c.in_ok-printable_line.ensures c.loop-line.invariant.so_far;
  number = omega (arith, c.in-Some.ensures.shorter);
}

pub returns : goal.returns
returns c = sym c.loop-line.invariant.so_far ∙ none_taken printable_line c.loop-line.number (tt {0}) _ (no_lines _ c.in_default.ensures.cases)
