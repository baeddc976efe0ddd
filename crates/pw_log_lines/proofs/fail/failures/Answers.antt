use Rattle.std.proofs.Common.{arith, rules, sym, ◌∙◌}
use Rattle.pw_base.specs.First.{Refuses}
use Rattle.pw_sections.proofs.Folds.{no_lines, none_taken, one_taken, one_refused}
use Rattle.pw_log_lines.specs.Fail.{failure_read, failures_of}
use Rattle.pw_log_lines.proofs.fail.failures.Goals as goal

pub returns-in_err-read_line : goal.returns-in_err-read_line
returns-in_err-read_line c =
    let refused : Refuses c.in_err-read_line.field-0.0 (failures_of c.args.names.now c.args.text.now c.args.first_line) =
    one_refused _ (failure_read c.args.names.now) c.loop-line.number c.loop-line.fails _ _ _ _ c.in-Some.ensures.cases c.in_err-read_line.ensures c.loop-line.invariant.so_far in
    search rules

pub loop-line-preserved : goal.loop-line-preserved
loop-line-preserved c = record {
  so_far = one_taken (failure_read c.args.names.now) c.loop-line.number c.loop-line.fails c.read_line.new.fails _ _ _ _ c.in-Some.ensures.cases c.in_ok-read_line.ensures c.loop-line.invariant.so_far;
  number = omega (arith, c.in-Some.ensures.shorter);
}

pub returns : goal.returns
returns c = sym c.loop-line.invariant.so_far ∙ none_taken (failure_read c.args.names.now) c.loop-line.number c.loop-line.fails _ (no_lines _ c.in_default.ensures.cases)
