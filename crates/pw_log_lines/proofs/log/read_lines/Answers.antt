use Rattle.std.proofs.Common.{[], arith, rules, sym, ◌∙◌}
use Rattle.pw_base.specs.First.{Refuses}
use Rattle.pw_sections.specs.Lines.{lines}
use Rattle.pw_sections.specs.Steps.{each_line}
use Rattle.pw_sections.proofs.Folds.{no_lines, none_taken, one_taken, one_refused}
use Rattle.pw_log_lines.specs.Log.{event_read}
use Rattle.pw_log_lines.proofs.log.read_lines.Goals as goal

pub returns-in_err-read_line : goal.returns-in_err-read_line
returns-in_err-read_line c =
    let refused : Refuses c.in_err-read_line.field-0.0 (each_line (event_read c.args.names.now) c.args.first_line [] (lines c.args.text.now)) =
    one_refused _ (event_read c.args.names.now) c.loop-line.number c.loop-line.events _ _ _ _ c.in-Some.ensures.cases c.in_err-read_line.ensures.gives c.loop-line.invariant.so_far in
    search rules

pub loop-line-preserved : goal.loop-line-preserved
loop-line-preserved c = record {
  so_far = one_taken (event_read c.args.names.now) c.loop-line.number c.loop-line.events c.read_line.new.events _ _ _ _ c.in-Some.ensures.cases c.in_ok-read_line.ensures.gives c.loop-line.invariant.so_far;
  few = omega (arith, c.in_ok-read_line.ensures.one);
  number = omega (arith, c.in-Some.ensures.shorter);
}

pub returns : goal.returns
returns c = sym c.loop-line.invariant.so_far ∙ none_taken (event_read c.args.names.now) c.loop-line.number c.loop-line.events _ (no_lines _ c.in_default.ensures.cases)
