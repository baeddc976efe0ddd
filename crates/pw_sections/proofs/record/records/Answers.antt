use Rattle.std.proofs.Common.{arith, rules, sym, ◌∙◌}
use Rattle.pw_base.specs.First.{Refuses}
use Rattle.pw_sections.proofs.Folds.{no_lines, none_taken, one_taken, one_refused}
use Rattle.pw_sections.specs.Records.{record_read, records_of_text}
use Rattle.pw_sections.proofs.record.records.Goals as goal

pub returns-in_err-read_line : goal.returns-in_err-read_line
returns-in_err-read_line c =
    let refused : Refuses c.in_err-read_line.field-0.0 (records_of_text c.args.key c.args.text.now c.args.first_line) =
    one_refused _ (record_read c.args.key) c.loop-line.number c.loop-line.records _ _ _ _ c.in-Some.ensures.cases c.in_err-read_line.ensures.gives c.loop-line.invariant.so_far in
    search rules

pub loop-line-preserved : goal.loop-line-preserved
loop-line-preserved c = record {
  so_far = one_taken (record_read c.args.key) c.loop-line.number c.loop-line.records c.read_line.new.records _ _ _ _ c.in-Some.ensures.cases c.in_ok-read_line.ensures.gives c.loop-line.invariant.so_far;
  keys = c.in_ok-read_line.ensures.keys;
  number = omega (arith, c.in-Some.ensures.shorter);
}

pub returns : goal.returns
returns c = sym c.loop-line.invariant.so_far ∙ none_taken (record_read c.args.key) c.loop-line.number c.loop-line.records _ (no_lines _ c.in_default.ensures.cases)
