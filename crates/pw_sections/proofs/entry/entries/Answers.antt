use Rattle.std.proofs.Common.{arith, rules, sym, ◌∙◌}
use Rattle.pw_base.specs.First.{Refuses}
use Rattle.pw_sections.proofs.Folds.{no_lines, none_taken, one_taken, one_refused}
use Rattle.pw_sections.specs.Entries.{entry_read, entries_of}
use Rattle.pw_sections.proofs.entry.entries.Goals as goal

pub returns-in_err-read_line : goal.returns-in_err-read_line
returns-in_err-read_line c =
    let refused : Refuses c.in_err-read_line.field-0.0 (entries_of c.args.text.now c.args.first_line) =
    one_refused _ entry_read c.loop-line.number c.loop-line.entries _ _ _ _ c.in-Some.ensures.cases c.in_err-read_line.ensures c.loop-line.invariant.so_far in
    search rules

pub loop-line-preserved : goal.loop-line-preserved
loop-line-preserved c = record {
  so_far = one_taken entry_read c.loop-line.number c.loop-line.entries c.read_line.new.entries _ _ _ _ c.in-Some.ensures.cases c.in_ok-read_line.ensures c.loop-line.invariant.so_far;
  number = omega (arith, c.in-Some.ensures.shorter);
}

pub returns : goal.returns
returns c = sym c.loop-line.invariant.so_far ∙ none_taken entry_read c.loop-line.number c.loop-line.entries _ (no_lines _ c.in_default.ensures.cases)
