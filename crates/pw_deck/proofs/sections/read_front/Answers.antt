use Rattle.std.proofs.Common.{arith, rules, sym, ◌∙◌}
use Rattle.pw_base.specs.First.{Refuses}
use Rattle.pw_sections.proofs.Folds.{no_lines, none_taken, one_taken, one_refused}
use Rattle.pw_deck.specs.Parts.{front_line, front_read}
use Rattle.pw_deck.proofs.sections.read_front.Goals as goal

pub returns-in_err-read_front_line : goal.returns-in_err-read_front_line
returns-in_err-read_front_line c =
    let refused : Refuses c.in_err-read_front_line.field-0.0 (front_read c.args.text.now) =
    one_refused _ front_line c.loop-line.number (tt {0}) _ _ _ _ c.in-Some.ensures.cases c.in_err-read_front_line.ensures c.loop-line.invariant.so_far in
    search rules

pub loop-line-preserved : goal.loop-line-preserved
loop-line-preserved c = record {
  so_far = one_taken front_line c.loop-line.number (tt {0}) _ _ _ _ _ c.in-Some.ensures.cases c.in_ok-read_front_line.ensures c.loop-line.invariant.so_far;
  number = omega (arith, c.in-Some.ensures.shorter);
}

pub returns : goal.returns
returns c = sym c.loop-line.invariant.so_far ∙ none_taken front_line c.loop-line.number (tt {0}) _ (no_lines _ c.in_default.ensures.cases)
