use Rattle.std.proofs.Common.{arith, sym, ◌∙◌}
use Rattle.pw_sections.proofs.Folds.{no_lines}
use Rattle.pw_expand.proofs.Plays.{none-front, blank-more, first-there}
use Rattle.pw_expand.proofs.play.play.Goals as goal

pub returns-then-not-is_blank : goal.returns-then-not-is_blank
returns-then-not-is_blank c =
    first-there c.play_from.result _ _ c.loop-line.number c.in-Some.line.now _ _ _ c.in-Some.ensures.cases c.if-not-is_blank.ensures c.loop-line.invariant.so_far c.play_from.ensures

pub loop-line-preserved : goal.loop-line-preserved
loop-line-preserved c = record {
  so_far = blank-more _ c.loop-line.number c.in-Some.line.now _ _ _ c.in-Some.ensures.cases c.if-not-is_blank.ensures c.loop-line.invariant.so_far;
  begun = c.loop-line.invariant.begun;
  number = omega (arith, c.in-Some.ensures.shorter);
}

pub returns : goal.returns
returns c = sym c.loop-line.invariant.so_far ∙ none-front _ c.loop-line.number _ (no_lines _ c.in_default.ensures.cases)
