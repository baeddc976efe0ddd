use Rattle.std.proofs.Common.{sym, ◌∙◌}
use Rattle.pw_sections.proofs.Folds.{no_lines}
use Rattle.pw_expand.proofs.Plays.{none-played}
use Rattle.pw_expand.proofs.play.play_events.Goals as goal

pub returns : goal.returns
returns c = sym c.loop-line.invariant.so_far ∙ none-played _ _ _ _ _ (no_lines _ c.in_default.ensures.cases)
