use Rattle.std.proofs.Common.{sym, ◌∙◌}
use Rattle.pw_laws.proofs.RunSteps.{finished-stops, one-more}
use Rattle.pw_laws.proofs.runs.laws.step_laws.Goals as goal

pub returns : goal.returns
returns c = record {
  run = one-more;
  finished = finished-stops;
  due = λ sys state entry k legal. (λ is. sym legal.due ∙ is, λ is. legal.due ∙ is);
}
