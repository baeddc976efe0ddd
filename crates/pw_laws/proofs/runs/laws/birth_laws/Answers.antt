use Rattle.pw_laws.proofs.Births.{births-ok}
use Rattle.pw_laws.proofs.runs.laws.birth_laws.Goals as goal

pub returns : goal.returns
returns c = record {
  below = λ sys log. (births-ok sys log).below;
  apart = λ sys log. (births-ok sys log).apart;
}
