use Rattle.pw_laws.proofs.decided.Legality.{legality}
use Rattle.pw_laws.proofs.legal.laws.legality_laws.Goals as goal

pub returns : goal.returns
returns c = record {
  sound = λ sys state entry. (legality sys state entry).0;
  complete = λ sys state entry. (legality sys state entry).1;
}
