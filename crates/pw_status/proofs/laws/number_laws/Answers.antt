use Rattle.pw_status.proofs.Few.{few-counted}
use Rattle.pw_status.proofs.Numbering.{forgotten, noted, same-shown, seen-again}
use Rattle.pw_paired.specs.State.{starting}
use Rattle.pw_status.proofs.laws.number_laws.Goals as goal

pub returns : goal.returns
returns c = record {
  few = λ sys log t. few-counted sys (starting sys) log t;
  same = same-shown;
  noted = noted;
  seen = seen-again;
  forgotten = forgotten;
}
