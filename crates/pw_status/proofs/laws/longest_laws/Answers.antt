use Rattle.std.proofs.Common.{arith}
use Rattle.pw_status.proofs.Few.{few-waiting}
use Rattle.pw_status.proofs.Waiting.{next-longest}
use Rattle.pw_paired.specs.State.{starting}
use Rattle.pw_status.proofs.laws.longest_laws.Goals as goal

pub returns : goal.returns
returns c = record {
  few = λ sys log c. let few = few-waiting sys (starting sys) c log in omega (arith, few);
  next = next-longest;
}
