use Rattle.pw_net.proofs.Agrees.{has-voted, not-aborted, stays-committed, stays-aborted}
use Rattle.pw_net.proofs.laws.agreement_laws.Goals as goal

pub returns : goal.returns
returns c = record {
  agree = λ events id one other is system. not-aborted events id one is other system;
  voted = λ events id one other is others ne. has-voted events id one is other others ne;
  committed = stays-committed;
  aborted = stays-aborted;
}
