use Rattle.pw_code_meaning.specs.OfSystem.{behaviour}
use Rattle.pw_world_state.proofs.Agreeing.{agrees-of, tells-left}
use Rattle.pw_world_state.proofs.Failing.{fails-stands}
use Rattle.pw_world_state.proofs.Leaving.{cancel-stands, left-stands}
use Rattle.pw_world_state.proofs.failures.failure_laws.Goals as goal
use Rattle.pw_paired.specs.Failure.{is_of_pair}

pub returns : goal.returns
returns c = record {
  fails = λ system script state kept p primary terminals stands few are knows may.
      let agrees = agrees-of system script p terminals state are knows in
      fails-stands system script p terminals are few state kept stands
      (cancel-stands system script state kept (is_of_pair (behaviour script system) p) terminals stands agrees)
      (left-stands system script state kept (is_of_pair (behaviour script system) p) terminals stands agrees
      (tells-left system script p terminals state kept are knows may stands)) primary;
}
