use Rattle.pw_world_model.proofs.Stamped.{one-stamp}
use Rattle.pw_world_model.proofs.laws.stamp_laws.Goals as goal

pub returns : goal.returns
returns c = record {
  one = one-stamp;
  fresh = λ world new task outcome work actor stamp sys log. rw (actor, stamp, sys, log) work.stamp;
}
