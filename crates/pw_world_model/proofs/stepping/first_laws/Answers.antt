use Rattle.std.proofs.Common.{refl}
use Rattle.pw_world_model.proofs.First.{first-world}
use Rattle.pw_world_model.proofs.stepping.first_laws.Goals as goal

pub returns-clause-world : goal.returns-clause-world
returns-clause-world c system script contexts disc limit valid b few lines few_lines of paths = first-world system script contexts disc limit valid b few lines few_lines of paths

pub returns-clause-new : goal.returns-clause-new
returns-clause-new c system script contexts disc limit = record {
  system_is = refl;
  script_is = refl;
  limit_is = refl;
  empty = refl;
  disc_is = refl;
  count = refl;
  sound = refl;
  inside = λ actor. refl;
  unread = λ t. refl;
}
