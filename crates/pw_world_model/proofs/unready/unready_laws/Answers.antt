use Rattle.pw_world_model.proofs.Readying.{builds-less, held-less, never-idle, never-stale, never-unrun, only-unbuilt}
use Rattle.pw_world_model.proofs.unready.unready_laws.Goals as goal

pub returns : goal.returns
returns c = record {
  stale = never-stale;
  unrun = never-unrun;
  held = held-less;
  unbuilt = only-unbuilt;
  builds = builds-less;
  idle = never-idle;
}
