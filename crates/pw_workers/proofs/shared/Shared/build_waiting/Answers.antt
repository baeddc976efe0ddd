use Rattle.std.proofs.Common.{length, inl, inr, refl}
use Rattle.pw_workers.proofs.shared.Shared.build_waiting.Goals as goal

pub returns-in-Ok : goal.returns-in-Ok
returns-in-Ok g c = record {
  pairs = length c.args.self.now.world.keep.system.tcps;
  asked = c.built_each.new.self;
  builds = c.in-Ok.ensures.ok;
  world_only = c.built_each.ensures.rest;
  ends = inl (refl, refl);
}

pub returns-in-Err : goal.returns-in-Err
returns-in-Err g c = record {
  pairs = c.built_each.ensures.asked.0;
  asked = c.built_each.new.self;
  builds = c.built_each.ensures.asked.1;
  world_only = c.built_each.ensures.rest;
  ends = inr c.end_run.ensures;
}
