use Rattle.std.proofs.Common.{inl}
use Rattle.pw_workers.proofs.shared.Shared.turn_in_place.Goals as goal

pub returns-in-Some-clause-turn : goal.returns-in-Some-clause-turn
returns-in-Some-clause-turn g c = inl (record {
  tcp = c.in-Some.tcp;
  lane = c.in-Some.lane;
  taken = c.waiting_lane.new.self;
  first = c.in-Some.ensures.first;
  lanes_only = c.waiting_lane.ensures.rest;
  builds = c.build_in_place.ensures;
})
