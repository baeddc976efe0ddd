-- The list has grown by where the requests of the terminals so far are.
use Rattle.std.proofs.Common.{take}
use Rattle.std.specs.List.{list_any}
use Rattle.pw_world_store.specs.Keeps.{kept_in}
use Rattle.pw_world.proofs.Touching.{terminals_of}
use Rattle.pw_world.specs.Touched.{Grows, asks_at}
use Rattle.pw_world.proofs.world.World.push_requests.Given as goal

abbrev pub invariant-loop-seat : goal.invariant-loop-seat
invariant-loop-seat g l = record {
  grown : Grows l.self.keep.system (λ one. list_any (λ t. asks_at (kept_in g.D.Disc.told l.self.keep) t one) (terminals_of (take l.seat-index l.seats))) l.initial.actors.items l.actors.items;
}
