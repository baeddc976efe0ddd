use Rattle.std.proofs.Common.{◌≡◌, ◌<◌, ◌≤◌, ℕ, length}
use Rattle.pw_world.specs.States.{seen}
use Rattle.pw_world_model.specs.Calls.{lent}
use Rattle.pw_workers.specs.Places.{IsAskedAt, lane_at}
use Rattle.pw_workers.proofs.places.lend_down.Given as goal

abbrev pub invariant-loop-tcp : goal.invariant-loop-tcp
invariant-loop-tcp g l = record {
  as_many : length l.places ≡ length l.fn.places;
  done : (p : ℕ) → p < l.tcp
      → IsAskedAt (lent ((seen g.D.Disc.told l.world).kept.pairs p)) (lane_at l.fn.places p) (lane_at l.places p);
  left : (p : ℕ) → l.tcp ≤ p → lane_at l.places p ≡ lane_at l.fn.places p;
}
