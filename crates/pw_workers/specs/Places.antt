-- The lanes of a run's pairs, each in its place or with a worker, and the tasks that wait on them.
use Rattle.std.specs.Prelude.{◌≡◌, ◌<◌, ℕ, Bool, false, List, length, Option, None, Some, IsSome, position, slice_index_or, slice_set}
use Rattle.std.specs.Option.{is_some}
use Rattle.pw_pair.specs.SeenTask.{SeenTask}
use Rattle.pw_world_model.specs.Calls.{lent}
use Rattle.pw_world_model.specs.Seen.{Seen}
use Rattle.pw_workers.specs.Lanes.{waiting_in}
use Rattle.pw_workers.specs.declared.lane.LinkLane.{LinkLane}

-- the lane of pair p, where it is in its place
abbrev pub lane_at : List (Option LinkLane) → ℕ → Option LinkLane
lane_at lanes p = slice_index_or lanes p None

-- a task waits on the lane of a place
abbrev pub waits_at : Option LinkLane → Bool
waits_at None = false
waits_at (Some lane) = is_some lane.waiting

-- the lane is in its place, and nothing waits on it
abbrev pub IsFreeAt : Option LinkLane → Type 0
IsFreeAt place = (lane : LinkLane) × ((place ≡ Some lane) × (lane.waiting ≡ None))

-- the first lane on which a task waits is taken out of its place
pub record IsTakenFirst (old new : List (Option LinkLane)) (p : ℕ) (lane : LinkLane) : Type 0 where
  pub first : position waits_at old ≡ Some p
  pub lane_is : lane_at old p ≡ Some lane
  pub taken : new ≡ slice_set old p None

-- a lane on which nothing waits has this task now, if it is one; and any other is as it was
pub record IsLaneAsked (task : Option SeenTask) (old new : LinkLane) : Type 0 where
  pub free : old.waiting ≡ None → waiting_in new.waiting ≡ task
  pub busy : IsSome old.waiting → new ≡ old

-- so is the lane of a place, where it is there
abbrev pub IsAskedAt : Option SeenTask → Option LinkLane → Option LinkLane → Type 0
IsAskedAt task None new = new ≡ None
IsAskedAt task (Some old) new = (lane : LinkLane) × ((new ≡ Some lane) × IsLaneAsked task old lane)

-- each pair whose lane is in its place and free was asked for its work of building an image
pub record AreAsked (world : Seen) (old new : List (Option LinkLane)) : Type 0 where
  pub as_many : length new ≡ length old
  pub each : (p : ℕ) → p < length old → IsAskedAt (lent (world.kept.pairs p)) (lane_at old p) (lane_at new p)
