-- None is found at the processes so far.
use Rattle.std.proofs.Common.{ℕ, ◌+◌, ◌<◌, None}
use Rattle.pw_world_store.specs.Keeps.{kept_in}
use Rattle.pw_entry_tests.specs.Causes.{IsOlderFound, process_meets}
use Rattle.pw_entry_tests.proofs.older.older_in_class.Given as goal

abbrev pub invariant-loop-place : goal.invariant-loop-place
invariant-loop-place g l =
    (i : ℕ) → i < l.place
    → IsOlderFound l.keep.system (kept_in g.D.Disc.told l.keep) l.own
    (λ older. process_meets l.keep.system (kept_in g.D.Disc.told l.keep) l.own older l.class (i + 1))
    None
