-- None is found at the classes so far.
use Rattle.std.proofs.Common.{ℕ, ◌<◌, None}
use Rattle.pw_world_store.specs.Keeps.{kept_in}
use Rattle.pw_entry_tests.specs.Causes.{IsOlderFound, class_meets}
use Rattle.pw_entry_tests.proofs.older.find_older.Given as goal

abbrev pub invariant-loop-class : goal.invariant-loop-class
invariant-loop-class g l =
    (c : ℕ) → c < l.class
    → IsOlderFound l.keep.system (kept_in g.D.Disc.told l.keep) l.own
    (λ older. class_meets l.keep.system (kept_in g.D.Disc.told l.keep) l.own older c) None
