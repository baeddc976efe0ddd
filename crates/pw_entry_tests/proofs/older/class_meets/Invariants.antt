-- They meet at one of the processes so far.
use Rattle.std.proofs.Common.{◌≡◌, ◌+◌}
use Rattle.pw_world_store.specs.Keeps.{kept_in}
use Rattle.pw_paired.specs.Units.{any_below}
use Rattle.pw_entry_tests.specs.Causes.{process_meets}
use Rattle.pw_entry_tests.proofs.older.class_meets.Given as goal

abbrev pub invariant-loop-place : goal.invariant-loop-place
invariant-loop-place g l =
    l.found ≡ any_below l.place
    (λ i. process_meets l.keep.system (kept_in g.D.Disc.told l.keep) l.one l.other l.class (i + 1))
