-- They meet at one of the classes so far.
use Rattle.std.proofs.Common.{◌≡◌}
use Rattle.pw_world_store.specs.Keeps.{kept_in}
use Rattle.pw_paired.specs.Units.{any_below}
use Rattle.pw_entry_tests.specs.Causes.{class_meets}
use Rattle.pw_entry_tests.proofs.older.meet.Given as goal

abbrev pub invariant-loop-class : goal.invariant-loop-class
invariant-loop-class g l =
    l.found ≡ any_below l.class
    (λ c. class_meets l.keep.system (kept_in g.D.Disc.told l.keep) l.one l.other c)
