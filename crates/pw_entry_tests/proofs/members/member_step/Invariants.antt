-- The terminals so far have nothing but messages that are not built, and such a one is noted.
use Rattle.std.proofs.Common.{take}
use Rattle.pw_world_store.specs.Keeps.{kept_in}
use Rattle.pw_entry_tests.proofs.OfPair.{IsBehind}
use Rattle.pw_entry_tests.proofs.members.member_step.Given as goal

abbrev pub invariant-loop-seat : goal.invariant-loop-seat
invariant-loop-seat g l =
    IsBehind l.keep.system (kept_in g.D.Disc.told l.keep) l.tcp (take l.seat-index l.seats) l.unbuilt
