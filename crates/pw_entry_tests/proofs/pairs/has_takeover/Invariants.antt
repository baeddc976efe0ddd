-- One of those so far is such.
use Rattle.std.proofs.Common.{◌≡◌, ◌&&◌}
use Rattle.pw_world_store.specs.Keeps.{kept_in}
use Rattle.pw_world_state.specs.PairTests.{is_in}
use Rattle.pw_paired.specs.Raising.{is_takeover}
use Rattle.pw_paired.specs.Units.{any_below}
use Rattle.pw_entry_tests.proofs.pairs.has_takeover.Given as goal

abbrev pub invariant-loop-terminal : goal.invariant-loop-terminal
invariant-loop-terminal g l =
    l.found
    ≡ any_below l.terminal
    (λ t. is_in l.keep.system l.tcp t && is_takeover ((kept_in g.D.Disc.told l.keep).terminals t).pending)
