-- Those so far are named.
use Rattle.std.proofs.Common.{◌≡◌, map, take}
use Rattle.pw_world_store.specs.Keeps.{kept_in}
use Rattle.pw_world_store.proofs.keep.Keep.last_ended.Given as goal

abbrev pub invariant-loop-terminal : goal.invariant-loop-terminal
invariant-loop-terminal g l =
    l.ended.items ≡ map (λ t. (t, ((kept_in g.D.Disc.told l.self).disc.ended t).number)) (take l.terminal-index l.terminals)
