-- Those so far and those that are left are all.
use Rattle.std.proofs.Common.{◌≡◌, ◌++◌, drop}
use Rattle.pw_world_store.specs.Keeps.{kept_in}
use Rattle.pw_tmf.specs.Leaving.{open_units}
use Rattle.pw_world_store.proofs.keep.Keep.open_units.Given as goal

abbrev pub invariant-loop-terminal : goal.invariant-loop-terminal
invariant-loop-terminal g l =
    l.units.items ++ open_units (kept_in g.D.Disc.told l.self).disc (drop l.terminal-index l.terminals)
    ≡ open_units (kept_in g.D.Disc.told l.self).disc l.terminals
