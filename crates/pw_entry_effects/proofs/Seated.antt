-- A placed terminal is one of the system.
use Rattle.std.proofs.Common.{ℕ, ◌<◌, length}
use Rattle.std.proofs.lemmas.Option.{slice_get_within}
use Rattle.pw_code.specs.declared.system.System.{System}
use Rattle.pw_world_state.specs.Tested.{IsPlaced}

pub placed-known : (system : System) (t : ℕ) → IsPlaced system t → t < length system.terminals
placed-known system t placed = slice_get_within system.terminals t placed.info placed.here
