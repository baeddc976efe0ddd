-- The spots have the sizes of their places.
use Rattle.std.proofs.Common.{arith}
use Rattle.pw_machine.specs.Views.{registers_by}
use Rattle.pw_machine.proofs.LinkageLemmas.{sizes_at_end}
use Rattle.pw_machine.proofs.statements.spots_of.Goals as goal

pub returns-clause-sizes : goal.returns-clause-sizes
returns-clause-sizes c =
    sizes_at_end (registers_by c.args.registers) c.args.storage.now c.args.places.now c.loop-place.place-index c.loop-place.spots.items (omega arith) c.loop-place.invariant.spots
