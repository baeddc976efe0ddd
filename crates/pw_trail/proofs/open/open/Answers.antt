use Rattle.pw_trail.proofs.Restoring.{files-at-start, none-restored}
use Rattle.pw_trail.proofs.open.open.Goals as goal

pub invariant_of-into : goal.invariant_of-into
invariant_of-into g c = record { of = files-at-start c.args.system.now _ c.in-Ok.ensures.told }

pub open-requires-clause-none : goal.open-requires-clause-none
open-requires-clause-none g c κs within = none-restored c.args.system.now _ c.requires c.in-Ok.ensures.told
