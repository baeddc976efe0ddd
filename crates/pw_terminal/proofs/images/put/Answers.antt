-- The cells stay whole.
use Rattle.std.proofs.Common.{ap, length, arith}
use Rattle.pw_terminal.proofs.Written.{length-written}
use Rattle.pw_terminal.proofs.images.put.Goals as goal

pub overwrite-requires : goal.overwrite-requires
overwrite-requires c = omega (arith, c.image.invariant, c.requires)

pub invariant_of-image : goal.invariant_of-image
invariant_of-image c = omega (arith, c.image.invariant, ap length c.overwrite.ensures, length-written c.args.place c.args.text.now c.image.inside.cells)

pub returns-clause-cells : goal.returns-clause-cells
returns-clause-cells c = rw (← c.image.view_is) c.overwrite.ensures

pub returns-clause-whole : goal.returns-clause-whole
returns-clause-whole c = rw (← c.image.view_is) c.image.invariant
