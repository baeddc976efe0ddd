use Rattle.pw_sections.proofs.Cuts.{no_mark-none}
use Rattle.pw_sections.proofs.part.has_no_mark.Goals as goal

pub returns : goal.returns
returns c = no_mark-none c.loop-byte.rest.now c.args.bytes.now c.loop-byte.none c.in_default.ensures.cases c.loop-byte.invariant
