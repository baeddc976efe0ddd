use Rattle.pw_text.proofs.Plain.{plain-none}
use Rattle.pw_text.proofs.bytes.are_plain.Goals as goal

pub returns : goal.returns
returns c = plain-none c.loop-byte.rest.now c.args.text.now c.loop-byte.plain c.in_default.ensures.cases c.loop-byte.invariant.so_far
