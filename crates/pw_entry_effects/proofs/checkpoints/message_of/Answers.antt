use Rattle.pw_entry_effects.proofs.Carrying.{image-sound}
use Rattle.pw_entry_effects.proofs.checkpoints.message_of.Goals as goal

pub returns-clause-image : goal.returns-clause-image
returns-clause-image c = image-sound c.in_ok-image.image c.args.context.now c.in_ok-image.ensures.format
