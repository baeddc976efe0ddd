use Rattle.pw_world_state.proofs.EachEntry.{entry-enters}
use Rattle.pw_world_state.proofs.entering.entry_laws.Goals as goal

pub returns : goal.returns
returns c = entry-enters
