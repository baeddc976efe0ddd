use Rattle.pw_world_state.proofs.EachEntry.{next-enters}
use Rattle.pw_world_state.proofs.runs.next_laws.Goals as goal

pub returns : goal.returns
returns c = next-enters
