use Rattle.pw_laws.proofs.ends.EndsOnce.{ends-once, never-falls}
use Rattle.pw_laws.proofs.runs.laws.ending_laws.Goals as goal

pub returns : goal.returns
returns c = record { rises = never-falls; once = ends-once }
