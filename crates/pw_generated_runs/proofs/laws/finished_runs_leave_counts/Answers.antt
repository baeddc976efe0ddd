use Rattle.pw_generated_runs.proofs.Finished.{finished-counts}
use Rattle.pw_generated_runs.proofs.laws.finished_runs_leave_counts.Goals as goal

pub returns : goal.returns
returns c = finished-counts (record {
  counts = c.counting_decks_count.ensures;
  serializable = c.runs_are_serializable.ensures;
  suspends = c.enough_restarts_never_suspend.ensures;
})
