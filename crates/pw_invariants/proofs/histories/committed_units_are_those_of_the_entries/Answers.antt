use Rattle.std.proofs.Common.{[], ◌∷◌, ◌++◌, None}
use Rattle.pw_event.specs.declared.event.Event.TheVariants.{Commit, Reply}
use Rattle.pw_invariants.proofs.Entries.{adds-commit, adds-reply, stays}
use Rattle.pw_invariants.proofs.Runs.{throughout}
use Rattle.pw_invariants.proofs.histories.committed_units_are_those_of_the_entries.Goals as goal

pub returns-clause-commit : goal.returns-clause-commit
returns-clause-commit c = λ sys b log t n run.
    adds-commit sys b log (c.runs_are_serializable.ensures sys b log (throughout sys log (Commit t n ∷ []) run)) t n
    (c.runs_are_serializable.ensures sys b (log ++ Commit t n ∷ []) run)

pub returns-clause-send : goal.returns-clause-send
returns-clause-send c = λ sys b log class i t run outside.
    adds-reply sys b log (c.runs_are_serializable.ensures sys b log (throughout sys log (Reply class i t None ∷ []) run)) class i t outside
    (c.runs_are_serializable.ensures sys b (log ++ Reply class i t None ∷ []) run)

pub returns-clause-stay : goal.returns-clause-stay
returns-clause-stay c = λ sys b log entry run none.
    stays sys b log (c.runs_are_serializable.ensures sys b log (throughout sys log (entry ∷ []) run)) entry
    (c.runs_are_serializable.ensures sys b (log ++ entry ∷ []) run) none
