use Rattle.pw_onecopy.specs.OneCopy.{one_copy}
use Rattle.pw_paired.specs.Serial.{blocks}
use Rattle.std.proofs.Common.{◌++◌, refl}
use Rattle.pw_invariants.proofs.Runs.{history-committed, history-reported, kept-between, throughout}
use Rattle.pw_invariants.proofs.invariants.invariants_hold_in_every_run.Goals as goal

pub returns-clause-committed : goal.returns-clause-committed
returns-clause-committed g c = λ sys b first keeps log run.
    history-committed sys b (λ done records. g.I.Invariant.holds records) (λ done. keeps) first log (c.runs_are_serializable.ensures sys b log run)

pub returns-clause-throughout : goal.returns-clause-throughout
returns-clause-throughout g c = λ sys b first keeps log more run.
    history-committed sys b (λ done records. g.I.Invariant.holds records) (λ done. keeps) first log
    (c.runs_are_serializable.ensures sys b log (throughout sys log more run))

pub returns-clause-reported : goal.returns-clause-reported
returns-clause-reported g c = λ sys b first keeps log run system. record {
  records = (one_copy sys (blocks sys log)).files;
  meet = history-reported sys b (λ done records. g.I.Invariant.holds records) (λ done. keeps) first log (c.runs_are_serializable.ensures sys b log run);
  report = refl;
  files = refl;
}

pub returns-clause-onwards : goal.returns-clause-onwards
returns-clause-onwards g c = λ sys b keeps log more run now.
    kept-between sys b g.I.Invariant.holds keeps log more
    (c.runs_are_serializable.ensures sys b log (throughout sys log more run)) (c.runs_are_serializable.ensures sys b (log ++ more) run) now
