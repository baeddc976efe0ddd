-- What each unit alone keeps holds in every run, of the records beside the units that have committed.
use Rattle.std.proofs.Common.{◌≡◌, List, [], ◌∷◌, ◌++◌, refl, sym, subst, append-nil, append_assoc}
use Rattle.pw_event.specs.declared.event.Event.{Event}
use Rattle.pw_invariants.proofs.Machines.{MachineOk, begins-ok, block-ok}
use Rattle.pw_invariants.proofs.Turns.{between}
use Rattle.pw_invariants.specs.Invariants.{KeepsHistory, KeepsInvariant}
use Rattle.pw_invariants.specs.Units.{CommittedUnit, FileRecords, RunInTurn, committed_units, unit_in, units_in}
use Rattle.pw_laws.proofs.RunSteps.{run-parts}
use Rattle.pw_onecopy.specs.Attempt.{Attempt}
use Rattle.pw_onecopy.specs.Behaviour.{Behaviour}
use Rattle.pw_onecopy.specs.Blocks.{SerialBlock, Out, Attempted, Done, Committed, Aborted, Restarted, Left}
use Rattle.pw_onecopy.specs.IsBehaviour.{IsBehaviour}
use Rattle.pw_onecopy.specs.OneCopy.{IsSerialFrom, LegalBlock, Machine, Single, beginning, next_attempt, one_copy, run_block, run_blocks}
use Rattle.pw_paired.specs.Headline.{IsSerializable}
use Rattle.pw_paired.specs.Serial.{blocks}
use Rattle.pw_paired.specs.Step.{IsRun, after}
use Rattle.pw_paired.specs.Units.{committed_files}

-- a log up to an entry of a run is a run
pub throughout : (sys : Behaviour) (log more : List Event) → IsRun sys (log ++ more) → IsRun sys log
throughout sys log more run = (run-parts sys (log ++ more) log more run refl).0

module _ (sys : Behaviour) (b : IsBehaviour sys) (holds : List CommittedUnit → FileRecords → Type 0) (keeps : KeepsHistory sys holds) where
  same-done : (done : List CommittedUnit) (records : FileRecords) → holds done records → holds (done ++ []) records
  same-done done records now = subst (λ (units : List CommittedUnit). holds units records) (sym (append-nil done)) now

  -- behind a block
  behind-block : (machine : Machine) (block : SerialBlock) (done : List CommittedUnit) → LegalBlock sys machine block → MachineOk sys machine
      → holds done machine.files → holds (done ++ unit_in sys machine block) (run_block sys machine block).files
  behind-block machine (Out t) done legal ok now = same-done done machine.files now
  behind-block machine (Attempted t n Committed j) done legal ok now =
      let single : Single = machine.terms t in
      let at : Attempt = next_attempt sys machine t j in
      keeps done (record { terminal = t; start = single.path; path = at.path }) machine.files at.files
      (record {
        is_path = (ok.terms t).is_path legal.live.known;
        are_files = ok.are_files;
        restarts = single.restarts;
        few = (ok.terms t).few;
        answers = j;
        is_attempt = legal.is_attempt;
        commits = legal.may_be;
        path = refl;
        leaves = refl;
      })
      now
  behind-block machine (Attempted t n Aborted j) done legal ok now = same-done done machine.files now
  behind-block machine (Attempted t n Restarted j) done legal ok now = same-done done machine.files now
  behind-block machine (Attempted t n Left j) done legal ok now = same-done done machine.files now
  behind-block machine (Done t ending) done legal ok now = same-done done machine.files now

  -- behind blocks
  behind-blocks : (machine : Machine) (order : List SerialBlock) (done : List CommittedUnit) → IsSerialFrom sys machine order → MachineOk sys machine
      → holds done machine.files → holds (done ++ units_in sys machine order) (run_blocks sys machine order).files
  behind-blocks machine [] done serial ok now = same-done done machine.files now
  behind-blocks machine (block ∷ rest) done serial ok now =
      let next : Machine = run_block sys machine block in
      subst (λ (units : List CommittedUnit). holds units (run_blocks sys next rest).files)
      (append_assoc done (unit_in sys machine block) (units_in sys next rest))
      (behind-blocks next rest (done ++ unit_in sys machine block) serial.1 (block-ok sys b machine block serial.0 ok) (behind-block machine block done serial.0 ok now))

  -- in the one-copy machine behind the serial order of a log
  pub history-reported : holds [] sys.records → (log : List Event) → IsSerializable sys log → holds (committed_units sys log) (one_copy sys (blocks sys log)).files
  history-reported first log serial = behind-blocks (beginning sys) (blocks sys log) [] serial.legal (begins-ok sys b) first

  -- in the committed records behind the log
  pub history-committed : holds [] sys.records → (log : List Event) → IsSerializable sys log → holds (committed_units sys log) (committed_files sys (after sys log))
  history-committed first log serial =
      let same : committed_files sys (after sys log) ≡ (one_copy sys (blocks sys log)).files = λ i f. serial.records f i in
      subst (holds (committed_units sys log)) (sym same) (history-reported first log serial)

-- what each unit alone keeps is kept by units that run in turn
pub turn-keeps : (sys : Behaviour) (holds : FileRecords → Type 0) → KeepsInvariant sys holds → (records left : FileRecords) (units : List CommittedUnit)
    → RunInTurn sys records units left → holds records → holds left
turn-keeps sys holds keeps records left [] turn now = subst holds (sym turn) now
turn-keeps sys holds keeps records left (unit ∷ units) turn now = turn-keeps sys holds keeps turn.0 left units turn.2 (keeps unit records turn.0 turn.1 now)

-- from any moment of a run on
pub kept-between : (sys : Behaviour) → IsBehaviour sys → (holds : FileRecords → Type 0) → KeepsInvariant sys holds → (log more : List Event)
    → IsSerializable sys log → IsSerializable sys (log ++ more) → holds (committed_files sys (after sys log)) → holds (committed_files sys (after sys (log ++ more)))
kept-between sys b holds keeps log more first serial now =
    let since = between sys b log more first serial in
    turn-keeps sys holds keeps (committed_files sys (after sys log)) (committed_files sys (after sys (log ++ more))) since.units since.in_turn now
