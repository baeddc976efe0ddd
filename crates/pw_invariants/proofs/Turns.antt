-- The units that a log has committed run in turn, from the deck's records and between any two moments.
use Rattle.std.proofs.Common.{◌≡◌, ℕ, zero, suc, Bool, true, false, List, [], ◌∷◌, ◌++◌, Option, Some, None, is_none, if◌then◌else◌, refl, ap, sym, subst, subst₂, append-nil, append_assoc, ◌∙◌}
use Rattle.pw_event.specs.declared.event.Event.{Event}
use Rattle.pw_invariants.proofs.Machines.{MachineOk, begins-ok, block-ok}
use Rattle.pw_invariants.specs.Units.{CommitsBetween, CommittedUnit, FileRecords, RunInTurn, committed_units, unit_in, units_in}
use Rattle.pw_laws.proofs.blocks.Fold.{Fold, fold_after, fold_on, fold_starts, fold-blocks, fold-order-from, run_blocks-append}
use Rattle.pw_laws.proofs.induction.Runs.{carried_from-append}
use Rattle.pw_onecopy.specs.Behaviour.{Behaviour}
use Rattle.pw_onecopy.specs.Blocks.{SerialBlock, Out, Attempted, Done, Committed, Aborted, Restarted, Left}
use Rattle.pw_onecopy.specs.IsBehaviour.{IsBehaviour}
use Rattle.pw_onecopy.specs.OneCopy.{IsSerialFrom, Machine, Single, beginning, one_copy, run_block, run_blocks}
use Rattle.pw_paired.specs.Headline.{IsSerializable}
use Rattle.pw_paired.specs.Serial.{Reading, blocks, entry_blocks_from, left_block, left_blocks}
use Rattle.pw_paired.specs.State.{OpenUnit, State, starting}
use Rattle.pw_paired.specs.Step.{after}
use Rattle.pw_paired.specs.Units.{committed_files}

-- no block commits a unit
abbrev pub IsQuiet : List SerialBlock → Type 0
IsQuiet [] = Unit {0}
IsQuiet (Attempted t n Committed j ∷ rest) = ⊥
IsQuiet (_ ∷ rest) = IsQuiet rest

pub quiet-append : (order more : List SerialBlock) → IsQuiet order → IsQuiet more → IsQuiet (order ++ more)
quiet-append [] more quiet rest = rest
quiet-append (Out t ∷ order) more quiet rest = quiet-append order more quiet rest
quiet-append (Attempted t n Committed j ∷ order) more quiet rest = absurd quiet
quiet-append (Attempted t n Aborted j ∷ order) more quiet rest = quiet-append order more quiet rest
quiet-append (Attempted t n Restarted j ∷ order) more quiet rest = quiet-append order more quiet rest
quiet-append (Attempted t n Left j ∷ order) more quiet rest = quiet-append order more quiet rest
quiet-append (Done t ending ∷ order) more quiet rest = quiet-append order more quiet rest

-- attempts that are left commit nothing
pub left-quiet : (t j : ℕ) (unit : Option OpenUnit) → IsQuiet (left_block t j unit)
left-quiet t j None = tt
left-quiet t j (Some unit) = by (is_none unit.running)
  where
    by : (b : Bool) → IsQuiet (if b then [] else Attempted t unit.number Left j ∷ [])
    by true = tt
    by false = tt

pub lefts-quiet : (s : State) (reading : Reading) (whose : ℕ → Bool) (n : ℕ) → IsQuiet (left_blocks s reading whose n)
lefts-quiet s reading whose zero = tt
lefts-quiet s reading whose (suc t) =
    quiet-append (left_blocks s reading whose t) (if whose t then left_block t (reading.answers t) (s.units t) else []) (lefts-quiet s reading whose t) (by (whose t))
  where
    by : (b : Bool) → IsQuiet (if b then left_block t (reading.answers t) (s.units t) else [])
    by true = left-quiet t (reading.answers t) (s.units t)
    by false = tt

module _ (sys : Behaviour) where
  -- they leave the files
  pub quiet-files : (machine : Machine) (order : List SerialBlock) → IsQuiet order → (run_blocks sys machine order).files ≡ machine.files
  quiet-files machine [] quiet = refl
  quiet-files machine (Out t ∷ rest) quiet = quiet-files (run_block sys machine (Out t)) rest quiet
  quiet-files machine (Attempted t n Committed j ∷ rest) quiet = absurd quiet
  quiet-files machine (Attempted t n Aborted j ∷ rest) quiet = quiet-files (run_block sys machine (Attempted t n Aborted j)) rest quiet
  quiet-files machine (Attempted t n Restarted j ∷ rest) quiet = quiet-files (run_block sys machine (Attempted t n Restarted j)) rest quiet
  quiet-files machine (Attempted t n Left j ∷ rest) quiet = quiet-files (run_block sys machine (Attempted t n Left j)) rest quiet
  quiet-files machine (Done t ending ∷ rest) quiet = quiet-files (run_block sys machine (Done t ending)) rest quiet

  -- and have no units
  pub quiet-units : (machine : Machine) (order : List SerialBlock) → IsQuiet order → units_in sys machine order ≡ []
  quiet-units machine [] quiet = refl
  quiet-units machine (Out t ∷ rest) quiet = quiet-units (run_block sys machine (Out t)) rest quiet
  quiet-units machine (Attempted t n Committed j ∷ rest) quiet = absurd quiet
  quiet-units machine (Attempted t n Aborted j ∷ rest) quiet = quiet-units (run_block sys machine (Attempted t n Aborted j)) rest quiet
  quiet-units machine (Attempted t n Restarted j ∷ rest) quiet = quiet-units (run_block sys machine (Attempted t n Restarted j)) rest quiet
  quiet-units machine (Attempted t n Left j ∷ rest) quiet = quiet-units (run_block sys machine (Attempted t n Left j)) rest quiet
  quiet-units machine (Done t ending ∷ rest) quiet = quiet-units (run_block sys machine (Done t ending)) rest quiet

  -- the units of two parts
  pub units-append : (machine : Machine) (order more : List SerialBlock)
      → units_in sys machine (order ++ more) ≡ units_in sys machine order ++ units_in sys (run_blocks sys machine order) more
  units-append machine [] more = refl
  units-append machine (block ∷ order) more =
      let next : Machine = run_block sys machine block in
      ap (λ (units : List CommittedUnit). unit_in sys machine block ++ units) (units-append next order more)
      ∙ sym (append_assoc (unit_in sys machine block) (units_in sys next order) (units_in sys (run_blocks sys next order) more))

  -- an order in two parts is legal in each
  pub serial-split : (machine : Machine) (order more : List SerialBlock) → IsSerialFrom sys machine (order ++ more)
      → IsSerialFrom sys machine order × IsSerialFrom sys (run_blocks sys machine order) more
  serial-split machine [] more serial = (tt, serial)
  serial-split machine (block ∷ order) more serial =
      let rest = serial-split (run_block sys machine block) order more serial.1 in ((serial.0, rest.0), rest.1)

  module _ (b : IsBehaviour sys) where
    -- what machines keep, behind blocks
    pub blocks-ok : (machine : Machine) (order : List SerialBlock) → IsSerialFrom sys machine order → MachineOk sys machine → MachineOk sys (run_blocks sys machine order)
    blocks-ok machine [] serial ok = ok
    blocks-ok machine (block ∷ rest) serial ok = blocks-ok (run_block sys machine block) rest serial.1 (block-ok sys b machine block serial.0 ok)

    -- the units of blocks run in turn
    pub turn-blocks : (machine : Machine) (order : List SerialBlock) → IsSerialFrom sys machine order → MachineOk sys machine
        → RunInTurn sys machine.files (units_in sys machine order) (run_blocks sys machine order).files
    turn-blocks machine [] serial ok = refl
    turn-blocks machine (Out t ∷ rest) serial ok = turn-blocks (run_block sys machine (Out t)) rest serial.1 (block-ok sys b machine (Out t) serial.0 ok)
    turn-blocks machine (Attempted t n Committed j ∷ rest) serial ok =
        let block : SerialBlock = Attempted t n Committed j in
        let single : Single = machine.terms t in (
          (run_block sys machine block).files,
          record {
            is_path = (ok.terms t).is_path serial.0.live.known;
            are_files = ok.are_files;
            restarts = single.restarts;
            few = (ok.terms t).few;
            answers = j;
            is_attempt = serial.0.is_attempt;
            commits = serial.0.may_be;
            path = refl;
            leaves = refl;
          },
          turn-blocks (run_block sys machine block) rest serial.1 (block-ok sys b machine block serial.0 ok),
        )
    turn-blocks machine (Attempted t n Aborted j ∷ rest) serial ok = turn-blocks (run_block sys machine (Attempted t n Aborted j)) rest serial.1 (block-ok sys b machine (Attempted t n Aborted j) serial.0 ok)
    turn-blocks machine (Attempted t n Restarted j ∷ rest) serial ok = turn-blocks (run_block sys machine (Attempted t n Restarted j)) rest serial.1 (block-ok sys b machine (Attempted t n Restarted j) serial.0 ok)
    turn-blocks machine (Attempted t n Left j ∷ rest) serial ok = turn-blocks (run_block sys machine (Attempted t n Left j)) rest serial.1 (block-ok sys b machine (Attempted t n Left j) serial.0 ok)
    turn-blocks machine (Done t ending ∷ rest) serial ok = turn-blocks (run_block sys machine (Done t ending)) rest serial.1 (block-ok sys b machine (Done t ending) serial.0 ok)

    -- ---- of logs

    module _ (log : List Event) (serial : IsSerializable sys log) where
      -- the blocks of the entries, and those of what is left at the end
      abbrev pub entered : List SerialBlock
      entered = (fold_after sys log).order

      abbrev ends : List SerialBlock
      ends = left_blocks (after sys log) (fold_after sys log).reading (λ t. true) sys.terminals

      abbrev pub machine_entered : Machine
      machine_entered = run_blocks sys (beginning sys) entered

      ends-quiet : IsQuiet ends
      ends-quiet = lefts-quiet (after sys log) (fold_after sys log).reading (λ t. true) sys.terminals

      parts : IsSerialFrom sys (beginning sys) entered × IsSerialFrom sys machine_entered ends
      parts = serial-split (beginning sys) entered ends (subst (IsSerialFrom sys (beginning sys)) (fold-blocks sys log) serial.legal)

      pub entered-serial : IsSerialFrom sys (beginning sys) entered
      entered-serial = parts.0

      pub entered-ok : MachineOk sys machine_entered
      entered-ok = blocks-ok (beginning sys) entered parts.0 (begins-ok sys b)

      -- the units of the log are those of its entries
      pub entered-units : committed_units sys log ≡ units_in sys (beginning sys) entered
      entered-units =
          ap (units_in sys (beginning sys)) (fold-blocks sys log)
          ∙ (units-append (beginning sys) entered ends
          ∙ (ap (λ (units : List CommittedUnit). units_in sys (beginning sys) entered ++ units) (quiet-units machine_entered ends ends-quiet)
          ∙ append-nil (units_in sys (beginning sys) entered)))

      reported : committed_files sys (after sys log) ≡ (one_copy sys (blocks sys log)).files
      reported = λ i f. serial.records f i

      -- the committed records are the machine's behind the entries
      pub entered-files : committed_files sys (after sys log) ≡ machine_entered.files
      entered-files =
          reported
          ∙ (ap (λ (order : List SerialBlock). (run_blocks sys (beginning sys) order).files) (fold-blocks sys log)
          ∙ (ap (λ (machine : Machine). machine.files) (run_blocks-append sys (beginning sys) entered ends) ∙ quiet-files machine_entered ends ends-quiet))

      -- from the deck's records
      pub run-in-turn : RunInTurn sys sys.records (committed_units sys log) (committed_files sys (after sys log))
      run-in-turn =
          subst₂ (RunInTurn sys sys.records) (sym entered-units) (sym entered-files)
          (turn-blocks (beginning sys) entered parts.0 (begins-ok sys b))

    -- the blocks of more entries
    pub entered-more : (log more : List Event) → (fold_after sys (log ++ more)).order ≡ (fold_after sys log).order ++ entry_blocks_from sys (after sys log) (fold_after sys log).reading more
    entered-more log more =
        ap (λ (f : Fold). f.order) (carried_from-append sys (fold_on sys) (starting sys) fold_starts log more)
        ∙ fold-order-from sys (after sys log) (fold_after sys log) more

    -- the units of more entries
    abbrev pub more_blocks : List Event → List Event → List SerialBlock
    more_blocks log more = entry_blocks_from sys (after sys log) (fold_after sys log).reading more

    pub added-more : (log more : List Event) (first : IsSerializable sys log) (serial : IsSerializable sys (log ++ more))
        → committed_units sys (log ++ more) ≡ committed_units sys log ++ units_in sys (machine_entered log first) (more_blocks log more)
    added-more log more first serial =
        entered-units (log ++ more) serial
        ∙ (ap (units_in sys (beginning sys)) (entered-more log more)
        ∙ (units-append (beginning sys) (entered log first) (more_blocks log more)
        ∙ ap (λ (units : List CommittedUnit). units ++ units_in sys (machine_entered log first) (more_blocks log more)) (sym (entered-units log first))))

    -- they are legal behind those of before
    pub legal-more : (log more : List Event) (first : IsSerializable sys log) → IsSerializable sys (log ++ more) → IsSerialFrom sys (machine_entered log first) (more_blocks log more)
    legal-more log more first serial =
        (serial-split (beginning sys) (entered log first) (more_blocks log more)
        (subst (IsSerialFrom sys (beginning sys)) (entered-more log more) (entered-serial (log ++ more) serial))).1

    -- between two moments
    pub between : (log more : List Event) → IsSerializable sys log → IsSerializable sys (log ++ more) → CommitsBetween sys log more
    between log more first serial =
        let machine : Machine = machine_entered log first in
        let rest : List SerialBlock = more_blocks log more in
        let files : (run_blocks sys machine rest).files ≡ committed_files sys (after sys (log ++ more)) =
        ap (λ (m : Machine). m.files) (sym (run_blocks-append sys (beginning sys) (entered log first) rest))
        ∙ (ap (λ (order : List SerialBlock). (run_blocks sys (beginning sys) order).files) (sym (entered-more log more)) ∙ sym (entered-files (log ++ more) serial)) in
        record {
          units = units_in sys machine rest;
          added = added-more log more first serial;
          in_turn =
              subst₂ (λ (records left : FileRecords). RunInTurn sys records (units_in sys machine rest) left) (sym (entered-files log first)) files
              (turn-blocks machine rest (legal-more log more first serial) (entered-ok log first));
        }
