-- What is computed beside a log for the one-copy machine: the reading, the frontiers, the blocks and the refreshes so far.
use Rattle.std.proofs.Common.{◌≡◌, ℕ, List, [], ◌∷◌, ◌++◌, true, refl, ap, sym, append-nil, append_assoc, ◌∙◌}
use Rattle.pw_event.specs.declared.event.Event.{Event}
use Rattle.pw_onecopy.specs.declared.refresh.Refresh.{Refresh}
use Rattle.pw_onecopy.specs.OneCopy.{IsSerialFrom, Machine, run_block, run_blocks}
use Rattle.pw_onecopy.specs.Path.{PathAnswer}
use Rattle.pw_paired.specs.Shown.{refresh_of, refreshes, refreshes_from}
use Rattle.pw_onecopy.specs.Blocks.{SerialBlock}
use Rattle.pw_paired.specs.Serial.{Reading, blocks, blocks_of, entry_blocks_from, last_blocks_from, left_blocks, read_on, reading_starts}
use Rattle.pw_paired.specs.State.{State, starting}
use Rattle.pw_paired.specs.Step.{after, after_from, effect}
use Rattle.pw_onecopy.specs.Behaviour.{Behaviour}
use Rattle.pw_laws.proofs.frontier.Frontier.{frontier_behind}
use Rattle.pw_laws.proofs.frontier.Frontiers.{frontier_after}
use Rattle.pw_laws.proofs.induction.Moving.{carried_view}
use Rattle.pw_laws.proofs.induction.Runs.{carried, carried_from}
use Rattle.pw_laws.proofs.induction.Views.{view_of}
use Rattle.pw_laws.specs.attempts.Answers.{answers_after, answers_from}

-- the reading, the frontier of each terminal, the blocks and the refreshes so far
pub record Fold : Type 0 where
  pub reading : Reading
  pub frontier : ℕ → List PathAnswer
  pub order : List SerialBlock
  pub shown : List Refresh

-- before the first entry
abbrev pub fold_starts : Fold
fold_starts = record { reading = reading_starts; frontier = λ t. []; order = []; shown = [] }

-- behind an entry
abbrev pub fold_on : Behaviour → State → Event → Fold → Fold
fold_on sys s entry f = record {
  reading = read_on sys s entry f.reading;
  frontier = λ t. frontier_behind (view_of sys s t) (view_of sys (effect sys s entry) t) (f.frontier t);
  order = f.order ++ blocks_of sys s f.reading entry;
  shown = f.shown ++ refresh_of sys s entry;
}

-- behind a log
abbrev pub fold_after : Behaviour → List Event → Fold
fold_after sys log = carried sys (fold_on sys) fold_starts log

module _ (sys : Behaviour) where
  fold-frontier-from : (s : State) (f : Fold) (t : ℕ) (log : List Event)
      → (carried_from sys (fold_on sys) s f log).frontier t ≡ carried_from sys (carried_view sys t frontier_behind) s (f.frontier t) log
  fold-frontier-from s f t [] = refl
  fold-frontier-from s f t (entry ∷ log) = fold-frontier-from (effect sys s entry) (fold_on sys s entry f) t log

  -- its frontiers are those of the log
  pub fold-frontier : (t : ℕ) (log : List Event) → (fold_after sys log).frontier t ≡ frontier_after sys t log
  fold-frontier t log = fold-frontier-from (starting sys) fold_starts t log

  fold-answers-from : (s : State) (f : Fold) (log : List Event) → (carried_from sys (fold_on sys) s f log).reading.answers ≡ answers_from sys s f.reading.answers log
  fold-answers-from s f [] = refl
  fold-answers-from s f (entry ∷ log) = fold-answers-from (effect sys s entry) (fold_on sys s entry f) log

  -- its answers are those of the log
  pub fold-answers : (log : List Event) → (fold_after sys log).reading.answers ≡ answers_after sys log
  fold-answers log = fold-answers-from (starting sys) fold_starts log

  -- its blocks behind more entries
  pub fold-order-from : (s : State) (f : Fold) (log : List Event) → (carried_from sys (fold_on sys) s f log).order ≡ f.order ++ entry_blocks_from sys s f.reading log
  fold-order-from s f [] = sym (append-nil f.order)
  fold-order-from s f (entry ∷ log) =
      fold-order-from (effect sys s entry) (fold_on sys s entry f) log
      ∙ append_assoc f.order (blocks_of sys s f.reading entry) (entry_blocks_from sys (effect sys s entry) (read_on sys s entry f.reading) log)

  fold-last-from : (s : State) (f : Fold) (log : List Event)
      → last_blocks_from sys s f.reading log ≡ left_blocks (after_from sys s log) (carried_from sys (fold_on sys) s f log).reading (λ t. true) sys.terminals
  fold-last-from s f [] = refl
  fold-last-from s f (entry ∷ log) = fold-last-from (effect sys s entry) (fold_on sys s entry f) log

  -- the serial order is the blocks so far, and what is left at the end
  pub fold-blocks : (log : List Event)
      → blocks sys log ≡ (fold_after sys log).order ++ left_blocks (after sys log) (fold_after sys log).reading (λ t. true) sys.terminals
  fold-blocks log =
      ap (λ (l : List SerialBlock). l ++ last_blocks_from sys (starting sys) reading_starts log) (sym (fold-order-from (starting sys) fold_starts log))
      ∙ ap (λ (l : List SerialBlock). (fold_after sys log).order ++ l) (fold-last-from (starting sys) fold_starts log)

  fold-shown-from : (s : State) (f : Fold) (log : List Event) → (carried_from sys (fold_on sys) s f log).shown ≡ f.shown ++ refreshes_from sys s log
  fold-shown-from s f [] = sym (append-nil f.shown)
  fold-shown-from s f (entry ∷ log) =
      fold-shown-from (effect sys s entry) (fold_on sys s entry f) log
      ∙ append_assoc f.shown (refresh_of sys s entry) (refreshes_from sys (effect sys s entry) log)

  -- its refreshes are those of the log
  pub fold-shown : (log : List Event) → (fold_after sys log).shown ≡ refreshes sys log
  fold-shown log = fold-shown-from (starting sys) fold_starts log

  -- the machine behind more blocks
  pub run_blocks-append : (machine : Machine) (order more : List SerialBlock) → run_blocks sys machine (order ++ more) ≡ run_blocks sys (run_blocks sys machine order) more
  run_blocks-append machine [] more = refl
  run_blocks-append machine (block ∷ order) more = run_blocks-append (run_block sys machine block) order more

  -- an order in two parts is legal where each part is
  pub serial-append : (machine : Machine) (order more : List SerialBlock) → IsSerialFrom sys machine order → IsSerialFrom sys (run_blocks sys machine order) more
      → IsSerialFrom sys machine (order ++ more)
  serial-append machine [] more serial rest = rest
  serial-append machine (block ∷ order) more serial rest = (serial.0, serial-append (run_block sys machine block) order more serial.1 rest)
