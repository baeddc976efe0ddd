-- MAP-P, run by itself, leaves the seats.
use Rattle.std.proofs.Common.{ℕ, zero, suc, ◌+◌, true, false, List, [], drop, Option, Some, None}
use Rattle.std.specs.Prelude.{codes}
use Rattle.pw_files.specs.Records.{record_after}
use Rattle.pw_invariants.specs.Units.{FileRecords}
use Rattle.pw_onecopy.specs.Operation.{read_answer}
use Rattle.pw_program_laws.proofs.Ends.{EndsWell, counted-well}
use Rattle.pw_seat_laws.proofs.Trees.{is_done, is_found, map_found, map_full, map_main, map_missing, map_none, map_program, map_row, own}
use Rattle.pw_seat_laws.proofs.Turns.{counted, finds, if-step, nth, own-records, plain-row, plain-step, step, until-step}
use Rattle.pw_seat_laws.specs.Seats.{KeepsSeats}
use Rattle.pw_seat_laws.specs.Servers.{SeatChoices, seat_deck}
use Rattle.pw_tree_meaning.specs.Files.{file_done, read_next, receive, reply}
use Rattle.pw_tree_meaning.specs.Runs.{performed}
use Rattle.pw_tree_meaning.specs.Setting.{Setting}
use Rattle.pw_tree_meaning.specs.State.{ProgramState, Out, Goes, faults}
use Rattle.pw_tree_meaning.specs.Statements.{body, branch_row}
use Rattle.pw_tree_meaning.specs.Store.{Spot, chars_at}
use Rattle.pw_words.specs.Words.{Word}

module _ (choices : SeatChoices) (message : List ℕ) (before : List (List ℕ)) where
  abbrev pub map_setting : Setting
  map_setting = record { deck = seat_deck choices; program = map_program; first = 0; is_server = true; message = message; alone = true }

  abbrev call : ℕ → List (List ℕ) → ProgramState → Out
  call q arguments t = faults 202 t

  abbrev replies : List ℕ → FileRecords → Type 0
  replies reply left = KeepsSeats before (left 0)

  abbrev KeepsAt : ProgramState → Type 0
  KeepsAt s = KeepsSeats before (s.files 0)

  abbrev row_spot : Spot
  row_spot = record { at = 4; size = 42; picture = None }

  abbrev key_spot : Spot
  key_spot = record { at = 4; size = 6; picture = None }

  reads-row : (d : ℕ) (s : ProgramState) → KeepsAt s → EndsWell replies KeepsAt (body map_setting (performed d map_setting call) call map_row s)
  reads-row d s now =
      let perform : Word → ProgramState → Out = performed d map_setting call in
      step replies map_setting perform call KeepsAt KeepsAt (nth 0 map_row) (drop 1 map_row) s
      (counted-well replies KeepsAt (read_next map_setting (codes "SEATS") false (own (codes "R-KEY")) (own (codes "SEAT-ROW"))) s
      (let o : Option (List ℕ) = record_after 6 (s.files 0) (chars_at key_spot s.store) in
      own-records s.files 0
      (λ files. EndsWell replies KeepsAt (file_done (Some row_spot) (read_answer 1 o).status (read_answer 1 o).content (record s { count = s.count + 1; files = files })))
      (finds replies KeepsAt o row_spot (counted s) (λ none. now) (λ content is. now))))
      (λ t now.
      step replies map_setting perform call KeepsAt KeepsAt (nth 1 map_row) [] t
      (if-step replies map_setting perform call KeepsAt (is_found (own (codes "FLIGHT"))) (branch_row map_setting perform call map_found) Goes t
      (λ e. plain-row replies map_setting perform call KeepsAt (λ s now. now) (λ spot chars s now. now) map_found (tt, (tt, (tt, tt))) (counted t) now)
      (λ e. now))
      (λ t now. now))

  row-read : (d : ℕ) (s : ProgramState) → KeepsAt s → EndsWell replies KeepsAt (performed d map_setting call (codes "NEXT-ROW") s)
  row-read zero s now = tt
  row-read (suc d) s now = reads-row d s now

  abbrev most : Word → ProgramState → Out
  most = performed 64 map_setting call

  pub map-keeps : (s : ProgramState) → KeepsAt s → EndsWell replies (λ t. ⊥) (body map_setting most call map_main s)
  map-keeps s now =
      step replies map_setting most call (λ t. ⊥) KeepsAt (nth 0 map_main) (drop 1 map_main) s
      (counted-well replies KeepsAt (receive map_setting (own (codes "FLIGHT"))) s now)
      (λ t now.
      step replies map_setting most call (λ t. ⊥) KeepsAt (nth 1 map_main) (drop 2 map_main) t
      (plain-step replies map_setting most call KeepsAt (λ s now. now) (λ spot chars s now. now) (nth 1 map_main) tt t now)
      (λ t now.
      step replies map_setting most call (λ t. ⊥) KeepsAt (nth 2 map_main) (drop 3 map_main) t
      (until-step replies map_setting most call KeepsAt (codes "NEXT-ROW") (is_done (own (codes "FLIGHT")) map_full) t (λ u known. row-read 64 (counted u) known) now)
      (λ t now.
      step replies map_setting most call (λ t. ⊥) KeepsAt (nth 3 map_main) (drop 4 map_main) t
      (if-step replies map_setting most call KeepsAt map_none (branch_row map_setting most call map_missing) Goes t
      (λ e. plain-row replies map_setting most call KeepsAt (λ s now. now) (λ spot chars s now. now) map_missing (tt, tt) (counted t) now)
      (λ e. now))
      (λ t now.
      step replies map_setting most call (λ t. ⊥) (λ t. ⊥) (nth 4 map_main) [] t
      (counted-well replies (λ t. ⊥) (reply map_setting (own (codes "MAP-REPLY"))) t now)
      (λ t never. absurd never)))))
