-- Each server of the seat reservation keeps the seats.
use Rattle.std.proofs.Common.{◌≡◌, ℕ, zero, suc, true, List, [], drop, sym, subst, arith}
use Rattle.pw_code.specs.declared.lock.LockRule.{LockRule}
use Rattle.pw_code.specs.declared.verb.Verb.{Verb}
use Rattle.pw_code.specs.declared.verb.Verb.TheVariants as verb
use Rattle.pw_files.specs.Records.{IsFile}
use Rattle.pw_invariants.specs.Servers.{ServersKeep}
use Rattle.pw_invariants.specs.Units.{FileRecords}
use Rattle.pw_onecopy.specs.Behaviour.{Reply}
use Rattle.pw_program_laws.proofs.Ends.{AsksWell, EndsWell, then-well}
use Rattle.pw_seat_laws.proofs.Map.{map-keeps}
use Rattle.pw_seat_laws.proofs.Read.{map-is, sale-is}
use Rattle.pw_seat_laws.proofs.Sale.{main-keeps, starts-kept}
use Rattle.pw_seat_laws.proofs.Trees.{map_main, map_program, sale_main, sale_program}
use Rattle.pw_seat_laws.specs.Seats.{KeepsSeats}
use Rattle.pw_seat_laws.specs.Servers.{SeatChoices, seat_deck}
use Rattle.pw_tree_meaning.specs.OfDeck.{behaviour}
use Rattle.pw_tree_meaning.specs.Program.{Program}
use Rattle.pw_tree_meaning.specs.Runs.{flow, performed, program_ended, program_run, served_by, start}
use Rattle.pw_tree_meaning.specs.Setting.{Setting}
use Rattle.pw_tree_meaning.specs.Statements.{body}
use Rattle.pw_tree_meaning.specs.State.{ProgramState, Out, Goes, Leaves, Asks, faults}

module _ (choices : SeatChoices) (message : List ℕ) (before : List (List ℕ)) where
  abbrev replies : List ℕ → FileRecords → Type 0
  replies reply left = KeepsSeats before (left 0)

  abbrev setting_of : Program → Setting
  setting_of program = record { deck = seat_deck choices; program = program; first = 0; is_server = true; message = message; alone = true }

  abbrev none_called : ℕ → List (List ℕ) → ProgramState → Out
  none_called q arguments t = faults 202 t

  verb-keeps : (v : Verb) (s : ProgramState) (reply : List ℕ) (left : FileRecords) → AsksWell replies v s → served_by (Asks v s) ≡ Reply reply left → replies reply left
  verb-keeps (verb.Reply own) s reply left now is =
      let files : s.files ≡ left = cc in subst (λ (records : FileRecords). KeepsSeats before (records 0)) files now
  verb-keeps (verb.Fault code) s reply left now is = absurd cc
  verb-keeps _ s reply left now is = absurd cc

  out-keeps : (program : Program) (out : Out) (reply : List ℕ) (left : FileRecords) → EndsWell replies (λ t. Unit {0}) out
      → served_by (program_ended (setting_of program) out) ≡ Reply reply left → replies reply left
  out-keeps program (Goes s) reply left now is = absurd cc
  out-keeps program (Leaves s) reply left now is = absurd cc
  out-keeps program (Asks v s) reply left now is = verb-keeps v s reply left now is

  -- a run of a program by itself keeps the seats
  abbrev RunKeeps : FileRecords → Program → Type 0
  RunKeeps files program =
      (reply : List ℕ) (left : FileRecords)
      → served_by (program_ended (setting_of program) (program_run (setting_of program) none_called (record (start program []) { files = files }))) ≡ Reply reply left
      → replies reply left

  sale-keeps : (files : FileRecords) → IsFile 6 (files 0) → KeepsSeats before (files 0) → RunKeeps files sale_program
  sale-keeps files file keeps reply left is =
      out-keeps sale_program (program_run (setting_of sale_program) none_called (record (start sale_program []) { files = files })) reply left
      (then-well replies (λ t. ⊥) (λ t. Unit {0})
      (body (setting_of sale_program) (performed 64 (setting_of sale_program) none_called) none_called sale_main (record (start sale_program []) { files = files }))
      (flow (setting_of sale_program) (performed 64 (setting_of sale_program) none_called) none_called (drop 1 sale_program.paragraphs))
      (main-keeps choices message before (record (start sale_program []) { files = files }) (starts-kept before (files 0) file keeps)) (λ t never. absurd never)) is

  map-keeps-all : (files : FileRecords) → KeepsSeats before (files 0) → RunKeeps files map_program
  map-keeps-all files keeps reply left is =
      out-keeps map_program (program_run (setting_of map_program) none_called (record (start map_program []) { files = files })) reply left
      (then-well replies (λ t. ⊥) (λ t. Unit {0})
      (body (setting_of map_program) (performed 64 (setting_of map_program) none_called) none_called map_main (record (start map_program []) { files = files }))
      (flow (setting_of map_program) (performed 64 (setting_of map_program) none_called) none_called (drop 1 map_program.paragraphs))
      (map-keeps choices message before (record (start map_program []) { files = files }) keeps) (λ t never. absurd never)) is

pub servers-keep-seats : (rule : LockRule) (choices : SeatChoices) (before : List (List ℕ)) → ServersKeep (behaviour rule (seat_deck choices)) (λ records. KeepsSeats before (records 0))
servers-keep-seats rule choices before zero message reply records left known are is now =
    subst (RunKeeps choices message before records) (sym map-is) (map-keeps-all choices message before records now) reply left is
servers-keep-seats rule choices before (suc zero) message reply records left known are is now =
    subst (RunKeeps choices message before records) (sym sale-is) (sale-keeps choices message before records (are 0) now) reply left is
servers-keep-seats rule choices before (suc (suc c)) message reply records left known are is now = absurd (omega (arith, known))
