-- The tables of a generated deck, computed over all numbers of terminals.
use Rattle.std.proofs.Common.{◌≡◌, ℕ, zero, suc, ◌+◌, ◌<◌, ◌==◌, Bool, true, false, ◌&&◌, List, [], ◌∷◌, length, Some, Result, Ok, Err, refl, sym, ap, subst, ◌∙◌, arith}
use Rattle.std.specs.Prelude.{codes, slice_get}
use Rattle.std.specs.Fmt.{digits}
use Rattle.std.specs.Str.{bytes_eq}
use Rattle.std.proofs.lemmas.Bool.{and_parts, eqb-true}
use Rattle.std.proofs.lemmas.Option.{same_Some}
use Rattle.std.proofs.lemmas.Slice.Eq.{bytes_eq-Decides}
use Rattle.pw_base.specs.declared.fault.Fault.{Fault}
use Rattle.pw_code.specs.declared.lock.LockRule.TheVariants.{ReadersShare}
use Rattle.pw_code.specs.declared.system.ClassInfo.{ClassInfo}
use Rattle.pw_code.specs.declared.system.System.{System}
use Rattle.pw_code.specs.declared.system.TermInfo.{TermInfo}
use Rattle.pw_event.specs.declared.script.FailLine.{FailLine}
use Rattle.pw_event.specs.declared.script.FailLine.TheVariants as fail_line
use Rattle.pw_gen.specs.Generated.{terminals_from, text_of}
use Rattle.pw_gen.proofs.Commands.{fail_lines, pathcom, programs, servers}
use Rattle.pw_gen.proofs.Programs.{stock_file}
use Rattle.pw_gen.proofs.Tests.{holds, holds_to, name_of}
use Rattle.pw_generated_runs.specs.Finished.{one_failure}
use Rattle.pw_pathcom.specs.Objects.{bad_starts}
use Rattle.pw_pathcom.specs.Reading.{lines_read, starting}
use Rattle.pw_pathcom.specs.declared.commands.Commands.{Commands}
use Rattle.pw_pathcom.specs.declared.reading.CommandReading.{CommandReading}
use Rattle.pw_log_lines.specs.Fail.{failures_of}
use Rattle.pw_sections.specs.Lines.{lines}
use Rattle.pw_sections.specs.Steps.{each_line}
use Rattle.pw_sections.specs.Words.{words}
use Rattle.pw_deck_tables.specs.Tables.{tables}
use Rattle.pw_event.specs.Keywords.{keyword as event_keyword}
use Rattle.pw_event.specs.Parsing.{named as event_named, number as event_number, positive_count_read as event_counted, cut as event_cut, refresh as event_refresh, among as event_among, terminal as event_terminal, pair as event_pair, class as event_class, file as event_file, process as event_process, op as event_op, mode as event_mode, member as event_member, fault_of as event_fault_of, cause_of as event_cause_of, cause_in as event_cause_in, ending_of as event_ending_of, show as event_show, terminal_and_number as event_terminal_and_number, check as event_check, applied as event_applied, begin as event_begin, send as event_send, take_line_event as event_taken, file_at as event_file_at, file_line as event_file_line, reply as event_reply, restart as event_restart, fail_tcp as event_fail_tcp, fail_server as event_fail_server, failure_of as event_failure_of, fail as event_fail, takeover as event_takeover, raise as event_raise, end as event_end, line_of as event_line_of, event_of as event_event_of, after_keyword_read as event_after, fail_process as event_fail_process, tcp_line as event_tcp_line, fail_class as event_fail_class, class_line as event_class_line, fail_line_of as event_fail_line_of, fail_of as event_fail_of}

-- ---- tests

-- the one class is STORE, of the one server
abbrev is_store : List ClassInfo → Bool
is_store (class ∷ []) = bytes_eq class.name (codes "STORE") && class.server == 0
is_store _ = false

-- terminals are named from T and a number on, run the one program and may restart 64 times
abbrev are_terminals : ℕ → List TermInfo → Bool
are_terminals k [] = true
are_terminals k (terminal ∷ rest) =
    bytes_eq terminal.name (name_of k) && (terminal.program == 0 && (terminal.max_restarts == 64 && are_terminals (k + 1) rest))

abbrev is_script : Result (List FailLine) Fault → Bool
is_script (Ok (fail_line.Tcp p primary after ∷ [])) = p == 0 && (primary && after == 200)
is_script _ = false

abbrev pub system_of : Commands → System
system_of commands = tables commands programs servers (stock_file ∷ []) ReadersShare

abbrev tabled_by : ℕ → ℕ → Commands → Bool
tabled_by line n commands =
    is_store (system_of commands).classes
    && (length (system_of commands).terminals == n
    && (are_terminals 1 (system_of commands).terminals && is_script (failures_of (system_of commands) (text_of fail_lines) line)))

abbrev read_by : ℕ → ℕ → Result CommandReading Fault → Bool
read_by line n (Ok reading) = tabled_by line n reading.commands
read_by line n (Err fault) = false

abbrev test : ℕ → ℕ → Bool
test line n = read_by line n (lines_read 2 starting (pathcom n).below)

all_tabled : (line : ℕ) → holds_to (test line) 64 ≡ true
unfolding digits lines words each_line terminals_from lines_read bad_starts event_keyword event_named event_number event_counted event_cut event_refresh event_among event_terminal event_pair event_class event_file event_process event_op event_mode event_member event_fault_of event_cause_of event_cause_in event_ending_of event_show event_terminal_and_number event_check event_applied event_begin event_send event_taken event_file_at event_file_line event_reply event_restart event_fail_tcp event_fail_server event_failure_of event_fail event_takeover event_raise event_end event_line_of event_event_of event_after event_fail_process event_tcp_line event_fail_class event_class_line event_fail_line_of event_fail_of
all_tabled line = refl

-- ---- what they tell

-- what is known of a terminal
pub record TabledTerminal (k : ℕ) (terminal : TermInfo) : Type 0 where
  pub name : terminal.name ≡ name_of k
  pub program : terminal.program ≡ 0
  pub restarts : terminal.max_restarts ≡ 64

terminals-are : (k : ℕ) (all : List TermInfo) → are_terminals k all ≡ true → (j i : ℕ) (terminal : TermInfo) → slice_get all j ≡ Some terminal → i ≡ k + j → TabledTerminal i terminal
terminals-are k [] good j i terminal has at = absurd cc
terminals-are k (first ∷ rest) good zero i terminal has at =
    let a = and_parts (bytes_eq first.name (name_of k)) _ good in
    let b = and_parts (first.program == 0) _ a.1 in
    let c = and_parts (first.max_restarts == 64) _ b.1 in
    let same : i ≡ k = omega (arith, at) in
    subst (TabledTerminal i) (same_Some first terminal has)
    (record {
      name = (bytes_eq-Decides first.name (name_of k)).0 a.0 ∙ ap name_of (sym same);
      program = eqb-true first.program 0 b.0;
      restarts = eqb-true first.max_restarts 64 c.0;
    })
terminals-are k (first ∷ rest) good (suc j) i terminal has at =
    let a = and_parts (bytes_eq first.name (name_of k)) _ good in
    let b = and_parts (first.program == 0) _ a.1 in
    let c = and_parts (first.max_restarts == 64) _ b.1 in
    terminals-are (k + 1) rest c.1 j i terminal has (omega (arith, at))

-- the tables of n terminals, and their script where the failure line stands on a line
pub record Tabled (n line : ℕ) (system : System) : Type 0 where
  pub processes : ℕ
  pub classes : system.classes ≡ (record { name = codes "STORE"; server = 0; processes = processes }) ∷ []
  pub count : length system.terminals ≡ n
  pub terminals : (j : ℕ) (terminal : TermInfo) → slice_get system.terminals j ≡ Some terminal → TabledTerminal (1 + j) terminal
  pub script : failures_of system (text_of fail_lines) line ≡ Ok one_failure

store-is : (classes : List ClassInfo) → is_store classes ≡ true → (processes : ℕ) × (classes ≡ (record { name = codes "STORE"; server = 0; processes = processes }) ∷ [])
store-is [] good = absurd cc
store-is (class ∷ []) good =
    let a = and_parts (bytes_eq class.name (codes "STORE")) _ good in
    let name = (bytes_eq-Decides class.name (codes "STORE")).0 a.0 in
    let server = eqb-true class.server 0 a.1 in (
      class.processes,
      ap (λ (w : List ℕ). (record { name = w; server = class.server; processes = class.processes }) ∷ []) name
          ∙ ap (λ (s : ℕ). (record { name = codes "STORE"; server = s; processes = class.processes }) ∷ []) server,
    )
store-is (class ∷ other ∷ rest) good = absurd cc

script-is : (read : Result (List FailLine) Fault) → is_script read ≡ true → read ≡ Ok one_failure
script-is (Ok (fail_line.Tcp p primary after ∷ [])) good =
    let a = and_parts (p == 0) _ good in
    let b = and_parts primary (after == 200) a.1 in
    ap (λ (q : ℕ). Ok (fail_line.Tcp q primary after ∷ [])) (eqb-true p 0 a.0)
    ∙ (ap (λ (x : Bool). Ok (fail_line.Tcp 0 x after ∷ [])) b.0
    ∙ ap (λ (q : ℕ). Ok (fail_line.Tcp 0 true q ∷ [])) (eqb-true after 200 b.1))
script-is (Ok (fail_line.Tcp p primary after ∷ other ∷ rest)) good = absurd cc
script-is (Ok (fail_line.Server c i after ∷ rest)) good = absurd cc
script-is (Ok []) good = absurd cc
script-is (Err fault) good = absurd cc

tabled-read : (n line : ℕ) (reading : CommandReading) (read : Result CommandReading Fault) → read ≡ Ok reading → read_by line n read ≡ true → Tabled n line (system_of reading.commands)
tabled-read n line reading read is good =
    let well : tabled_by line n reading.commands ≡ true = sym (ap (read_by line n) is) ∙ good in
    let system : System = system_of reading.commands in
    let a = and_parts (is_store system.classes) _ well in
    let b = and_parts (length system.terminals == n) _ a.1 in
    let c = and_parts (are_terminals 1 system.terminals) _ b.1 in
    let store = store-is system.classes a.0 in
    record {
      processes = store.0;
      classes = store.1;
      count = eqb-true (length system.terminals) n b.0;
      terminals = λ j terminal has. terminals-are 1 system.terminals c.0 j (1 + j) terminal has refl;
      script = script-is _ c.1;
    }

-- of the commands of so many terminals
pub tabled : (m line : ℕ) → m < 64 → (reading : CommandReading) → lines_read 2 starting (pathcom (suc m)).below ≡ Ok reading → Tabled (suc m) line (system_of reading.commands)
tabled m line few reading is = tabled-read (suc m) line reading _ is (holds (test line) 64 m (all_tabled line) few)
