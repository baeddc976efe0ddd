-- The commands of the generated deck, and its failure line, over all numbers of terminals.
use Rattle.std.proofs.Common.{◌≡◌, ℕ, zero, suc, ◌+◌, ◌<◌, ◌≤◌, Bool, true, false, ◌&&◌, List, [], ◌∷◌, ◌++◌, length, drop, Result, Ok, Err, refl, sym, ap, ◌∙◌, arith}
use Rattle.std.specs.Prelude.{codes, is_ok, nat_le}
use Rattle.std.specs.List.{list_all}
use Rattle.std.specs.Fmt.{digits}
use Rattle.std.specs.Str.{bytes_eq}
use Rattle.std.proofs.lemmas.Slice.Eq.{bytes_eq-Decides}
use Rattle.std.proofs.lemmas.Bool.{and_parts}
use Rattle.pw_base.specs.declared.fault.Fault.{Fault}
use Rattle.pw_code.specs.declared.lock.LockRule.TheVariants.{ReadersShare}
use Rattle.pw_gen.specs.Generated.{terminals_from, text_of}
use Rattle.pw_gen.specs.Parts.{commands}
use Rattle.pw_sections.specs.Lines.{lines}
use Rattle.pw_sections.specs.Steps.{each_line}
use Rattle.pw_sections.specs.Words.{words}
use Rattle.pw_pathcom.specs.Objects.{unknown, bad_starts}
use Rattle.pw_pathcom.specs.Reading.{starting, lines_read}
use Rattle.pw_pathcom.specs.declared.commands.ClassCommand.{ClassCommand}
use Rattle.pw_pathcom.specs.declared.commands.Commands.{Commands}
use Rattle.pw_pathcom.specs.declared.reading.CommandReading.{CommandReading}
use Rattle.pw_log_lines.specs.Fail.{failures_of}
use Rattle.pw_sections.specs.Records.{printable_line}
use Rattle.pw_deck_tables.specs.Tables.{class_names, tables}
use Rattle.pw_deck_tables.specs.Unknown.{has_terminal}
use Rattle.pw_words.specs.Words.{Word}
use Rattle.pw_gen.proofs.DeckTexts.{Section, is_section, lines_in}
use Rattle.pw_gen.proofs.Tests.{holds_to, holds, name_of, is_short}
use Rattle.pw_gen.proofs.Programs.{stock_file}
use Rattle.pw_event.specs.Keywords.{keyword as event_keyword}
use Rattle.pw_event.specs.Parsing.{named as event_named, number as event_number, positive_count_read as event_counted, cut as event_cut, refresh as event_refresh, among as event_among, terminal as event_terminal, pair as event_pair, class as event_class, file as event_file, process as event_process, op as event_op, mode as event_mode, member as event_member, fault_of as event_fault_of, cause_of as event_cause_of, cause_in as event_cause_in, ending_of as event_ending_of, show as event_show, terminal_and_number as event_terminal_and_number, check as event_check, applied as event_applied, begin as event_begin, send as event_send, take_line_event as event_taken, file_at as event_file_at, file_line as event_file_line, reply as event_reply, restart as event_restart, fail_tcp as event_fail_tcp, fail_server as event_fail_server, failure_of as event_failure_of, fail as event_fail, takeover as event_takeover, raise as event_raise, end as event_end, line_of as event_line_of, event_of as event_event_of, after_keyword_read as event_after, fail_process as event_fail_process, tcp_line as event_tcp_line, fail_class as event_fail_class, class_line as event_class_line, fail_line_of as event_fail_line_of, fail_of as event_fail_of}

-- the section of the commands of so many terminals
abbrev pub pathcom : ℕ → Section
pathcom n = record { head = codes "PATHCOM"; below = drop 1 commands ++ terminals_from n 1 }

-- the text of the failure line
abbrev pub fail_lines : List (List ℕ)
fail_lines = codes "TCP TCP-1 PRIMARY AFTER 200" ∷ []

-- the names of the programs of terminals, and of servers
abbrev pub programs : List Word
programs = codes "KEYS" ∷ []

abbrev pub servers : List Word
servers = codes "STORE-P" ∷ []

abbrev is_nil : {A : Type 0} → List A → Bool
is_nil [] = true
is_nil (x ∷ xs) = false

nil_is : {A : Type 0} (xs : List A) → is_nil xs ≡ true → xs ≡ []
nil_is [] is = refl
nil_is (x ∷ xs) is = absurd cc

-- STORE is the one class
abbrev has_store : List Word → Bool
has_store (name ∷ []) = bytes_eq name (codes "STORE")
has_store _ = false

store_is : (names : List Word) → has_store names ≡ true → names ≡ codes "STORE" ∷ []
store_is [] is = absurd cc
store_is (name ∷ []) is = ap (λ n. n ∷ []) ((bytes_eq-Decides name (codes "STORE")).0 is)
store_is (name ∷ other ∷ rest) is = absurd cc

-- what the commands add, by their faults and names
abbrev adds_well : ℕ → ℕ → Commands → Bool
adds_well n line added =
    is_nil (unknown added programs servers)
    && (is_nil (bad_starts added 2 (pathcom n).below)
    && (has_store (class_names added)
    && (holds_to (λ k. has_terminal (tables added programs servers (stock_file ∷ []) ReadersShare) (name_of k)) n
    && is_ok (failures_of (tables added programs servers (stock_file ∷ []) ReadersShare) (text_of fail_lines) line))))

abbrev reads_well : ℕ → ℕ → Result CommandReading Fault → Bool
reads_well n line (Ok reading) = adds_well n line reading.commands
reads_well n line (Err fault) = false

abbrev test : ℕ → ℕ → Bool
test line n =
    reads_well n line (lines_read 2 starting (pathcom n).below)
    && (is_ok (each_line printable_line 2 (tt {0}) (pathcom n).below)
    && (is_section (pathcom n)
    && (list_all is_short (lines_in (pathcom n)) && nat_le (length (lines_in (pathcom n))) 300)))

all_well : (line : ℕ) → holds_to (test line) 64 ≡ true
unfolding digits lines words each_line terminals_from lines_read bad_starts event_keyword event_named event_number event_counted event_cut event_refresh event_among event_terminal event_pair event_class event_file event_process event_op event_mode event_member event_fault_of event_cause_of event_cause_in event_ending_of event_show event_terminal_and_number event_check event_applied event_begin event_send event_taken event_file_at event_file_line event_reply event_restart event_fail_tcp event_fail_server event_failure_of event_fail event_takeover event_raise event_end event_line_of event_event_of event_after event_fail_process event_tcp_line event_fail_class event_class_line event_fail_line_of event_fail_of
all_well line = refl

-- what is known of the commands of n terminals
pub record Added (n line : ℕ) : Type 0 where
  pub reading : CommandReading
  pub read : lines_read 2 starting (pathcom n).below ≡ Ok reading
  pub known : unknown reading.commands programs servers ≡ []
  pub startable : bad_starts reading.commands 2 (pathcom n).below ≡ []
  pub store : class_names reading.commands ≡ codes "STORE" ∷ []
  pub terminals : holds_to (λ k. has_terminal (tables reading.commands programs servers (stock_file ∷ []) ReadersShare) (name_of k)) n ≡ true
  pub fails : is_ok (failures_of (tables reading.commands programs servers (stock_file ∷ []) ReadersShare) (text_of fail_lines) line) ≡ true
  pub printed : is_ok (each_line printable_line 2 (tt {0}) (pathcom n).below) ≡ true
  pub section : is_section (pathcom n) ≡ true
  pub short : list_all is_short (lines_in (pathcom n)) ≡ true
  pub few : nat_le (length (lines_in (pathcom n))) 300 ≡ true

added_by : (n line : ℕ) (read : Result CommandReading Fault) → lines_read 2 starting (pathcom n).below ≡ read → reads_well n line read ≡ true
    → (is_ok (each_line printable_line 2 (tt {0}) (pathcom n).below)
    && (is_section (pathcom n)
    && (list_all is_short (lines_in (pathcom n)) && nat_le (length (lines_in (pathcom n))) 300))) ≡ true
    → Added n line
added_by n line (Err fault) is well rest = absurd cc
added_by n line (Ok reading) is well rest =
    let a = and_parts (is_nil (unknown reading.commands programs servers)) _ well in
    let b = and_parts (is_nil (bad_starts reading.commands 2 (pathcom n).below)) _ a.1 in
    let c = and_parts (has_store (class_names reading.commands)) _ b.1 in
    let d = and_parts (holds_to (λ k. has_terminal (tables reading.commands programs servers (stock_file ∷ []) ReadersShare) (name_of k)) n) _ c.1 in
    let e = and_parts (is_ok (each_line printable_line 2 (tt {0}) (pathcom n).below)) _ rest in
    let f = and_parts (is_section (pathcom n)) _ e.1 in
    let g = and_parts (list_all is_short (lines_in (pathcom n))) _ f.1 in
    record {
      reading = reading;
      read = is;
      known = nil_is _ a.0;
      startable = nil_is _ b.0;
      store = store_is _ c.0;
      terminals = d.0;
      fails = d.1;
      printed = e.0;
      section = f.0;
      short = g.0;
      few = g.1;
    }

pub added : (m line : ℕ) → m < 64 → Added (suc m) line
added m line few =
    let all = holds (test line) 64 m (all_well line) few in
    let a = and_parts (reads_well (suc m) line (lines_read 2 starting (pathcom (suc m)).below)) _ all in
    added_by (suc m) line (lines_read 2 starting (pathcom (suc m)).below) refl a.0 a.1
