-- What commands, records and entries that are read keep of their limits.
use Rattle.std.proofs.Common.{◌≡◌, ℕ, ◌+◌, ◌≤◌, Bool, true, false, cond, ◌||◌, List, [], ◌∷◌, ◌++◌, map, take, length, Option, None, Some, Result, Ok, IfOk, refl, sym, subst, arith, length-append}
use Rattle.std.specs.Prelude.{◌&&◌, nat_le, nat_lt, IfSome}
use Rattle.std.specs.List.{position, AllByRecursion, IsDistinct}
use Rattle.std.specs.Str.{bytes_eq}
use Rattle.std.proofs.lemmas.Bool.{and_parts, leb-true, leb-false, ltb-false, or_parts}
use Rattle.std.specs.Option.{option_map}
use Rattle.std.proofs.lemmas.List.{map-append}
use Rattle.std.proofs.lemmas.Slice.Eq.{bytes_eq-Decides}
use Rattle.std.proofs.lemmas.List.Quantifiers.{position-Some}
use Rattle.pw_base.specs.Lengths.{IsContent}
use Rattle.pw_base.specs.Limits.{most_content}
use Rattle.pw_base.specs.declared.fault.Fault.{Fault}
use Rattle.pw_base.specs.declared.fault_code.FaultCode.TheVariants.{BadCommand, OutOfRange, BadRecord, BadEntry, TooMany}
use Rattle.pw_base.proofs.Plain.{all-last}
use Rattle.pw_code.specs.Entry.{EntryLineModel}
use Rattle.pw_code.specs.Limits.{most_tcps, most_classes, most_terminals, most_restarts, most_processes, most_entry_lines, last_key}
use Rattle.pw_code.specs.Valid.{HasFunctionKey}
use Rattle.pw_sections.specs.Lines.{lines}
use Rattle.pw_sections.specs.Steps.{◌>>=◌, refused, or_refused, is_blank, line_taken, each_line}
use Rattle.pw_sections.specs.Words.{words, word_number}
use Rattle.pw_pathcom.specs.Reading.{starting, named, checked, ranged, admitted, has_tcp, has_class, has_terminal, added, first_start, start_class, start_terminal, started, command_taken, taken_if, is_comment, is_none, line_read, lines_read, commands_of}
use Rattle.pw_pathcom.specs.Verbs.{command_of}
use Rattle.pw_pathcom.specs.declared.commands.ClassCommand.{ClassCommand}
use Rattle.pw_pathcom.specs.declared.commands.Commands.{Commands}
use Rattle.pw_pathcom.specs.declared.commands.TermCommand.{TermCommand}
use Rattle.pw_pathcom.specs.declared.reading.CommandReading.{CommandReading}
use Rattle.pw_pathcom.specs.declared.verb.Object.{Object}
use Rattle.pw_pathcom.specs.declared.verb.Object.TheVariants as object
use Rattle.pw_pathcom.specs.declared.verb.CommandVerb.{CommandVerb}
use Rattle.pw_pathcom.specs.declared.verb.CommandVerb.TheVariants as verb
use Rattle.pw_sections.specs.Entries.{keys, key_of, pairs_of, NameValue, entry_with, entry_by, entry_of, parts, entry_read, entries_of}
use Rattle.pw_sections.specs.Keys.{is_seen}
use Rattle.pw_sections.specs.Records.{is_bad_record, record_read, records_of_text}
use Rattle.pw_words.specs.Words.{Word}
use Rattle.pw_deck_tables.proofs.Commands.{and_then, Any, any_of}

-- a unit of a terminal restarts not too often, and a class has a process and not too many
abbrev pub FewRestarts : TermCommand → Type 0
FewRestarts terminal = terminal.max_restarts ≤ most_restarts

abbrev pub FewProcesses : ClassCommand → Type 0
FewProcesses class = (1 ≤ class.processes) × (class.processes ≤ most_processes)

pub record InRange (commands : Commands) : Type 0 where
  pub terminals : AllByRecursion FewRestarts commands.terminals
  pub classes : AllByRecursion FewProcesses commands.classes

record Kept (reading : CommandReading) : Type 0 where
  restarts : reading.values.max_restarts ≤ most_restarts
  some : 1 ≤ reading.values.processes
  few : reading.values.processes ≤ most_processes
  terminals : AllByRecursion FewRestarts reading.commands.terminals
  classes : AllByRecursion FewProcesses reading.commands.classes

starting_kept : Kept starting
starting_kept = record { restarts = omega arith; some = omega arith; few = omega arith; terminals = tt; classes = tt }

ranged_is : (line low high : ℕ) (operand : Word) → IfOk (ranged line low high operand) (λ n. (low ≤ n) × (n ≤ high))
ranged_is line low high operand = go (word_number operand)
  where
    in_range : (n : ℕ) (b : Bool) → (nat_le low n && nat_le n high) ≡ b → IfOk (cond b (Ok n) (refused line OutOfRange)) (λ n. (low ≤ n) × (n ≤ high))
    in_range n true is = let both = and_parts (nat_le low n) (nat_le n high) is in (leb-true low n both.0, leb-true n high both.1)
    in_range n false is = tt

    go : (o : Option ℕ) → IfOk (or_refused line BadCommand o >>= (λ n. checked line low high n)) (λ n. (low ≤ n) × (n ≤ high))
    go None = tt
    go (Some n) = in_range n (nat_le low n && nat_le n high) refl

added_kept : (line : ℕ) (reading : CommandReading) (object : Object) (name : Word) → Kept reading → IfOk (added line reading object name) Kept
added_kept line reading object.Tcp name kept =
    and_then (admitted line (has_tcp reading.commands name) (nat_le most_tcps (length reading.commands.tcps))) _ Any Kept (any_of (admitted line (has_tcp reading.commands name) (nat_le most_tcps (length reading.commands.tcps))))
    (λ done h. record { restarts = kept.restarts; some = kept.some; few = kept.few; terminals = kept.terminals; classes = kept.classes })
added_kept line reading object.Server name kept =
    and_then (admitted line (has_class reading.commands name) (nat_le most_classes (length reading.commands.classes))) _ Any Kept (any_of (admitted line (has_class reading.commands name) (nat_le most_classes (length reading.commands.classes))))
    (λ done h. record { restarts = kept.restarts; some = kept.some; few = kept.few; terminals = kept.terminals; classes = all-last FewProcesses reading.commands.classes _ kept.classes (kept.some, kept.few) })
added_kept line reading object.Term name kept =
    and_then (admitted line (has_terminal reading.commands name) (nat_le most_terminals (length reading.commands.terminals))) _ Any Kept (any_of (admitted line (has_terminal reading.commands name) (nat_le most_terminals (length reading.commands.terminals))))
    (λ done h. record { restarts = kept.restarts; some = kept.some; few = kept.few; terminals = all-last FewRestarts reading.commands.terminals _ kept.terminals kept.restarts; classes = kept.classes })

terminals_stay : (line : ℕ) (name : Word) (ts : List TermCommand) → AllByRecursion FewRestarts ts → AllByRecursion FewRestarts (map (start_terminal line name) ts)
terminals_stay line name [] h = tt
terminals_stay line name (t ∷ ts) h = (go (bytes_eq t.name name), terminals_stay line name ts h.1)
  where
    go : (b : Bool) → FewRestarts (cond b (record t { started = first_start line t.started }) t)
    go true = h.0
    go false = h.0

classes_stay : (line : ℕ) (name : Word) (cs : List ClassCommand) → AllByRecursion FewProcesses cs → AllByRecursion FewProcesses (map (start_class line name) cs)
classes_stay line name [] h = tt
classes_stay line name (c ∷ cs) h = (go (bytes_eq c.name name), classes_stay line name cs h.1)
  where
    go : (b : Bool) → FewProcesses (cond b (record c { started = first_start line c.started }) c)
    go true = h.0
    go false = h.0

started_kept : (line : ℕ) (reading : CommandReading) (object : Object) (name : Word) → Kept reading → Kept (record reading { commands = started line reading.commands object name })
started_kept line reading object.Tcp name kept = record { restarts = kept.restarts; some = kept.some; few = kept.few; terminals = kept.terminals; classes = kept.classes }
started_kept line reading object.Server name kept =
    record { restarts = kept.restarts; some = kept.some; few = kept.few; terminals = kept.terminals; classes = classes_stay line name reading.commands.classes kept.classes }
started_kept line reading object.Term name kept =
    record { restarts = kept.restarts; some = kept.some; few = kept.few; terminals = terminals_stay line name reading.commands.terminals kept.terminals; classes = kept.classes }

taken_kept : (line : ℕ) (reading : CommandReading) (verb : CommandVerb) (operand : Word) → Kept reading → IfOk (command_taken line reading verb operand) Kept
taken_kept line reading verb.SetTcp operand kept =
    and_then (named line operand) _ Any Kept (any_of (named line operand)) (λ name h. record { restarts = kept.restarts; some = kept.some; few = kept.few; terminals = kept.terminals; classes = kept.classes })
taken_kept line reading verb.SetInitial operand kept =
    and_then (named line operand) _ Any Kept (any_of (named line operand)) (λ name h. record { restarts = kept.restarts; some = kept.some; few = kept.few; terminals = kept.terminals; classes = kept.classes })
taken_kept line reading verb.SetRestarts operand kept =
    and_then (ranged line 0 most_restarts operand) _ (λ n. (0 ≤ n) × (n ≤ most_restarts)) Kept (ranged_is line 0 most_restarts operand)
    (λ n h. record { restarts = h.1; some = kept.some; few = kept.few; terminals = kept.terminals; classes = kept.classes })
taken_kept line reading verb.SetProgram operand kept =
    and_then (named line operand) _ Any Kept (any_of (named line operand)) (λ name h. record { restarts = kept.restarts; some = kept.some; few = kept.few; terminals = kept.terminals; classes = kept.classes })
taken_kept line reading verb.SetProcesses operand kept =
    and_then (ranged line 1 most_processes operand) _ (λ n. (1 ≤ n) × (n ≤ most_processes)) Kept (ranged_is line 1 most_processes operand)
    (λ n h. record { restarts = kept.restarts; some = h.0; few = h.1; terminals = kept.terminals; classes = kept.classes })
taken_kept line reading (verb.Add object) operand kept =
    and_then (named line operand) _ Any Kept (any_of (named line operand)) (λ name h. added_kept line reading object name kept)
taken_kept line reading (verb.Start object) operand kept =
    and_then (named line operand) _ Any Kept (any_of (named line operand)) (λ name h. started_kept line reading object name kept)

if_kept : (line : ℕ) (reading : CommandReading) (command : Option (CommandVerb × Word)) → Kept reading → IfOk (taken_if line reading command) Kept
if_kept line reading None kept = tt
if_kept line reading (Some command) kept = taken_kept line reading command.0 command.1 kept

line_kept : (number : ℕ) (reading : CommandReading) (line : List ℕ) → Kept reading → IfOk (line_read number reading line) Kept
line_kept number reading line kept = go (is_comment line || is_none (words line))
  where
    go : (b : Bool) → IfOk (cond b (Ok reading) (taken_if number reading (command_of (words line)))) Kept
    go true = kept
    go false = if_kept number reading (command_of (words line)) kept

lines_kept : (number : ℕ) (reading : CommandReading) (all : List (List ℕ)) → Kept reading → IfOk (lines_read number reading all) Kept
unfolding lines_read
lines_kept number reading [] kept = kept
lines_kept number reading (line ∷ rest) kept =
    and_then (line_read number reading line) _ Kept Kept (line_kept number reading line kept) (λ next more. lines_kept (number + 1) next rest more)

-- the commands of a text
pub commands_in_range : (text : List ℕ) (first_line : ℕ) → IfOk (commands_of text first_line) InRange
commands_in_range text first_line =
    and_then (lines_read first_line starting (lines text)) _ Kept InRange (lines_kept first_line starting (lines text) starting_kept)
    (λ reading kept. record { terminals = kept.terminals; classes = kept.classes })

-- what each line that is read keeps
each_kept : {S : Type 0} (step : ℕ → S → List ℕ → Result S Fault) (P : S → Type 0) → ((number : ℕ) (state : S) (line : List ℕ) → P state → IfOk (step number state line) P)
    → (number : ℕ) (state : S) (all : List (List ℕ)) → P state → IfOk (each_line step number state all) P
unfolding each_line
each_kept step P keeps number state [] p = p
each_kept {S} step P keeps number state (line ∷ rest) p =
    and_then (line_taken step number state line) _ P P (go (is_blank line)) (λ next more. each_kept step P keeps (number + 1) next rest more)
  where
    go : (b : Bool) → IfOk (cond b (Ok state) (step number state line)) P
    go true = p
    go false = keeps number state line p

-- records have their lengths, and no key stands twice
pub record AreRecords (key : ℕ) (records : List (List ℕ)) : Type 0 where
  pub contents : AllByRecursion (IsContent key) records
  pub distinct : IsDistinct bytes_eq (map (take key) records)

turned : (a b : List ℕ) → bytes_eq a b ≡ false → bytes_eq b a ≡ false
turned a b is = go (bytes_eq b a) refl
  where
    go : (t : Bool) → bytes_eq b a ≡ t → bytes_eq b a ≡ false
    go false same = same
    go true same =
        let ba : b ≡ a = (bytes_eq-Decides b a).0 same in
        let aa : bytes_eq a a ≡ true = (bytes_eq-Decides a a).1 refl in
        let no : bytes_eq a a ≡ false = subst (λ x. bytes_eq a x ≡ false) ba is in
        absurd cc

distinct_more : (keys : List (List ℕ)) (key : List ℕ) → IsDistinct bytes_eq keys → is_seen keys key ≡ false → IsDistinct bytes_eq (keys ++ key ∷ [])
unfolding IsDistinct
distinct_more [] key distinct new = (tt, tt)
distinct_more (k ∷ ks) key distinct new =
    let apart = or_parts (bytes_eq key k) (is_seen ks key) new in
    (all-last (λ y. bytes_eq k y ≡ false) ks key distinct.0 (turned key k apart.0), distinct_more ks key distinct.1 apart.1)

record_kept : (key number : ℕ) (records : List (List ℕ)) (line : List ℕ) → AreRecords key records → IfOk (record_read key number records line) (AreRecords key)
record_kept key number records line kept = go (is_bad_record key records line) refl
  where
    go : (b : Bool) → is_bad_record key records line ≡ b → IfOk (cond b (refused number BadRecord) (Ok (records ++ line ∷ []))) (AreRecords key)
    go true is = tt
    go false is =
        let short = or_parts (nat_lt (length line) key) (nat_lt most_content (length line) || is_seen (map (take key) records) (take key line)) is in
        let long = or_parts (nat_lt most_content (length line)) (is_seen (map (take key) records) (take key line)) short.1 in
        record {
          contents = all-last (IsContent key) records line kept.contents (ltb-false (length line) key short.0, ltb-false most_content (length line) long.0);
          distinct = subst (IsDistinct bytes_eq) (sym (map-append (take key) records (line ∷ []))) (distinct_more (map (take key) records) (take key line) kept.distinct long.1);
        }

no_records : (key : ℕ) → AreRecords key []
unfolding IsDistinct
no_records key = record { contents = tt; distinct = tt }

-- the records of a text
pub records_kept : (key : ℕ) (text : List ℕ) (first_line : ℕ) → IfOk (records_of_text key text first_line) (AreRecords key)
records_kept key text first_line = each_kept (record_read key) (AreRecords key) (record_kept key) first_line [] (lines text) (no_records key)

-- entries have keys, and there are not too many of them
pub record AreEntries (entries : List EntryLineModel) : Type 0 where
  pub keys : AllByRecursion HasFunctionKey entries
  pub few : length entries ≤ most_entry_lines

key_small : (word : List ℕ) → IfSome (key_of word) (λ k. (1 ≤ k) × (k ≤ last_key))
key_small word = go (position (λ key. bytes_eq key word) keys) refl
  where
    go : (o : Option ℕ) → position (λ key. bytes_eq key word) keys ≡ o → IfSome (option_map (λ place. place + 1) o) (λ k. (1 ≤ k) × (k ≤ last_key))
    go None is = tt
    go (Some p) is = let at = position-Some (λ key. bytes_eq key word) keys p [] is in (omega arith, omega (arith, at.0))

with_key : (key : Option ℕ) (fields : Option (List NameValue)) → IfSome key (λ k. (1 ≤ k) × (k ≤ last_key)) → IfSome (entry_with key fields) HasFunctionKey
with_key None fields is = tt
with_key (Some k) None is = tt
with_key (Some k) (Some fs) is = is

entry_has_key : (line : List ℕ) → IfSome (entry_of line) HasFunctionKey
entry_has_key line = go (parts false line)
  where
    go : (ps : List (List ℕ)) → IfSome (entry_by ps) HasFunctionKey
    go [] = tt
    go (word ∷ rest) = with_key (key_of word) (pairs_of [] rest) (key_small word)

or_kept : {A : Type 0} (P : A → Type 0) (number : ℕ) (o : Option A) → IfSome o P → IfOk (or_refused number BadEntry o) P
or_kept P number None is = tt
or_kept P number (Some a) is = is

entry_kept : (number : ℕ) (entries : List EntryLineModel) (line : List ℕ) → AreEntries entries → IfOk (entry_read number entries line) AreEntries
entry_kept number entries line kept =
    and_then (or_refused number BadEntry (entry_of line)) _ HasFunctionKey AreEntries (or_kept HasFunctionKey number (entry_of line) (entry_has_key line))
    (λ entry has. go entry has (nat_le most_entry_lines (length entries)) refl)
  where
    go : (entry : EntryLineModel) → HasFunctionKey entry → (b : Bool) → nat_le most_entry_lines (length entries) ≡ b → IfOk (cond b (refused number TooMany) (Ok (entries ++ entry ∷ []))) AreEntries
    go entry has true is = tt
    go entry has false is = record {
      keys = all-last HasFunctionKey entries entry kept.keys has;
      few = omega (arith, leb-false most_entry_lines (length entries) is, length-append entries (entry ∷ []));
    }

-- the entries of a text
pub entries_kept : (text : List ℕ) (first_line : ℕ) → IfOk (entries_of text first_line) AreEntries
entries_kept text first_line = each_kept entry_read AreEntries entry_kept first_line [] (lines text) (record { keys = tt; few = omega arith })
