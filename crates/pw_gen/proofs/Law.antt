-- The generated deck has no fault.
use Rattle.std.proofs.Common.{◌≡◌, ℕ, zero, suc, ◌+◌, ◌<◌, ◌≤◌, Bool, true, false, cond, not, List, [], ◌∷◌, ◌++◌, map, length, drop, Option, None, Some, Result, Ok, Err, refl, sym, ap, subst, ◌∙◌, arith}
use Rattle.std.specs.Prelude.{codes, is_ok, flat_map, nat_lt}
use Rattle.std.specs.List.{list_all, AllByRecursion}
use Rattle.std.specs.Fmt.{digits}
use Rattle.std.proofs.lemmas.List.{map-append}
use Rattle.pw_base.specs.First.{least, unless}
use Rattle.pw_base.specs.Limits.{longest_input}
use Rattle.pw_base.specs.declared.fault.Fault.{Fault}
use Rattle.pw_base.specs.declared.fault_code.FaultCode.TheVariants.{InputTooLong, UnknownObject}
use Rattle.pw_code.specs.declared.links.Links.{Links}
use Rattle.pw_code.specs.declared.lock.LockRule.TheVariants.{ReadersShare}
use Rattle.pw_code.specs.declared.system.System.{System}
use Rattle.pw_event.specs.declared.script.FailLine.{FailLine}
use Rattle.pw_gen.specs.Generated.{text_of, generated}
use Rattle.pw_gen.specs.Parts.{requester, server, stock}
use Rattle.pw_sections.specs.Lines.{lines}
use Rattle.pw_sections.specs.Words.{words}
use Rattle.pw_sections.specs.Steps.{◌>>=◌, each_line, refused, only_if, fault_at}
use Rattle.pw_names.specs.Names.{names_of}
use Rattle.pw_pathcom.specs.Objects.{unknown, bad_starts}
use Rattle.pw_pathcom.specs.Reading.{starting, lines_read}
use Rattle.pw_pathcom.specs.declared.commands.Commands.{Commands}
use Rattle.pw_pathcom.specs.declared.reading.CommandReading.{CommandReading}
use Rattle.pw_scobol.specs.declared.requester.Requester.{Requester}
use Rattle.pw_log_lines.specs.Fail.{failures_counted, failures_of}
use Rattle.pw_sections.specs.Headings.{heading_of}
use Rattle.pw_sections.specs.Parts.{DeckSections, cut}
use Rattle.pw_sections.specs.Records.{printable_line, printable, records_of_text}
use Rattle.pw_sections.specs.declared.heading.Heading.TheVariants as heading
use Rattle.pw_server.specs.declared.server.Server.{Server}
use Rattle.pw_deck_tables.specs.Objects.{no_objects, pathcom_section, fail_section}
use Rattle.pw_deck_tables.specs.Pieces.{DeckPieceModel}
use Rattle.pw_deck_tables.specs.Tables.{class_names, tables}
use Rattle.pw_deck_tables.specs.Unknown.{has_terminal, unknown_terminal, fault_in, fails_of, log_of, tables_of, all_unknown, known, startable, told_with, told_of}
use Rattle.pw_deck_tables.specs.declared.objects.Objects.{Objects}
use Rattle.pw_deck_tables.specs.declared.objects.TermEntries.{TermEntries}
use Rattle.pw_deck_tables.specs.declared.told.DeckTables.{DeckTables}
use Rattle.pw_words.specs.Words.{Word}
use Rattle.pw_deck.specs.Deck.{deck_in, deck_of, links_of}
use Rattle.pw_deck.specs.Parts.{no_parts, section_of, section_read, sections_read, with_objects, front_read, parts_of}
use Rattle.pw_deck.specs.declared.deck.ParsedDeck.{ParsedDeck}
use Rattle.pw_deck.specs.declared.parts.Parts.{Parts}
use Rattle.pw_event.specs.Keywords.{keyword as event_keyword}
use Rattle.pw_event.specs.Parsing.{named as event_named, number as event_number, positive_count_read as event_counted, cut as event_cut, refresh as event_refresh, among as event_among, terminal as event_terminal, pair as event_pair, class as event_class, file as event_file, process as event_process, op as event_op, mode as event_mode, member as event_member, fault_of as event_fault_of, cause_of as event_cause_of, cause_in as event_cause_in, ending_of as event_ending_of, show as event_show, terminal_and_number as event_terminal_and_number, check as event_check, applied as event_applied, begin as event_begin, send as event_send, take_line_event as event_taken, file_at as event_file_at, file_line as event_file_line, reply as event_reply, restart as event_restart, fail_tcp as event_fail_tcp, fail_server as event_fail_server, failure_of as event_failure_of, fail as event_fail, takeover as event_takeover, raise as event_raise, end as event_end, line_of as event_line_of, event_of as event_event_of, after_keyword_read as event_after, fail_process as event_fail_process, tcp_line as event_tcp_line, fail_class as event_fail_class, class_line as event_class_line, fail_line_of as event_fail_line_of, fail_of as event_fail_of}
use Rattle.pw_gen.specs.Faultless.{IsFaultless}
use Rattle.pw_gen.proofs.DeckTexts.{Section, lines_in, all_lines, is_section, texts_of, cut_of, lines_of}
use Rattle.pw_gen.proofs.Tests.{holds_to, holds, name_of, names_to}
use Rattle.pw_gen.proofs.Pieces.{below_are, read_as, goes_on, ends}
use Rattle.pw_gen.proofs.Programs.{stock_file, links, Read, programs_read, ok_is}
use Rattle.pw_gen.proofs.Commands.{pathcom, fail_lines, programs, servers, Added, added}
use Rattle.pw_gen.proofs.Whole.{requester_section, server_section, stock_section, fail_section as fail_lines_section, end_section, last_sections, entry_sections, whole, whole_is, whole_good, whole_size}
use Rattle.pw_gen.proofs.Reading.{parts_at, IsNamed, Entered, all_entered}

-- the text of the commands
abbrev piece : ℕ → DeckPieceModel
piece n = record { bytes = text_of (pathcom n).below; first_line = 2 }

-- what was read behind the commands, behind the requester, and behind the server
abbrev behind_commands : Commands → DeckPieceModel → Parts
behind_commands c p = record { requesters = []; servers = []; objects = record no_objects { pathcom = Some p; commands = c }; has_end = false }

abbrev behind_requester : Requester → Commands → DeckPieceModel → Parts
behind_requester q c p = record { requesters = q ∷ []; servers = []; objects = record no_objects { pathcom = Some p; commands = c }; has_end = false }

abbrev behind_server : Requester → Server → Commands → DeckPieceModel → Parts
behind_server q s c p = record { requesters = q ∷ []; servers = s ∷ []; objects = record no_objects { pathcom = Some p; commands = c }; has_end = false }

commands_read : (n line : ℕ) (a : Added n line) → section_read no_parts 1 (text_of (lines_in (pathcom n))) ≡ Ok (behind_commands a.reading.commands (piece n))
unfolding words
commands_read n line a =
    let text = text_of (pathcom n).below in
    let same = lines_of (pathcom n).below (below_are (pathcom n) a.section) in
    let p : DeckPieceModel = piece n in
    let kept : Commands → Result Objects Fault = λ c. Ok (record no_objects { pathcom = Some p; commands = c }) in
    let taken : Result CommandReading Fault → Result Objects Fault = λ r. (r >>= (λ reading. Ok reading.commands)) >>= kept in
    read_as no_parts 1 (pathcom n) heading.Pathcom a.section refl
    ∙ ap (λ ls. with_objects no_parts (each_line printable_line 2 (tt {0}) ls >>= (λ done. taken (lines_read 2 starting (lines text))))) same
    ∙ ap (λ r. with_objects no_parts (r >>= (λ done. taken (lines_read 2 starting (lines text))))) (ok_is _ a.printed)
    ∙ ap (λ ls. with_objects no_parts (taken (lines_read 2 starting ls))) same
    ∙ ap (λ r. with_objects no_parts (taken r)) a.read

requester_good : (q : Requester) (c : Commands) (p : DeckPieceModel) (line m : ℕ) (r : Read (line + 1) m)
    → section_read (behind_commands c p) line (text_of (lines_in requester_section)) ≡ Ok (behind_requester r.requester_read c p)
unfolding words
requester_good q c p line m r =
    read_as (behind_commands c p) line requester_section (heading.Requester (codes "KEYS")) refl refl
    ∙ ap (λ x. x >>= (λ (one : Requester). Ok (behind_requester one c p))) r.reads_requester

server_good : (q : Requester) (c : Commands) (p : DeckPieceModel) (l line : ℕ) (r : Read l (line + 1))
    → section_read (behind_requester q c p) line (text_of (lines_in server_section)) ≡ Ok (behind_server q r.server_read c p)
unfolding words
server_good q c p l line r =
    read_as (behind_requester q c p) line server_section (heading.Server (codes "STORE-P")) refl refl
    ∙ ap (λ x. x >>= (λ (one : Server). Ok (behind_server q one c p))) r.reads_server

stock_good : (q : Requester) (s : Server) (c : Commands) (p : DeckPieceModel) (line : ℕ)
    → section_read (behind_server q s c p) line (text_of (lines_in stock_section)) ≡ Ok (parts_at q s c p None [] [])
unfolding lines words each_line
stock_good q s c p line = read_as (behind_server q s c p) line stock_section (heading.File (codes "STOCK") 2) refl refl

ok_some : {A : Type 0} (r : Result A Fault) → is_ok r ≡ true → (a : A) × (r ≡ Ok a)
ok_some (Ok a) is = (a, refl)
ok_some (Err fault) is = absurd cc

abbrev fail_piece : ℕ → DeckPieceModel
fail_piece line = record { bytes = text_of fail_lines; first_line = line + 1 }

-- what was read behind the failure line, and at the end
abbrev behind_fails : Requester → Server → Commands → DeckPieceModel → ℕ → List Word → List TermEntries → Parts
behind_fails q s c p line names entries = parts_at q s c p (Some (fail_piece line)) names entries

abbrev at_end : Parts → Parts
at_end parts = record parts { has_end = true }

end_good : (parts : Parts) (line : ℕ) → section_read parts line (text_of (lines_in end_section)) ≡ Ok (at_end parts)
unfolding words
end_good parts line = read_as parts line end_section heading.End refl refl

-- a terminal of the deck is in its tables
none_unknown : (n : ℕ) (system : System) (entries : List TermEntries) → holds_to (λ k. has_terminal system (name_of k)) n ≡ true → AllByRecursion (IsNamed n) entries
    → flat_map (unknown_terminal system) entries ≡ []
none_unknown n system [] there named = refl
none_unknown n system (e ∷ es) there named =
    let is : has_terminal system e.name ≡ true = ap (has_terminal system) named.0.name ∙ holds (λ k. has_terminal system (name_of k)) n named.0.before there named.0.few in
    ap (λ t. only_if (not t) (fault_at e.line UnknownObject) ++ flat_map (unknown_terminal system) es) is ∙ none_unknown n system es there named.1

-- the commands of a line more
same_reading : (n line other : ℕ) (a : Added n line) (b : Added n other) → a.reading ≡ b.reading
same_reading n line other a b = let same : Ok a.reading ≡ Ok b.reading = sym a.read ∙ b.read in cc

fails_good : (m line : ℕ) (a : Added (suc m) 0) → m < 64
    → is_ok (failures_of (tables a.reading.commands programs servers (stock_file ∷ []) ReadersShare) (text_of fail_lines) line) ≡ true
fails_good m line a few =
    let b = added m line few in
    subst (λ (r : CommandReading). is_ok (failures_of (tables r.commands programs servers (stock_file ∷ []) ReadersShare) (text_of fail_lines) line) ≡ true)
    (same_reading (suc m) line 0 b a) b.fails

-- what is told by the parts of the whole deck
told_good : (m : ℕ) (few : m < 64) (a : Added (suc m) 0) (line : ℕ) (entries : List TermEntries) (objects : Objects) → AllByRecursion (IsNamed (suc m)) entries
    → objects ≡ record {
      pathcom = Some (piece (suc m));
      commands = a.reading.commands;
      files = stock_file ∷ [];
      entered = names_to (suc m);
      entries = entries;
      fail = Some (fail_piece line);
      log = None;
    }
    → (told : DeckTables) × (told_of objects programs servers ≡ Ok told)
told_good m few a line entries objects named is =
    let n = suc m in
    let whole_objects : Objects = record {
      pathcom = Some (piece n);
      commands = a.reading.commands;
      files = stock_file ∷ [];
      entered = names_to n;
      entries = entries;
      fail = Some (fail_piece line);
      log = None;
    } in
    let system = tables a.reading.commands programs servers (stock_file ∷ []) ReadersShare in
    let fails = ok_some (failures_of system (text_of fail_lines) (line + 1)) (fails_good m (line + 1) a few) in
    let flagged : all_unknown whole_objects programs servers ≡ [] =
    ap (λ xs. xs ++ (flat_map (unknown_terminal system) entries ++ (fault_in (failures_of system (text_of fail_lines) (line + 1)) ++ []))) a.known
    ∙ ap (λ xs. xs ++ (fault_in (failures_of system (text_of fail_lines) (line + 1)) ++ [])) (none_unknown n system entries a.terminals named)
    ∙ ap (λ r. fault_in r ++ []) fails.1 in
    let begun : startable whole_objects ≡ Ok (tt {0}) =
    ap (λ ls. unless (least None (bad_starts a.reading.commands 2 ls)) (tt {0})) (lines_of (pathcom n).below (below_are (pathcom n) a.section))
    ∙ ap (λ xs. unless (least None xs) (tt {0})) a.startable in
    let told : DeckTables = told_with whole_objects programs servers fails.0 [] in
    let last : Result (List FailLine) Fault → Result DeckTables Fault = λ r. r >>= (λ f. log_of whole_objects programs servers >>= (λ e. Ok (told_with whole_objects programs servers f e))) in (
      told,
      ap (λ o. told_of o programs servers) is
          ∙ ap (λ xs. unless (least None xs) (tt {0}) >>= (λ (done : Unit {0}). startable whole_objects >>= (λ (done : Unit {0}). last (fails_of whole_objects programs servers)))) flagged
          ∙ ap (λ r. r >>= (λ (done : Unit {0}). last (fails_of whole_objects programs servers))) begun
          ∙ ap last fails.1,
    )

-- what the sections of the deck say
record Said (m seed : ℕ) (a : Added (suc m) 0) : Type 0 where
  l : ℕ
  k : ℕ
  read : Read l k
  line : ℕ
  entries : List TermEntries
  named : AllByRecursion (IsNamed (suc m)) entries
  is : sections_read no_parts 1 (texts_of (whole seed (suc m)))
      ≡ Ok (at_end (behind_fails read.requester_read read.server_read a.reading.commands (piece (suc m)) line (names_to (suc m)) entries))

fails_counted : (line : ℕ) → is_ok (failures_counted (text_of fail_lines) line) ≡ true
unfolding digits lines words each_line event_keyword event_named event_number event_counted event_cut event_refresh event_among event_terminal event_pair event_class event_file event_process event_op event_mode event_member event_fault_of event_cause_of event_cause_in event_ending_of event_show event_terminal_and_number event_check event_applied event_begin event_send event_taken event_file_at event_file_line event_reply event_restart event_fail_tcp event_fail_server event_failure_of event_fail event_takeover event_raise event_end event_line_of event_event_of event_after event_fail_process event_tcp_line event_fail_class event_class_line event_fail_line_of event_fail_of
fails_counted line = refl

fail_good : (q : Requester) (s : Server) (c : Commands) (p : DeckPieceModel) (line : ℕ) (names : List Word) (entries : List TermEntries)
    → section_read (parts_at q s c p None names entries) line (text_of (lines_in fail_lines_section)) ≡ Ok (behind_fails q s c p line names entries)
unfolding lines words each_line
fail_good q s c p line names entries =
    let parts = parts_at q s c p None names entries in
    let count = ok_some (failures_counted (text_of fail_lines) (line + 1)) (fails_counted (line + 1)) in
    read_as (parts_at q s c p None names entries) line fail_lines_section heading.Fail refl refl
    ∙ ap (λ r. with_objects parts (r >>= (λ (count : ℕ). Ok (record (parts.objects) { fail = Some (fail_piece line) })))) count.1

texts_more : (some more : List Section) → texts_of (some ++ more) ≡ texts_of some ++ texts_of more
texts_more some more = map-append (λ (s : Section). text_of (lines_in s)) some more

said : (m seed : ℕ) (few : m < 64) (a : Added (suc m) 0) → Said m seed a
said m seed few a =
    let n = suc m in
    let c = a.reading.commands in
    let p = piece n in
    let l1 = 1 + length (lines_in (pathcom n)) in
    let l2 = l1 + length (lines_in requester_section) in
    let l3 = l2 + length (lines_in server_section) in
    let l4 = l3 + length (lines_in stock_section) in
    let r = programs_read (l1 + 1) (l2 + 1) in
    let q = r.requester_read in
    let s = r.server_read in
    let tail = texts_of (entry_sections n 1 seed ++ last_sections) in
    let stock_then = texts_of (stock_section ∷ []) ++ tail in
    let server_then = texts_of (server_section ∷ []) ++ stock_then in
    let requester_then = texts_of (requester_section ∷ []) ++ server_then in
    let same : 0 + n ≡ n = omega arith in
    let start = sections_read (parts_at q s c p None [] []) l4 (texts_of (entry_sections n 1 seed) ++ texts_of last_sections) in
    let all = subst (λ k. Entered q s c p k (texts_of last_sections) start) same (all_entered q s c p n 0 1 seed l4 [] (texts_of last_sections) refl (omega (arith, few)) tt) in
    let parts = parts_at q s c p None (names_to n) all.entries in
    let ended = behind_fails q s c p all.line (names_to n) all.entries in
    let l6 = all.line + length (lines_in fail_lines_section) in
    record {
      l = l1 + 1;
      k = l2 + 1;
      read = r;
      line = all.line;
      entries = all.entries;
      named = all.named;
      is =
          goes_on no_parts (behind_commands c p) 1 (pathcom n) requester_then a.section (commands_read n 0 a) refl
          ∙ goes_on (behind_commands c p) (behind_requester q c p) l1 requester_section server_then refl (requester_good q c p l1 (l2 + 1) r) refl
          ∙ goes_on (behind_requester q c p) (behind_server q s c p) l2 server_section stock_then refl (server_good q c p (l1 + 1) l2 r) refl
          ∙ goes_on (behind_server q s c p) (parts_at q s c p None [] []) l3 stock_section tail refl (stock_good q s c p l3) refl
          ∙ ap (sections_read (parts_at q s c p None [] []) l4) (texts_more (entry_sections n 1 seed) last_sections)
          ∙ all.is
          ∙ goes_on parts ended all.line fail_lines_section (texts_of (end_section ∷ [])) refl (fail_good q s c p all.line (names_to n) all.entries) refl
          ∙ ends ended (at_end ended) l6 end_section [] (end_good ended l6) refl;
    }

-- nothing stands in front of the first section
no_front : front_read [] ≡ Ok (tt {0})
unfolding lines each_line
no_front = refl

no_lines : length (lines []) ≡ 0
unfolding lines
no_lines = refl

front_cut : (c : DeckSections) (all : List (List ℕ)) → c ≡ record { front = []; sections = all }
    → (front_read c.front >>= (λ done. sections_read no_parts (1 + length (lines c.front)) c.sections)) ≡ sections_read no_parts 1 all
front_cut c all is =
    ap (λ (d : DeckSections). front_read d.front >>= (λ done. sections_read no_parts (1 + length (lines d.front)) d.sections)) is
    ∙ ap (λ r. r >>= (λ done. sections_read no_parts (1 + length (lines [])) all)) no_front
    ∙ ap (λ k. sections_read no_parts (1 + k) all) no_lines

named_good : (q : Requester) (s : Server) (c : Commands) (own : Links) → q.name ≡ codes "KEYS" → class_names c ≡ codes "STORE" ∷ [] → names_of (q ∷ []) (s ∷ []) links ≡ Ok (tt {0})
    → own ≡ record { programs = q.name ∷ []; classes = class_names c; files = stock_file ∷ [] }
    → names_of (q ∷ []) (s ∷ []) own ≡ Ok (tt {0})
named_good q s c own name classes named is =
    ap (names_of (q ∷ []) (s ∷ [])) is
    ∙ ap (λ w. names_of (q ∷ []) (s ∷ []) (record { programs = w ∷ []; classes = class_names c; files = stock_file ∷ [] })) name
    ∙ ap (λ ws. names_of (q ∷ []) (s ∷ []) (record { programs = codes "KEYS" ∷ []; classes = ws; files = stock_file ∷ [] })) classes
    ∙ named

-- the deck has no fault
pub faultless : (seed m : ℕ) → m < 64 → (deck : ParsedDeck) × (deck_of (generated seed (suc m)) ≡ Ok deck)
faultless seed m few =
    let n = suc m in
    let a = added m 0 few in
    let sections = whole seed n in
    let text = text_of (all_lines sections) in
    let said_is = said m seed few a in
    let r = said_is.read in
    let q = r.requester_read in
    let s = r.server_read in
    let parts = at_end (behind_fails q s a.reading.commands (piece n) said_is.line (names_to n) said_is.entries) in
    let told = told_good m few a said_is.line said_is.entries parts.objects said_is.named refl in
    let good : list_all is_section sections ≡ true = whole_good seed n (omega (arith, few)) a.section in
    let read : parts_of text ≡ Ok parts = front_cut (cut true text) (texts_of sections) (cut_of sections good) ∙ said_is.is in
    let names = named_good q s a.reading.commands (links_of parts) r.requester_name a.store r.named refl in
    let deck : ParsedDeck = record { told = told.0; requesters = q ∷ []; servers = s ∷ [] } in
    let telling : Word → Word → Result ParsedDeck Fault = λ x y. told_of parts.objects (x ∷ []) (y ∷ []) >>= (λ t. Ok (record { told = t; requesters = q ∷ []; servers = s ∷ [] })) in
    let whole_deck : deck_in text parts ≡ Ok deck =
    ap (λ x. x >>= (λ (done : Unit {0}). telling q.name s.name)) names
    ∙ ap (λ x. telling x s.name) r.requester_name
    ∙ ap (λ x. telling (codes "KEYS") x) r.server_name
    ∙ ap (λ x. x >>= (λ (t : DeckTables). Ok (record { told = t; requesters = q ∷ []; servers = s ∷ [] }))) told.1 in
    let sized : nat_lt longest_input (length text) ≡ false = whole_size seed n (omega (arith, few)) a.short a.few in (
      deck,
      ap (λ ls. deck_of (text_of ls)) (whole_is seed n)
          ∙ ap (λ b. cond b (refused 0 InputTooLong) (Ok (tt {0})) >>= (λ (done : Unit {0}). parts_of text >>= deck_in text)) sized
          ∙ ap (λ x. x >>= deck_in text) read
          ∙ whole_deck,
    )

-- the same by the number of terminals
pub all_faultless : (seed terminals : ℕ) → 1 ≤ terminals → terminals ≤ 64 → IsFaultless (generated seed terminals)
all_faultless seed zero some few = absurd (omega (arith, some))
all_faultless seed (suc m) some few = faultless seed m (omega (arith, few))
