-- The programs of a deck without a fault are those of their readers, and what its failure lines name is there.
use Rattle.std.proofs.Common.{◌≡◌, ℕ, ◌+◌, ◌≤◌, Bool, true, false, cond, List, [], ◌∷◌, ◌++◌, map, length, Option, None, Some, Result, Ok, Err, IfOk, refl, sym, ap, ◌∙◌, subst}
use Rattle.std.specs.Prelude.{nat_le}
use Rattle.std.specs.Option.{is_some}
use Rattle.pw_base.specs.declared.fault.Fault.{Fault}
use Rattle.pw_base.specs.declared.fault_code.FaultCode.TheVariants.{BadSection}
use Rattle.pw_code.specs.Limits.{most_fail_lines, most_files, most_log_lines, most_programs, most_servers}
use Rattle.pw_code.specs.declared.lock.LockRule.TheVariants.{ReadersShare}
use Rattle.pw_code.specs.declared.system.ClassInfo.{ClassInfo}
use Rattle.pw_code.specs.declared.links.Links.{Links}
use Rattle.pw_deck.specs.Deck.{sized, end_found, links_of, deck_in, deck_of}
use Rattle.pw_deck.specs.Parts.{no_parts, has_requester, has_server, requester_section, server_section, with_objects, section_of, section_read, sections_read, front_read, parts_of, program_names, server_names}
use Rattle.pw_deck.specs.declared.deck.ParsedDeck.{ParsedDeck}
use Rattle.pw_deck.specs.declared.parts.Parts.{Parts}
use Rattle.pw_deck.proofs.Good.{ArePartsGood, parts_good}
use Rattle.pw_deck.proofs.Decks.{both_ok}
use Rattle.pw_event.specs.declared.event.Event.{Event}
use Rattle.pw_event.specs.declared.script.FailLine.{FailLine}
use Rattle.pw_sections.specs.Lines.{lines}
use Rattle.pw_sections.specs.Steps.{◌>>=◌, or_refused}
use Rattle.pw_names.specs.Names.{names_of}
use Rattle.pw_operands.specs.Resolved.{Each}
use Rattle.pw_pathcom.specs.Reading.{commands_of}
use Rattle.pw_pathcom.specs.declared.commands.ClassCommand.{ClassCommand}
use Rattle.pw_scobol.specs.Requesters.{requester_of}
use Rattle.pw_scobol.specs.declared.requester.Requester.{Requester}
use Rattle.pw_log_lines.specs.Fail.{failures_counted}
use Rattle.pw_log_lines.specs.Log.{entries_counted, rule_of}
use Rattle.pw_sections.specs.Entries.{entries_of}
use Rattle.pw_sections.specs.Headings.{heading_of}
use Rattle.pw_sections.specs.Parts.{front, sections}
use Rattle.pw_sections.specs.Records.{printable, records_of_text}
use Rattle.pw_sections.specs.declared.heading.Heading.{Heading}
use Rattle.pw_sections.specs.declared.heading.Heading.TheVariants as heading
use Rattle.pw_server.specs.Servers.{server_of}
use Rattle.pw_server.specs.declared.server.Server.{Server}
use Rattle.pw_tree_meaning.proofs.storage.Places.{each-append}
use Rattle.pw_tree_meaning.specs.Program as source
use Rattle.pw_tree_meaning.specs.Sound as source_links
use Rattle.pw_deck_tables.proofs.Commands.{and_then, Any, any_of}
use Rattle.pw_deck_tables.specs.Objects.{has_file, once, section_admitted, pathcom_section, file_section, entries_section, fail_section, log_section}
use Rattle.pw_deck_tables.specs.Pieces.{section_line, section_text}
use Rattle.pw_deck_tables.specs.Tables.{class_from_command, class_names, with_terminal_entries}
use Rattle.pw_deck_tables.specs.Unknown.{log_version, tables_of, known, startable, fails_of, log_of, told_with, told_of}
use Rattle.pw_deck_tables.specs.declared.objects.Objects.{Objects}
use Rattle.pw_deck_tables.specs.declared.told.DeckTables.{DeckTables}
use Rattle.pw_words.specs.Names.{has_name}
use Rattle.pw_words.specs.Words.{Word}
use Rattle.pw_compiled_deck.specs.Whole.{of_requester, of_server, trees_of}
use Rattle.pw_compiled_deck.specs.Named.{IsFailNamed}
use Rattle.pw_compiled_deck.proofs.Lines.{IsCounted, fails-there, few-fails, line-like}
use Rattle.pw_compiled_deck.proofs.Logs.{IsLogCounted, few-entries}
use Rattle.pw_compiled_deck.proofs.Sources.{IsReadRequester, IsReadServer, requester-is, server-is}
use Rattle.pw_tree_meaning.proofs.storage.Places.{each-map}

-- ---- sections

ok-of : {A : Type 0} (r : Result A Fault) → IfOk r (λ a. r ≡ Ok a)
ok-of (Ok a) = refl
ok-of (Err fault) = tt

-- the failure lines and the log of sections that are no source
abbrev Counted : Objects → Type 0
Counted objects = IsCounted objects.fail × IsLogCounted objects.log

record AreSources (parts : Parts) : Type 0 where
  requesters : Each IsReadRequester parts.requesters
  servers : Each IsReadServer parts.servers
  counted : Counted parts.objects

read-requester : (name : Word) (text : List ℕ) (first_line : ℕ) → IfOk (requester_of name text first_line) IsReadRequester
read-requester name text first_line = by (requester_of name text first_line) refl
  where
    by : (r : Result Requester Fault) → requester_of name text first_line ≡ r → IfOk r IsReadRequester
    by (Ok one) is = requester-is name text first_line one is
    by (Err fault) is = tt

read-server : (name : Word) (text : List ℕ) (first_line : ℕ) → IfOk (server_of name text first_line) IsReadServer
read-server name text first_line = by (server_of name text first_line) refl
  where
    by : (r : Result Server Fault) → server_of name text first_line ≡ r → IfOk r IsReadServer
    by (Ok one) is = server-is name text first_line one is
    by (Err fault) is = tt

requester-sources : (parts : Parts) (line : ℕ) (text : List ℕ) (name : Word) → AreSources parts → IfOk (requester_section parts line text name) AreSources
requester-sources parts line text name all =
    and_then (section_admitted line (has_requester parts name) (nat_le most_programs (length parts.requesters))) _ Any AreSources (any_of (section_admitted line (has_requester parts name) (nat_le most_programs (length parts.requesters))))
    (λ done h. and_then (requester_of name text (line + 1)) _ IsReadRequester AreSources (read-requester name text (line + 1))
    (λ one is. record { requesters = each-append IsReadRequester parts.requesters (one ∷ []) all.requesters (is, tt); servers = all.servers; counted = all.counted }))

server-sources : (parts : Parts) (line : ℕ) (text : List ℕ) (name : Word) → AreSources parts → IfOk (server_section parts line text name) AreSources
server-sources parts line text name all =
    and_then (section_admitted line (has_server parts name) (nat_le most_servers (length parts.servers))) _ Any AreSources (any_of (section_admitted line (has_server parts name) (nat_le most_servers (length parts.servers))))
    (λ done h. and_then (server_of name text (line + 1)) _ IsReadServer AreSources (read-server name text (line + 1))
    (λ one is. record { requesters = all.requesters; servers = each-append IsReadServer parts.servers (one ∷ []) all.servers (is, tt); counted = all.counted }))

with-sources : (parts : Parts) (read : Result Objects Fault) → AreSources parts → IfOk read Counted → IfOk (with_objects parts read) AreSources
with-sources parts read all objects =
    and_then read _ Counted AreSources objects (λ found counted. record { requesters = all.requesters; servers = all.servers; counted = counted })

pathcom-counted : (objects : Objects) (line : ℕ) (text : List ℕ) → Counted objects → IfOk (pathcom_section objects line text) Counted
pathcom-counted objects line text counted =
    and_then (once line (is_some objects.pathcom)) _ Any Counted (any_of (once line (is_some objects.pathcom)))
    (λ done h. and_then (printable text (line + 1)) _ Any Counted (any_of (printable text (line + 1)))
    (λ done h. and_then (commands_of text (line + 1)) _ Any Counted (any_of (commands_of text (line + 1))) (λ commands h. counted)))

file-counted : (objects : Objects) (line : ℕ) (text : List ℕ) (name : Word) (key : ℕ) → Counted objects → IfOk (file_section objects line text name key) Counted
file-counted objects line text name key counted =
    and_then (section_admitted line (has_file objects name) (nat_le most_files (length objects.files))) _ Any Counted
    (any_of (section_admitted line (has_file objects name) (nat_le most_files (length objects.files))))
    (λ done h. and_then (printable text (line + 1)) _ Any Counted (any_of (printable text (line + 1)))
    (λ done h. and_then (records_of_text key text (line + 1)) _ Any Counted (any_of (records_of_text key text (line + 1))) (λ records h. counted)))

entries-counted : (objects : Objects) (line : ℕ) (text : List ℕ) (name : Word) → Counted objects → IfOk (entries_section objects line text name) Counted
entries-counted objects line text name counted =
    and_then (once line (has_name objects.entered name)) _ Any Counted (any_of (once line (has_name objects.entered name)))
    (λ done h. and_then (printable text (line + 1)) _ Any Counted (any_of (printable text (line + 1)))
    (λ done h. and_then (entries_of text (line + 1)) _ Any Counted (any_of (entries_of text (line + 1))) (λ entries h. counted)))

fail-counted : (objects : Objects) (line : ℕ) (text : List ℕ) → Counted objects → IfOk (fail_section objects line text) Counted
fail-counted objects line text counted =
    and_then (once line (is_some objects.fail)) _ Any Counted (any_of (once line (is_some objects.fail)))
    (λ done h. and_then (printable text (line + 1)) _ Any Counted (any_of (printable text (line + 1)))
    (λ done h. and_then (failures_counted text (line + 1)) _ (λ count. failures_counted text (line + 1) ≡ Ok count) Counted (ok-of (failures_counted text (line + 1)))
    (λ count is. ((count, is), counted.1))))

log-counted : (objects : Objects) (line : ℕ) (text : List ℕ) → Counted objects → IfOk (log_section objects line text) Counted
log-counted objects line text counted =
    and_then (once line (is_some objects.log)) _ Any Counted (any_of (once line (is_some objects.log)))
    (λ done h. and_then (printable text (line + 1)) _ Any Counted (any_of (printable text (line + 1)))
    (λ done h. and_then (entries_counted text (line + 1)) _ (λ count. entries_counted text (line + 1) ≡ Ok count) Counted (ok-of (entries_counted text (line + 1)))
    (λ count is. (counted.0, (count, is)))))

section-sources : (parts : Parts) (line : ℕ) (text : List ℕ) (heading : Heading) → AreSources parts → IfOk (section_of parts line text heading) AreSources
section-sources parts line text heading.Pathcom all = with-sources parts _ all (pathcom-counted parts.objects line text all.counted)
section-sources parts line text (heading.Requester name) all = requester-sources parts line text name all
section-sources parts line text (heading.Server name) all = server-sources parts line text name all
section-sources parts line text (heading.File name key) all = with-sources parts _ all (file-counted parts.objects line text name key all.counted)
section-sources parts line text (heading.Entries name) all = with-sources parts _ all (entries-counted parts.objects line text name all.counted)
section-sources parts line text heading.Fail all = with-sources parts _ all (fail-counted parts.objects line text all.counted)
section-sources parts line text heading.Log all = with-sources parts _ all (log-counted parts.objects line text all.counted)
section-sources parts line text heading.End all = record { requesters = all.requesters; servers = all.servers; counted = all.counted }

read-sources : (parts : Parts) (line : ℕ) (section : List ℕ) → AreSources parts → IfOk (section_read parts line section) AreSources
read-sources parts line section all =
    and_then (or_refused line BadSection (heading_of (section_line section))) _ Any AreSources (any_of (or_refused line BadSection (heading_of (section_line section))))
    (λ heading h. section-sources parts line (section_text section) heading all)

all-sources : (parts : Parts) (line : ℕ) (all : List (List ℕ)) → AreSources parts → IfOk (sections_read parts line all) AreSources
unfolding sections_read
all-sources parts line [] known = known
all-sources parts line (section ∷ rest) known =
    and_then (section_read parts line section) _ AreSources AreSources (read-sources parts line section known)
    (λ next more. go next more (λ k. all-sources next k rest more) next.has_end)
  where
    go : (next : Parts) → AreSources next → ((k : ℕ) → IfOk (sections_read next k rest) AreSources) → (b : Bool)
        → IfOk (cond b (Ok next) (sections_read next (line + length (lines section)) rest)) AreSources
    go next more all true = more
    go next more all false = all (line + length (lines section))

parts-sources : (bytes : List ℕ) → IfOk (parts_of bytes) (λ parts. ArePartsGood parts × AreSources parts)
parts-sources bytes =
    both_ok ArePartsGood AreSources (parts_of bytes) (parts_good bytes)
    (and_then (front_read (front bytes)) _ Any AreSources (any_of (front_read (front bytes)))
    (λ done h. all-sources no_parts (1 + length (lines (front bytes))) (sections bytes) (record { requesters = tt; servers = tt; counted = (tt, tt) })))

-- ---- names

-- what the names of a deck's programs may stand for is what they are looked up in
programs-named : (requesters : List Requester) → map (λ (program : source.Program). program.name) (map of_requester requesters) ≡ map (λ (r : Requester). r.name) requesters
programs-named [] = refl
programs-named (r ∷ rs) = ap (λ names. r.name ∷ names) (programs-named rs)

classes-named : (servers : List Word) (classes : List ClassCommand) → map (λ (class : ClassInfo). class.name) (map (class_from_command servers) classes) ≡ map (λ (class : ClassCommand). class.name) classes
classes-named servers [] = refl
classes-named servers (c ∷ cs) = ap (λ names. c.name ∷ names) (classes-named servers cs)

-- ---- decks

pub record IsReadDeck (deck : ParsedDeck) : Type 0 where
  pub requesters : Each IsReadRequester deck.requesters
  pub servers : Each IsReadServer deck.servers
  pub names : names_of deck.requesters deck.servers (source_links.links_of (trees_of deck)) ≡ Ok (tt {0})
  pub lines : Each (IsFailNamed deck.told.system) deck.told.script.lines
  pub few : length deck.told.script.lines ≤ most_fail_lines
  pub log : length deck.told.log ≤ most_log_lines
  pub rule : deck.told.system.rule ≡ ReadersShare

abbrev with_names : Parts → List Word → List Word → Links
with_names parts programs classes = record { programs = programs; classes = classes; files = parts.objects.files }

same-links : (parts : Parts) (fails : List FailLine) (events : List Event)
    → links_of parts ≡ source_links.links_of (trees_of (record { told = told_with parts.objects (program_names parts) (server_names parts) fails events; requesters = parts.requesters; servers = parts.servers }))
same-links parts fails events =
    ap (λ (names : List Word). with_names parts names (class_names parts.objects.commands)) (sym (programs-named parts.requesters))
    ∙ ap (λ (names : List Word). with_names parts (map (λ (program : source.Program). program.name) (map of_requester parts.requesters)) names) (sym (classes-named (server_names parts) parts.objects.commands.classes))

-- what is told, with the failure lines and the log that were read
record IsTold (objects : Objects) (first second : List Word) (told : DeckTables) : Type 0 where
  fails : List FailLine
  events : List Event
  there : Each (IsFailNamed (tables_of objects first second ReadersShare)) fails
  few : length fails ≤ most_fail_lines
  log : length events ≤ most_log_lines
  is : told ≡ told_with objects first second fails events

told-is : (objects : Objects) (first second : List Word) → Counted objects → IfOk (told_of objects first second) (IsTold objects first second)
told-is objects first second counted =
    let tables = tables_of objects first second ReadersShare in
    and_then (known objects first second) _ Any (IsTold objects first second) (any_of (known objects first second))
    (λ done h. and_then (startable objects) _ Any (IsTold objects first second) (any_of (startable objects))
    (λ done h. and_then (fails_of objects first second) _ (λ (fails : List FailLine). Each (IsFailNamed tables) fails × (length fails ≤ most_fail_lines)) (IsTold objects first second)
    (both_ok (Each (IsFailNamed tables)) (λ (fails : List FailLine). length fails ≤ most_fail_lines) (fails_of objects first second) (fails-there tables objects.fail) (few-fails tables objects.fail counted.0))
    (λ fails both. and_then (log_of objects first second) _ (λ (events : List Event). length events ≤ most_log_lines) (IsTold objects first second)
    (few-entries (tables_of objects first second (rule_of (log_version objects.log))) objects.log counted.1)
    (λ events log. record { fails = fails; events = events; there = both.0; few = both.1; log = log; is = refl }))))

deck-is : (parts : Parts) (told : DeckTables) → AreSources parts → names_of parts.requesters parts.servers (links_of parts) ≡ Ok (tt {0}) → IsTold parts.objects (program_names parts) (server_names parts) told
    → IsReadDeck (record { told = told; requesters = parts.requesters; servers = parts.servers })
deck-is parts told all named is =
    let tables = tables_of parts.objects (program_names parts) (server_names parts) ReadersShare in
    let P : DeckTables → Type 0 = λ one. IsReadDeck (record { told = one; requesters = parts.requesters; servers = parts.servers }) in
    subst P (sym is.is) (record {
      requesters = all.requesters;
      servers = all.servers;
      names = ap (names_of parts.requesters parts.servers) (sym (same-links parts is.fails is.events)) ∙ named;
      lines = each-map (IsFailNamed tables) (IsFailNamed (with_terminal_entries parts.objects.entries tables)) is.fails (line-like tables (with_terminal_entries parts.objects.entries tables) refl refl) is.there;
      few = is.few;
      log = is.log;
      rule = refl;
    })

in-deck : (bytes : List ℕ) (parts : Parts) → ArePartsGood parts → AreSources parts → IfOk (deck_in bytes parts) IsReadDeck
in-deck bytes parts good all =
    let first = program_names parts in
    let second = server_names parts in
    and_then (end_found bytes parts.has_end) _ Any IsReadDeck (any_of (end_found bytes parts.has_end))
    (λ done h. and_then (names_of parts.requesters parts.servers (links_of parts)) _ (λ done. names_of parts.requesters parts.servers (links_of parts) ≡ Ok done) IsReadDeck (ok-of (names_of parts.requesters parts.servers (links_of parts)))
    (λ done named. and_then (told_of parts.objects first second) _ (IsTold parts.objects first second) IsReadDeck (told-is parts.objects first second all.counted)
    (λ told is. deck-is parts told all named is)))

-- of a deck without a fault
deck-read : (bytes : List ℕ) → IfOk (deck_of bytes) IsReadDeck
deck-read bytes =
    and_then (sized bytes) _ Any IsReadDeck (any_of (sized bytes))
    (λ done h. and_then (parts_of bytes) _ (λ parts. ArePartsGood parts × AreSources parts) IsReadDeck (parts-sources bytes) (λ parts fine. in-deck bytes parts fine.0 fine.1))

pub deck-known : (bytes : List ℕ) (deck : ParsedDeck) → deck_of bytes ≡ Ok deck → IsReadDeck deck
deck-known bytes deck is = subst (λ (r : Result ParsedDeck Fault). IfOk r IsReadDeck) is (deck-read bytes)
