-- A deck without a fault has the tables of a valid system.
use Rattle.std.proofs.Common.{◌≡◌, ℕ, ◌+◌, ◌≤◌, Bool, true, false, cond, List, [], ◌∷◌, map, length, Option, None, Some, Result, Ok, Err, IfOk, refl, sym, ap, subst, ◌∙◌, arith}
use Rattle.std.specs.Prelude.{nat_le, flat_map}
use Rattle.std.proofs.lemmas.Bool.{le-ltb}
use Rattle.std.proofs.lemmas.List.{length-map}
use Rattle.std.proofs.lemmas.List.Elements.{All-from_recursion}
use Rattle.pw_base.specs.First.{least, unless, Gives}
use Rattle.pw_base.specs.Limits.{longest_input}
use Rattle.pw_base.specs.declared.fault.Fault.{Fault}
use Rattle.pw_base.specs.declared.fault.Refusal.{Refusal}
use Rattle.pw_base.specs.declared.fault_code.FaultCode.TheVariants.{BadSection, InputTooLong}
use Rattle.pw_base.proofs.Plain.{append-none}
use Rattle.pw_base.proofs.FirstFault.{least-none}
use Rattle.pw_code.specs.Valid.{IsTerminal, IsClass}
use Rattle.pw_code.specs.Limits.{most_programs, most_servers}
use Rattle.pw_code.specs.declared.lock.LockRule.TheVariants.{ReadersShare}
use Rattle.pw_code.specs.declared.system.System.{System}
use Rattle.pw_code.specs.declared.system.TermInfo.{TermInfo}
use Rattle.pw_sections.specs.Lines.{lines}
use Rattle.pw_sections.specs.Steps.{◌>>=◌, refused, or_refused}
use Rattle.pw_sections.specs.Words.{words}
use Rattle.pw_names.specs.Names.{names_of}
use Rattle.pw_pathcom.specs.Objects.{unknown, unknown_terminal, unknown_class}
use Rattle.pw_pathcom.specs.declared.commands.Started.{Started}
use Rattle.pw_scobol.specs.Requesters.{requester_of}
use Rattle.pw_scobol.specs.declared.requester.Requester.{Requester}
use Rattle.pw_sections.specs.Headings.{heading_of}
use Rattle.pw_sections.specs.Parts.{front, sections}
use Rattle.pw_sections.specs.declared.heading.Heading.{Heading}
use Rattle.pw_sections.specs.declared.heading.Heading.TheVariants as heading
use Rattle.pw_server.specs.Servers.{server_of}
use Rattle.pw_server.specs.declared.server.Server.{Server}
use Rattle.pw_deck_tables.proofs.Commands.{and_then, Any, any_of}
use Rattle.pw_deck_tables.proofs.Good.{good_names, good_few}
use Rattle.pw_deck_tables.specs.Objects.{section_admitted}
use Rattle.pw_deck_tables.specs.Pieces.{section_line, section_text}
use Rattle.pw_deck_tables.specs.Tables.{with_entries}
use Rattle.pw_deck_tables.specs.Unknown.{tables_of, all_unknown, known, startable, fails_of, log_of, told_of}
use Rattle.pw_deck_tables.specs.declared.objects.Objects.{Objects}
use Rattle.pw_deck_tables.specs.declared.objects.TermEntries.{TermEntries}
use Rattle.pw_deck_tables.specs.declared.told.DeckTables.{DeckTables}
use Rattle.pw_words.specs.Words.{Word}
use Rattle.pw_deck.specs.Deck.{sized, end_found, links_of, deck_in, deck_of}
use Rattle.pw_deck.specs.Parts.{no_parts, has_requester, has_server, requester_section, server_section, with_objects, section_of, section_read, sections_read, front_read, parts_of, program_names, server_names}
use Rattle.pw_deck.specs.Sound.{AreTables, HasValidTables}
use Rattle.pw_deck.specs.declared.deck.ParsedDeck.{ParsedDeck}
use Rattle.pw_deck.specs.declared.parts.Parts.{Parts}
use Rattle.pw_deck.proofs.Good.{ArePartsGood, HasFile, heading_says, or_refused_says, parts_good}
use Rattle.pw_deck.proofs.Sound.{IsSound, nothing_sound, pathcom_sound, file_sound, entries_sound, fail_sound, log_sound}
use Rattle.pw_deck.proofs.Tabled.{all_known, all_served, terminals_are, classes_are, files_are}

-- what the sections say is sound
abbrev HasSound : Parts → Type 0
HasSound parts = IsSound parts.objects

requester_sound : (parts : Parts) (line : ℕ) (text : List ℕ) (name : Word) → HasSound parts → IfOk (requester_section parts line text name) HasSound
requester_sound parts line text name sound =
    and_then (section_admitted line (has_requester parts name) (nat_le most_programs (length parts.requesters))) _ Any HasSound (any_of (section_admitted line (has_requester parts name) (nat_le most_programs (length parts.requesters))))
    (λ done h. and_then (requester_of name text (line + 1)) _ Any HasSound (any_of (requester_of name text (line + 1))) (λ requester h. sound))

server_sound : (parts : Parts) (line : ℕ) (text : List ℕ) (name : Word) → HasSound parts → IfOk (server_section parts line text name) HasSound
server_sound parts line text name sound =
    and_then (section_admitted line (has_server parts name) (nat_le most_servers (length parts.servers))) _ Any HasSound (any_of (section_admitted line (has_server parts name) (nat_le most_servers (length parts.servers))))
    (λ done h. and_then (server_of name text (line + 1)) _ Any HasSound (any_of (server_of name text (line + 1))) (λ server h. sound))

with_sound : (parts : Parts) (read : Result Objects Fault) → IfOk read IsSound → IfOk (with_objects parts read) HasSound
with_sound parts read objects = and_then read _ IsSound HasSound objects (λ o s. s)

section_sound : (parts : Parts) (line : ℕ) (text : List ℕ) (heading : Heading) → HasFile heading → HasSound parts → IfOk (section_of parts line text heading) HasSound
section_sound parts line text heading.Pathcom has sound = with_sound parts _ (pathcom_sound parts.objects line text sound)
section_sound parts line text (heading.Requester name) has sound = requester_sound parts line text name sound
section_sound parts line text (heading.Server name) has sound = server_sound parts line text name sound
section_sound parts line text (heading.File name key) has sound = with_sound parts _ (file_sound parts.objects line text name key has.1 sound)
section_sound parts line text (heading.Entries name) has sound = with_sound parts _ (entries_sound parts.objects line text name sound)
section_sound parts line text heading.Fail has sound = with_sound parts _ (fail_sound parts.objects line text sound)
section_sound parts line text heading.Log has sound = with_sound parts _ (log_sound parts.objects line text sound)
section_sound parts line text heading.End has sound = sound

read_sound : (parts : Parts) (line : ℕ) (section : List ℕ) → HasSound parts → IfOk (section_read parts line section) HasSound
read_sound parts line section sound =
    and_then (or_refused line BadSection (heading_of (section_line section))) _ HasFile HasSound
    (or_refused_says line (heading_of (section_line section)) (heading_says (words (section_line section))))
    (λ heading has. section_sound parts line (section_text section) heading has sound)

all_sound : (parts : Parts) (line : ℕ) (all : List (List ℕ)) → HasSound parts → IfOk (sections_read parts line all) HasSound
unfolding sections_read
all_sound parts line [] sound = sound
all_sound parts line (section ∷ rest) sound =
    and_then (section_read parts line section) _ HasSound HasSound (read_sound parts line section sound)
    (λ next more. go next more (λ k. all_sound next k rest more) next.has_end)
  where
    go : (next : Parts) → HasSound next → ((k : ℕ) → IfOk (sections_read next k rest) HasSound) → (b : Bool)
        → IfOk (cond b (Ok next) (sections_read next (line + length (lines section)) rest)) HasSound
    go next more all true = more
    go next more all false = all (line + length (lines section))

-- both hold of what is read
pub both_ok : {A : Type 0} (P Q : A → Type 0) (r : Result A Fault) → IfOk r P → IfOk r Q → IfOk r (λ a. P a × Q a)
both_ok P Q (Ok a) p q = (p, q)
both_ok P Q (Err fault) p q = tt

parts_sound : (bytes : List ℕ) → IfOk (parts_of bytes) (λ parts. ArePartsGood parts × HasSound parts)
parts_sound bytes =
    both_ok ArePartsGood HasSound (parts_of bytes) (parts_good bytes)
    (and_then (front_read (front bytes)) _ Any HasSound (any_of (front_read (front bytes)))
    (λ done h. all_sound no_parts (1 + length (lines (front bytes))) (sections bytes) nothing_sound))

-- no name of what is not there
none_unknown : (faults : List Fault) → IfOk (unless (least None faults) (tt {0})) (λ done. faults ≡ [])
none_unknown faults = go (least None faults) refl
  where
    go : (o : Option Fault) → least None faults ≡ o → IfOk (unless o (tt {0})) (λ done. faults ≡ [])
    go None is = least-none faults is
    go (Some fault) is = tt

-- the tables of what is told
abbrev IsTold : Objects → List Word → List Word → DeckTables → Type 0
IsTold objects programs servers told = (unknown objects.commands programs servers ≡ []) × (told.system ≡ record (tables_of objects programs servers ReadersShare) { terminals = map (with_entries objects.entries) (tables_of objects programs servers ReadersShare).terminals })

told_is : (objects : Objects) (programs servers : List Word) → IfOk (told_of objects programs servers) (IsTold objects programs servers)
told_is objects programs servers =
    and_then (known objects programs servers) _ (λ done. all_unknown objects programs servers ≡ []) (IsTold objects programs servers) (none_unknown (all_unknown objects programs servers))
    (λ done none. and_then (startable objects) _ Any (IsTold objects programs servers) (any_of (startable objects))
    (λ done h. and_then (fails_of objects programs servers) _ Any (IsTold objects programs servers) (any_of (fails_of objects programs servers))
    (λ fails h. and_then (log_of objects programs servers) _ Any (IsTold objects programs servers) (any_of (log_of objects programs servers))
    (λ events h. ((append-none (unknown objects.commands programs servers) _ none).0, refl)))))

terminal_names : (sections : List TermEntries) (ts : List TermInfo) → map (λ t. t.name) (map (with_entries sections) ts) ≡ map (λ t. t.name) ts
terminal_names sections [] = refl
terminal_names sections (t ∷ ts) = ap (λ ns. t.name ∷ ns) (terminal_names sections ts)

has_tables : (parts : Parts) (told : DeckTables) → ArePartsGood parts → HasSound parts → IsTold parts.objects (program_names parts) (server_names parts) told
    → HasValidTables (record { told = told; requesters = parts.requesters; servers = parts.servers })
has_tables parts told good sound is programs servers screens sources serving shown =
    let objects = parts.objects in
    let first = program_names parts in
    let second = server_names parts in
    let plain = tables_of objects first second ReadersShare in
    let P : System → Type 0 = λ system. AreTables (record system { programs = programs; servers = servers; screens = screens }) in
    let system : System = record plain { programs = programs; servers = servers; screens = screens; terminals = map (with_entries objects.entries) plain.terminals } in
    let unknowns = append-none (flat_map (unknown_terminal objects.commands first) objects.commands.terminals) (flat_map (unknown_class second) objects.commands.classes) is.0 in
    let firsts : length programs ≡ length first = sources ∙ sym (length-map parts.requesters (λ (r : Requester). r.name)) in
    let seconds : length servers ≡ length second = serving ∙ sym (length-map parts.servers (λ (s : Server). s.name)) in
    let names = good_names objects first second good.objects ReadersShare in
    let few = good_few objects first second good.objects ReadersShare in
    subst P (sym is.1) (record {
      terminals = All-from_recursion (IsTerminal system) system.terminals (terminals_are system objects.commands first objects.entries objects.commands.terminals (length-map objects.commands.tcps (λ (tcp : Started). tcp.name)) firsts
          (all_known objects.commands first objects.commands.terminals unknowns.0) sound.commands.terminals sound.entries);
      classes = All-from_recursion (IsClass system) system.classes (classes_are system second objects.commands.classes seconds (all_served second objects.commands.classes unknowns.1) sound.commands.classes);
      files = All-from_recursion _ objects.files (files_are objects.files sound.files);
      names = record {
        tcps = names.tcps;
        terminals = rw (terminal_names objects.entries plain.terminals) names.terminals;
        classes = names.classes;
        files = names.files;
      };
      few = record {
        programs = omega (arith, sources, good.requesters);
        servers = omega (arith, serving, good.servers);
        screens = shown;
        classes = few.classes;
        files = few.files;
        tcps = few.tcps;
        terminals = omega (arith, few.terminals, length-map plain.terminals (with_entries objects.entries));
      };
    })

in_tables : (bytes : List ℕ) (parts : Parts) → ArePartsGood parts → HasSound parts → IfOk (deck_in bytes parts) HasValidTables
in_tables bytes parts good sound =
    and_then (end_found bytes parts.has_end) _ Any HasValidTables (any_of (end_found bytes parts.has_end))
    (λ done h. and_then (names_of parts.requesters parts.servers (links_of parts)) _ Any HasValidTables (any_of (names_of parts.requesters parts.servers (links_of parts)))
    (λ done h. and_then (told_of parts.objects (program_names parts) (server_names parts)) _ (IsTold parts.objects (program_names parts) (server_names parts)) HasValidTables
    (told_is parts.objects (program_names parts) (server_names parts)) (λ told is. has_tables parts told good sound is)))

-- a deck without a fault has the tables of a valid system
pub deck_tables : (bytes : List ℕ) → IfOk (deck_of bytes) HasValidTables
deck_tables bytes =
    and_then (sized bytes) _ Any HasValidTables (any_of (sized bytes))
    (λ done h. and_then (parts_of bytes) _ (λ parts. ArePartsGood parts × HasSound parts) HasValidTables (parts_sound bytes) (λ parts fine. in_tables bytes parts fine.0 fine.1))

-- the same of a deck that was read
pub read_tables : (bytes : List ℕ) (read : Result ParsedDeck Refusal) → Gives (λ (deck : ParsedDeck). deck) read (deck_of bytes) → IfOk read HasValidTables
read_tables bytes (Ok deck) is = subst (λ (r : Result ParsedDeck Fault). IfOk r HasValidTables) is (deck_tables bytes)
read_tables bytes (Err refusal) is = tt

-- what is left to be looked at once the sections are read
pub read_rest : (bytes : List ℕ) (parts : Parts) → length bytes ≤ longest_input → parts_of bytes ≡ Ok parts → deck_of bytes ≡ deck_in bytes parts
read_rest bytes parts few is =
    ap (λ b. cond b (refused 0 InputTooLong) (Ok (tt {0})) >>= (λ (done : Unit {0}). parts_of bytes >>= deck_in bytes)) (le-ltb longest_input (length bytes) few)
    ∙ ap (λ r. r >>= deck_in bytes) is
