-- What the sections of a deck say, one after the other.
use Rattle.std.specs.Prelude.{ℕ, ◌+◌, List, [], ◌∷◌, ◌++◌, length, map, Bool, true, false, nat_le, Result, Ok, if◌then◌else◌}
use Rattle.std.specs.List.{list_any}
use Rattle.std.specs.Str.{bytes_eq}
use Rattle.pw_base.specs.declared.fault.Fault.{Fault}
use Rattle.pw_base.specs.declared.fault_code.FaultCode.TheVariants.{BadSection}
use Rattle.pw_code.specs.Limits.{most_programs, most_servers}
use Rattle.pw_sections.specs.Lines.{lines}
use Rattle.pw_sections.specs.Steps.{◌>>=◌, refused, or_refused, each_line}
use Rattle.pw_scobol.specs.Requesters.{requester_of}
use Rattle.pw_sections.specs.Headings.{heading_of}
use Rattle.pw_sections.specs.Parts.{front, sections}
use Rattle.pw_sections.specs.declared.heading.Heading.{Heading}
use Rattle.pw_sections.specs.declared.heading.Heading.TheVariants as heading
use Rattle.pw_server.specs.Servers.{server_of}
use Rattle.pw_deck_tables.specs.Objects.{no_objects, section_admitted, pathcom_section, file_section, entries_section, fail_section, log_section}
use Rattle.pw_deck_tables.specs.Pieces.{section_line, section_text}
use Rattle.pw_deck_tables.specs.declared.objects.Objects.{Objects}
use Rattle.pw_words.specs.Words.{Word}
use Rattle.pw_deck.specs.declared.parts.Parts.{Parts}

-- a deck before its first section
abbrev pub no_parts : Parts
no_parts = record { requesters = []; servers = []; objects = no_objects; has_end = false }

-- a program of this name stands already
abbrev pub has_requester : Parts → Word → Bool
has_requester parts name = list_any (λ requester. bytes_eq requester.name name) parts.requesters

-- a server of this name was read
abbrev pub has_server : Parts → Word → Bool
has_server parts name = list_any (λ server. bytes_eq server.name name) parts.servers

-- a requester
abbrev pub requester_section : Parts → ℕ → List ℕ → Word → Result Parts Fault
requester_section parts line text name = do
  done ← section_admitted line (has_requester parts name) (nat_le most_programs (length parts.requesters))
  requester ← requester_of name text (line + 1)
  Ok (record parts { requesters = parts.requesters ++ requester ∷ [] })

-- a server
abbrev pub server_section : Parts → ℕ → List ℕ → Word → Result Parts Fault
server_section parts line text name = do
  done ← section_admitted line (has_server parts name) (nat_le most_servers (length parts.servers))
  server ← server_of name text (line + 1)
  Ok (record parts { servers = parts.servers ++ server ∷ [] })

-- a section that is no source
abbrev pub with_objects : Parts → Result Objects Fault → Result Parts Fault
with_objects parts read = read >>= (λ objects. Ok (record parts { objects = objects }))

-- a section, by what its section line says
abbrev pub section_of : Parts → ℕ → List ℕ → Heading → Result Parts Fault
section_of parts line text heading.Pathcom = with_objects parts (pathcom_section parts.objects line text)
section_of parts line text (heading.Requester name) = requester_section parts line text name
section_of parts line text (heading.Server name) = server_section parts line text name
section_of parts line text (heading.File name key) = with_objects parts (file_section parts.objects line text name key)
section_of parts line text (heading.Entries name) = with_objects parts (entries_section parts.objects line text name)
section_of parts line text heading.Fail = with_objects parts (fail_section parts.objects line text)
section_of parts line text heading.Log = with_objects parts (log_section parts.objects line text)
section_of parts line text heading.End = Ok (record parts { has_end = true })

-- a section with its section line, which has a number
abbrev pub section_read : Parts → ℕ → List ℕ → Result Parts Fault
section_read parts line section =
    or_refused line BadSection (heading_of (section_line section)) >>= section_of parts line (section_text section)

-- sections one after the other, up to the end of the deck; what follows it is not read
unfoldable pub sections_read : Parts → ℕ → List (List ℕ) → Result Parts Fault
sections_read parts line [] = Ok parts
sections_read parts line (section ∷ rest) =
    section_read parts line section
    >>= (λ next. if next.has_end then Ok next else sections_read next (line + length (lines section)) rest)

-- no line with a word stands before the first section line
abbrev pub front_line : ℕ → Unit {0} → List ℕ → Result (Unit {0}) Fault
front_line number done line = refused number BadSection

-- the lines in front of the first section, each without a word
abbrev pub front_read : List ℕ → Result (Unit {0}) Fault
front_read text = each_line front_line 1 (tt {0}) (lines text)

-- what the sections of a deck say, or the first fault of the first section that has one
abbrev pub parts_of : List ℕ → Result Parts Fault
parts_of bytes =
    front_read (front bytes) >>= (λ done. sections_read no_parts (1 + length (lines (front bytes))) (sections bytes))

-- the names of the programs of terminals, and of those of servers
abbrev pub program_names : Parts → List Word
program_names parts = map (λ requester. requester.name) parts.requesters

-- the names of the servers, in their order
abbrev pub server_names : Parts → List Word
server_names parts = map (λ server. server.name) parts.servers
