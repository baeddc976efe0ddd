-- What is looked at once the sections of a deck are read, step by step.
use Rattle.std.proofs.Common.{◌≡◌, ℕ, ◌≤◌, ◌^◌, List, length, Result, Ok, sym, ap, subst, ◌∙◌, arith}
use Rattle.std.proofs.lemmas.List.{length-map}
use Rattle.pw_base.specs.First.{Refuses}
use Rattle.pw_base.specs.declared.fault.Fault.{Fault}
use Rattle.pw_base.specs.declared.fault.Refusal.{Refusal}
use Rattle.pw_code.specs.declared.links.Links.{Links}
use Rattle.pw_sections.specs.Steps.{◌>>=◌}
use Rattle.pw_sections.proofs.Steps.{refuses_on}
use Rattle.pw_names.specs.Names.{names_of}
use Rattle.pw_scobol.specs.declared.requester.Requester.{Requester}
use Rattle.pw_server.specs.declared.server.Server.{Server}
use Rattle.pw_deck_tables.specs.Tables.{class_names}
use Rattle.pw_deck_tables.specs.Unknown.{told_of}
use Rattle.pw_deck_tables.specs.declared.told.DeckTables.{DeckTables}
use Rattle.pw_words.specs.Words.{Word}
use Rattle.pw_deck.specs.Deck.{end_found, links_of, deck_in}
use Rattle.pw_deck.specs.Parts.{program_names, server_names, parts_of}
use Rattle.pw_deck.specs.declared.deck.ParsedDeck.{ParsedDeck}
use Rattle.pw_deck.specs.declared.parts.Parts.{Parts}
use Rattle.pw_deck.proofs.Good.{parts_are}

-- the deck of what is told
abbrev deck_with : Parts → DeckTables → Result ParsedDeck Fault
deck_with parts told = Ok (record { told = told; requesters = parts.requesters; servers = parts.servers })

abbrev telling : Parts → Result ParsedDeck Fault
telling parts = told_of parts.objects (program_names parts) (server_names parts) >>= deck_with parts

abbrev naming : Parts → Links → Result ParsedDeck Fault
naming parts links = names_of parts.requesters parts.servers links >>= (λ (done : Unit {0}). telling parts)

abbrev links_with : Parts → List Word → List Word → Links
links_with parts programs classes = record { programs = programs; classes = classes; files = parts.objects.files }

links_are : (parts : Parts) (programs classes : List Word) → programs ≡ program_names parts → classes ≡ class_names parts.objects.commands
    → naming parts (links_of parts) ≡ naming parts (links_with parts programs classes)
links_are parts programs classes first second =
    ap (λ w. naming parts (links_with parts w (class_names parts.objects.commands))) (sym first) ∙ ap (λ w. naming parts (links_with parts programs w)) (sym second)

-- where the end is found, the names are looked up
looked : (bytes : List ℕ) (parts : Parts) (done : Unit {0}) (programs classes : List Word) → end_found bytes parts.has_end ≡ Ok done → programs ≡ program_names parts → classes ≡ class_names parts.objects.commands
    → deck_in bytes parts ≡ naming parts (links_with parts programs classes)
looked bytes parts done programs classes ended first second =
    ap (λ r. r >>= (λ (done : Unit {0}). naming parts (links_of parts))) ended ∙ links_are parts programs classes first second

-- what the names were looked up in
pub record Looked (bytes : List ℕ) (parts : Parts) (rs : List Requester) (ss : List Server) (links : Links) : Type 0 where
  pub done : Unit {0}
  pub ended : end_found bytes parts.has_end ≡ Ok done
  pub requesters : rs ≡ parts.requesters
  pub servers : ss ≡ parts.servers
  pub programs : links.programs ≡ program_names parts
  pub classes : links.classes ≡ class_names parts.objects.commands
  pub files : links.files ≡ parts.objects.files

named_is : (bytes : List ℕ) (parts : Parts) (rs : List Requester) (ss : List Server) (links : Links) → Looked bytes parts rs ss links
    → names_of rs ss links ≡ names_of parts.requesters parts.servers (links_with parts links.programs links.classes)
named_is bytes parts rs ss links l =
    ap (λ x. names_of x ss links) l.requesters ∙ ap (λ x. names_of parts.requesters x links) l.servers
    ∙ ap (λ x. names_of parts.requesters parts.servers (record { programs = links.programs; classes = links.classes; files = x })) l.files

-- a name that stands for nothing is refused
pub names_refused : (refusal : Refusal) (bytes : List ℕ) (parts : Parts) (rs : List Requester) (ss : List Server) (links : Links) → Looked bytes parts rs ss links
    → Refuses refusal (names_of rs ss links) → Refuses refusal (deck_in bytes parts)
names_refused refusal bytes parts rs ss links l refuses =
    let P : Result ParsedDeck Fault → Type 0 = λ r. Refuses refusal r in
    let N : Result (Unit {0}) Fault → Type 0 = λ r. Refuses refusal r in
    subst P (sym (looked bytes parts l.done links.programs links.classes l.ended l.programs l.classes))
    (refuses_on refusal (names_of parts.requesters parts.servers (links_with parts links.programs links.classes)) (λ (done : Unit {0}). telling parts)
    (subst N (named_is bytes parts rs ss links l) refuses))

-- where all names stand for something, it is what is told
told_then : (bytes : List ℕ) (parts : Parts) (rs : List Requester) (ss : List Server) (links : Links) (more : Unit {0}) (programs servers : List Word) → Looked bytes parts rs ss links
    → names_of rs ss links ≡ Ok more → programs ≡ program_names parts → servers ≡ server_names parts
    → deck_in bytes parts ≡ (told_of parts.objects programs servers >>= deck_with parts)
told_then bytes parts rs ss links more programs servers l named first third =
    looked bytes parts l.done links.programs links.classes l.ended l.programs l.classes
    ∙ ap (λ r. r >>= (λ (done : Unit {0}). telling parts)) (sym (named_is bytes parts rs ss links l) ∙ named)
    ∙ ap (λ w. told_of parts.objects w (server_names parts) >>= deck_with parts) (sym first)
    ∙ ap (λ w. told_of parts.objects programs w >>= deck_with parts) (sym third)

pub told_refused : (refusal : Refusal) (bytes : List ℕ) (parts : Parts) (rs : List Requester) (ss : List Server) (links : Links) (more : Unit {0}) (programs servers : List Word)
    → Looked bytes parts rs ss links → names_of rs ss links ≡ Ok more → programs ≡ program_names parts → servers ≡ server_names parts
    → Refuses refusal (told_of parts.objects programs servers) → Refuses refusal (deck_in bytes parts)
told_refused refusal bytes parts rs ss links more programs servers l named first third refuses =
    let P : Result ParsedDeck Fault → Type 0 = λ r. Refuses refusal r in
    subst P (sym (told_then bytes parts rs ss links more programs servers l named first third))
    (refuses_on refusal (told_of parts.objects programs servers) (deck_with parts) refuses)

pub deck_told : (bytes : List ℕ) (parts : Parts) (rs : List Requester) (ss : List Server) (links : Links) (more : Unit {0}) (programs servers : List Word) (told : DeckTables)
    → Looked bytes parts rs ss links → names_of rs ss links ≡ Ok more → programs ≡ program_names parts → servers ≡ server_names parts
    → told_of parts.objects programs servers ≡ Ok told → deck_in bytes parts ≡ Ok (record { told = told; requesters = parts.requesters; servers = parts.servers })
deck_told bytes parts rs ss links more programs servers told l named first third is =
    told_then bytes parts rs ss links more programs servers l named first third ∙ ap (λ r. r >>= deck_with parts) is

-- there are not too many programs
pub few_programs : (bytes : List ℕ) (parts : Parts) (programs servers : List Word) → parts_of bytes ≡ Ok parts → programs ≡ program_names parts → servers ≡ server_names parts
    → (length programs ≤ 2 ^ 32) × (length servers ≤ 2 ^ 32)
few_programs bytes parts programs servers is first second =
    let good = parts_are bytes parts is in (
      omega (arith, ap length first, length-map parts.requesters (λ (r : Requester). r.name), good.requesters),
      omega (arith, ap length second, length-map parts.servers (λ (s : Server). s.name), good.servers),
    )
