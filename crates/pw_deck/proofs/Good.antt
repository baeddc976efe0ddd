-- What the sections of a deck say has names, and there is not too much of it.
use Rattle.std.proofs.Common.{◌≡◌, ℕ, ◌+◌, ◌≤◌, Bool, true, false, cond, List, [], ◌∷◌, length, Option, None, Some, Result, Ok, IfOk, refl, subst, arith}
use Rattle.std.specs.Prelude.{◌&&◌, nat_le, codes}
use Rattle.std.specs.Str.{str_to_ascii_uppercase}
use Rattle.std.proofs.lemmas.Bool.{and_parts, leb-true}
use Rattle.pw_base.specs.Lengths.{IsKeyLength}
use Rattle.pw_base.specs.declared.fault.Fault.{Fault}
use Rattle.pw_base.specs.declared.fault_code.FaultCode.TheVariants.{BadSection}
use Rattle.pw_code.specs.Limits.{most_programs, most_servers}
use Rattle.pw_code.specs.Names.{IsName, may_name}
use Rattle.pw_sections.specs.Lines.{lines}
use Rattle.pw_sections.specs.Steps.{or_refused}
use Rattle.pw_sections.specs.Words.{words, name_in, word_number}
use Rattle.pw_scobol.specs.Requesters.{requester_of}
use Rattle.pw_sections.specs.Headings.{plain_heading, named_heading, keyed_heading, file_heading, heading_by, heading_of}
use Rattle.pw_sections.specs.Parts.{front, sections}
use Rattle.pw_sections.specs.declared.heading.Heading.{Heading}
use Rattle.pw_sections.specs.declared.heading.Heading.TheVariants as heading
use Rattle.pw_server.specs.Servers.{server_of}
use Rattle.pw_deck_tables.proofs.Commands.{and_then, Any, any_of, more_few}
use Rattle.pw_deck_tables.proofs.Good.{IsGood, no_objects_good, IsOneMore, one_more_is, pathcom_good, file_good, entries_good, fail_good, log_good}
use Rattle.pw_deck_tables.specs.Objects.{section_admitted}
use Rattle.pw_deck_tables.specs.Pieces.{section_line, section_text}
use Rattle.pw_deck_tables.specs.declared.objects.Objects.{Objects}
use Rattle.pw_words.specs.Words.{Word, same_word}
use Rattle.pw_deck.specs.Parts.{no_parts, has_requester, has_server, requester_section, server_section, with_objects, section_of, section_read, sections_read, front_read, parts_of}
use Rattle.pw_deck.specs.declared.parts.Parts.{Parts}

-- the name of a file is a name, and its keys have a length that they may have
abbrev pub HasFile : Heading → Type 0
HasFile heading.Pathcom = Unit {0}
HasFile (heading.Requester name) = Unit {0}
HasFile (heading.Server name) = Unit {0}
HasFile (heading.File name key) = IsName name × IsKeyLength key
HasFile (heading.Entries name) = Unit {0}
HasFile heading.Fail = Unit {0}
HasFile heading.Log = Unit {0}
HasFile heading.End = Unit {0}

abbrev pub Says : Option Heading → Type 0
Says None = Unit {0}
Says (Some heading) = HasFile heading

plain_says : (word : Word) → Says (plain_heading word)
plain_says word = go (same_word word (codes "?PATHCOM")) (same_word word (codes "?FAIL")) (same_word word (codes "?LOG")) (same_word word (codes "?END"))
  where
    go : (a b c d : Bool) → Says (cond a (Some heading.Pathcom) (cond b (Some heading.Fail) (cond c (Some heading.Log) (cond d (Some heading.End) None))))
    go true b c d = tt
    go false true c d = tt
    go false false true d = tt
    go false false false true = tt
    go false false false false = tt

named_says : (word : Word) (name : Option Word) → Says (named_heading word name)
named_says word None = tt
named_says word (Some name) = go (same_word word (codes "?SCREEN-COBOL")) (same_word word (codes "?SERVER")) (same_word word (codes "?ENTRIES"))
  where
    go : (a b c : Bool) → Says (cond a (Some (heading.Requester name)) (cond b (Some (heading.Server name)) (cond c (Some (heading.Entries name)) None)))
    go true b c = tt
    go false true c = tt
    go false false true = tt
    go false false false = tt

keyed_says : (name : Word) (key : ℕ) → IsName name → Says (keyed_heading name key)
keyed_says name key is = go (nat_le 1 key && nat_le key 255) refl
  where
    go : (b : Bool) → (nat_le 1 key && nat_le key 255) ≡ b → Says (cond b (Some (heading.File name key)) None)
    go true fits = let both = and_parts (nat_le 1 key) (nat_le key 255) fits in (is, (leb-true 1 key both.0, leb-true key 255 both.1))
    go false fits = tt

file_says : (is_file : Bool) (word : Word) (key : Option ℕ) → Says (file_heading is_file (name_in word) key)
file_says is_file word key = go (may_name word) refl is_file key
  where
    go : (b : Bool) → may_name word ≡ b → (f : Bool) (k : Option ℕ) → Says (file_heading f (cond b (Some (str_to_ascii_uppercase word)) None) k)
    go true is true (Some k) = keyed_says (str_to_ascii_uppercase word) k is
    go true is true None = tt
    go true is false k = tt
    go false is true k = tt
    go false is false k = tt

pub heading_says : (ws : List Word) → Says (heading_by ws)
heading_says [] = tt
heading_says (word ∷ []) = plain_says word
heading_says (word ∷ name ∷ []) = named_says word (name_in name)
heading_says (word ∷ name ∷ key ∷ []) = tt
heading_says (word ∷ name ∷ key ∷ number ∷ []) = file_says (same_word word (codes "?FILE") && same_word key (codes "KEY")) name (word_number number)
heading_says (word ∷ name ∷ key ∷ number ∷ more ∷ rest) = tt

pub or_refused_says : (line : ℕ) (heading : Option Heading) → Says heading → IfOk (or_refused line BadSection heading) HasFile
or_refused_says line None says = tt
or_refused_says line (Some heading) says = says

-- the names are names, and there are not too many of each kind
pub record ArePartsGood (parts : Parts) : Type 0 where
  pub objects : IsGood parts.objects
  pub requesters : length parts.requesters ≤ most_programs
  pub servers : length parts.servers ≤ most_servers

requester_good : (parts : Parts) (line : ℕ) (text : List ℕ) (name : Word) → ArePartsGood parts → IfOk (requester_section parts line text name) ArePartsGood
requester_good parts line text name good =
    and_then (section_admitted line (has_requester parts name) (nat_le most_programs (length parts.requesters))) _ (IsOneMore (has_requester parts name) (nat_le most_programs (length parts.requesters))) ArePartsGood
    (one_more_is line (has_requester parts name) (nat_le most_programs (length parts.requesters)))
    (λ done more. and_then (requester_of name text (line + 1)) _ Any ArePartsGood (any_of (requester_of name text (line + 1)))
    (λ requester h. record { objects = good.objects; requesters = more_few parts.requesters requester most_programs more.room; servers = good.servers }))

server_good : (parts : Parts) (line : ℕ) (text : List ℕ) (name : Word) → ArePartsGood parts → IfOk (server_section parts line text name) ArePartsGood
server_good parts line text name good =
    and_then (section_admitted line (has_server parts name) (nat_le most_servers (length parts.servers))) _ (IsOneMore (has_server parts name) (nat_le most_servers (length parts.servers))) ArePartsGood
    (one_more_is line (has_server parts name) (nat_le most_servers (length parts.servers)))
    (λ done more. and_then (server_of name text (line + 1)) _ Any ArePartsGood (any_of (server_of name text (line + 1)))
    (λ server h. record { objects = good.objects; requesters = good.requesters; servers = more_few parts.servers server most_servers more.room }))

with_good : (parts : Parts) (read : Result Objects Fault) → ArePartsGood parts → IfOk read IsGood → IfOk (with_objects parts read) ArePartsGood
with_good parts read good objects =
    and_then read _ IsGood ArePartsGood objects (λ o g. record { objects = g; requesters = good.requesters; servers = good.servers })

section_good : (parts : Parts) (line : ℕ) (text : List ℕ) (heading : Heading) → HasFile heading → ArePartsGood parts → IfOk (section_of parts line text heading) ArePartsGood
section_good parts line text heading.Pathcom has good = with_good parts _ good (pathcom_good parts.objects line text good.objects)
section_good parts line text (heading.Requester name) has good = requester_good parts line text name good
section_good parts line text (heading.Server name) has good = server_good parts line text name good
section_good parts line text (heading.File name key) has good = with_good parts _ good (file_good parts.objects line text name key has.0 good.objects)
section_good parts line text (heading.Entries name) has good = with_good parts _ good (entries_good parts.objects line text name good.objects)
section_good parts line text heading.Fail has good = with_good parts _ good (fail_good parts.objects line text good.objects)
section_good parts line text heading.Log has good = with_good parts _ good (log_good parts.objects line text good.objects)
section_good parts line text heading.End has good = record { objects = good.objects; requesters = good.requesters; servers = good.servers }

read_good : (parts : Parts) (line : ℕ) (section : List ℕ) → ArePartsGood parts → IfOk (section_read parts line section) ArePartsGood
read_good parts line section good =
    and_then (or_refused line BadSection (heading_of (section_line section))) _ HasFile ArePartsGood
    (or_refused_says line (heading_of (section_line section)) (heading_says (words (section_line section))))
    (λ heading has. section_good parts line (section_text section) heading has good)

all_good : (parts : Parts) (line : ℕ) (all : List (List ℕ)) → ArePartsGood parts → IfOk (sections_read parts line all) ArePartsGood
unfolding sections_read
all_good parts line [] good = good
all_good parts line (section ∷ rest) good =
    and_then (section_read parts line section) _ ArePartsGood ArePartsGood (read_good parts line section good)
    (λ next more. go next more (λ k. all_good next k rest more) next.has_end)
  where
    go : (next : Parts) → ArePartsGood next → ((k : ℕ) → IfOk (sections_read next k rest) ArePartsGood) → (b : Bool)
        → IfOk (cond b (Ok next) (sections_read next (line + length (lines section)) rest)) ArePartsGood
    go next more all true = more
    go next more all false = all (line + length (lines section))

-- what the sections of a deck say is good
pub parts_good : (bytes : List ℕ) → IfOk (parts_of bytes) ArePartsGood
parts_good bytes =
    and_then (front_read (front bytes)) _ Any ArePartsGood (any_of (front_read (front bytes)))
    (λ done h. all_good no_parts (1 + length (lines (front bytes))) (sections bytes) (record { objects = no_objects_good; requesters = omega arith; servers = omega arith }))

-- the same of the parts that were read
pub parts_are : (bytes : List ℕ) (parts : Parts) → parts_of bytes ≡ Ok parts → ArePartsGood parts
parts_are bytes parts is = go (parts_of bytes) is (parts_good bytes)
  where
    go : (r : Result Parts Fault) → r ≡ Ok parts → IfOk r ArePartsGood → ArePartsGood parts
    go r same h = subst (λ s. IfOk s ArePartsGood) same h
