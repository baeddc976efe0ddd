-- The section lines.
use Rattle.std.specs.Prelude.{ℕ, List, [], ◌∷◌, Bool, true, ◌&&◌, nat_le, codes, Option, None, Some, if◌then◌else◌}
use Rattle.pw_sections.specs.Words.{words, name_in, word_number}
use Rattle.pw_words.specs.Words.{Word, same_word}
use Rattle.pw_sections.specs.declared.heading.Heading.{Heading}
use Rattle.pw_sections.specs.declared.heading.Heading.TheVariants as heading

-- a section line of one word
abbrev pub plain_heading : Word → Option Heading
plain_heading word =
    if same_word word (codes "?PATHCOM") then Some heading.Pathcom
    else (if same_word word (codes "?FAIL") then Some heading.Fail
    else (if same_word word (codes "?LOG") then Some heading.Log
    else (if same_word word (codes "?END") then Some heading.End else None)))

-- a section line of a word and a name
abbrev pub named_heading : Word → Option Word → Option Heading
named_heading word None = None
named_heading word (Some name) =
    if same_word word (codes "?SCREEN-COBOL") then Some (heading.Requester name)
    else (if same_word word (codes "?SERVER") then Some (heading.Server name)
    else (if same_word word (codes "?ENTRIES") then Some (heading.Entries name) else None))

-- the key's length may be from 1 to 255
abbrev pub keyed_heading : Word → ℕ → Option Heading
keyed_heading name key = if nat_le 1 key && nat_le key 255 then Some (heading.File name key) else None

-- a section line of a file, by its name and its key's length
abbrev pub file_heading : Bool → Option Word → Option ℕ → Option Heading
file_heading true (Some name) (Some key) = keyed_heading name key
file_heading _ _ _ = None

-- the section line of these words; none where they are none
abbrev pub heading_by : List Word → Option Heading
heading_by (word ∷ []) = plain_heading word
heading_by (word ∷ name ∷ []) = named_heading word (name_in name)
heading_by (word ∷ name ∷ key ∷ number ∷ []) =
    file_heading (same_word word (codes "?FILE") && same_word key (codes "KEY")) (name_in name) (word_number number)
heading_by _ = None

-- what a section line says; none where it says nothing
abbrev pub heading_of : List ℕ → Option Heading
heading_of line = heading_by (words line)
