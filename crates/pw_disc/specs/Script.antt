-- The disc script of a deck: the lines behind the one that ends it.
use Rattle.std.specs.Prelude.{ℕ, ◌+◌, List, [], ◌∷◌, ◌++◌, length, take, drop, codes, Bool, true, false, ◌&&◌, ◌==◌, nat_le, Option, None, Some, option_map, Result, Ok, if◌then◌else◌}
use Rattle.std.specs.Str.{bytes_eq}
use Rattle.pw_base.specs.Characters.{digit_zero, question_mark}
use Rattle.pw_base.specs.declared.fault.Fault.{Fault}
use Rattle.pw_base.specs.declared.fault_code.FaultCode.TheVariants.{BadFailureLine, TooMany}
use Rattle.pw_code.specs.Limits.{most_after}
use Rattle.pw_disc.specs.declared.script.DiscLine.{DiscLine}
use Rattle.pw_disc.specs.declared.script.DiscLine.TheVariants.{Primary, Held, Backup}
use Rattle.pw_sections.specs.Lines.{lines}
use Rattle.pw_sections.specs.Steps.{◌>>=◌, refused, or_refused, each_line}
use Rattle.pw_sections.specs.Words.{word_number}
use Rattle.pw_sections.specs.Headings.{heading_of}
use Rattle.pw_sections.specs.declared.heading.Heading.{Heading}
use Rattle.pw_sections.specs.declared.heading.Heading.TheVariants.{End}

-- a zero stands before other digits
abbrev pub has_leading_zero : List ℕ → Bool
has_leading_zero (b ∷ (c ∷ rest)) = b == digit_zero
has_leading_zero _ = false

-- the number, where it is 0 to 500,000
abbrev pub within : Option ℕ → Option ℕ
within None = None
within (Some n) = if nat_le n most_after then Some n else None

-- the number that a word is, which has no leading zeros
abbrev pub after_in : List ℕ → Option ℕ
after_in word = if has_leading_zero word then None else within (word_number word)

-- what stands behind a text, where the line begins with it
abbrev pub behind_prefix : List ℕ → List ℕ → Option (List ℕ)
behind_prefix text line = if bytes_eq (take (length text) line) text then Some (drop (length text) line) else None

-- the number that a word is, if there is one
abbrev pub script_word_number : Option (List ℕ) → Option ℕ
script_word_number None = None
script_word_number (Some word) = after_in word

-- the number behind a text, where the line begins with it
unfoldable pub number_behind : List ℕ → List ℕ → Option ℕ
number_behind text line = script_word_number (behind_prefix text line)

-- the first of two, where it is there
abbrev pub or_else : Option DiscLine → Option DiscLine → Option DiscLine
or_else None other = other
or_else (Some line) other = Some line

-- what a line says
unfoldable pub disc_line_in : List ℕ → Option DiscLine
disc_line_in line =
    or_else (option_map Primary (number_behind (codes "DISC PRIMARY AFTER ") line))
    (or_else (option_map Held (number_behind (codes "DISC PRIMARY HELD ") line))
    (option_map Backup (number_behind (codes "DISC BACKUP AFTER ") line)))

-- A line is read behind the others: the 65th is refused, and else one that says nothing.
abbrev pub disc_line_read : ℕ → List DiscLine → List ℕ → Result (List DiscLine) Fault
disc_line_read number own line =
    if nat_le 64 (length own) then refused number TooMany
    else or_refused number BadFailureLine (disc_line_in line) >>= (λ next. Ok (own ++ next ∷ []))

-- it ends a deck
abbrev pub is_deck_end : Option Heading → Bool
is_deck_end (Some End) = true
is_deck_end _ = false

-- a section line begins with `?`
abbrev pub begins_section : List ℕ → Bool
begins_section [] = false
begins_section (b ∷ rest) = b == question_mark

-- the line ends a deck
unfoldable pub ends_deck : List ℕ → Bool
ends_deck line = begins_section line && is_deck_end (heading_of line)

-- the lines behind the first that ends the deck, with the number of the first of them
pub record LinesBehindDeck : Type 0 where
  pub first_line : ℕ
  pub lines : List (List ℕ)

unfoldable pub behind_end : ℕ → List (List ℕ) → LinesBehindDeck
behind_end number [] = record { first_line = number; lines = [] }
behind_end number (line ∷ rest) =
    if ends_deck line then record { first_line = number + 1; lines = rest } else behind_end (number + 1) rest

-- the lines of a script
abbrev pub script_in : LinesBehindDeck → Result (List DiscLine) Fault
script_in own = each_line disc_line_read own.first_line [] own.lines

-- the lines of the disc script of a deck's text
abbrev pub script_of : List ℕ → Result (List DiscLine) Fault
script_of text = script_in (behind_end 1 (lines text))
