-- The generated deck.
use Rattle.std.specs.Prelude.{ℕ, zero, suc, ◌+◌, ◌*◌, ◌/◌, ◌%◌, ◌==◌, List, [], ◌∷◌, ◌++◌, codes, if◌then◌else◌}
use Rattle.std.specs.Fmt.{decimal}
use Rattle.pw_base.specs.Characters.{digit_zero, line_feed}
use Rattle.pw_gen.specs.Parts.{Line, commands, requester, server, stock, ending}

-- the text of some lines, each with LF at its end
abbrev pub text_of : List Line → List ℕ
text_of [] = []
text_of (line ∷ lines) = line ++ line_feed ∷ text_of lines

-- the pair of a terminal: the first for odd numbers, the second for even ones
abbrev pub pair_line : ℕ → Line
pair_line t = if t % 2 == 1 then codes "SET TERM TCP TCP-1" else codes "SET TERM TCP TCP-2"

-- the commands of the terminal t
abbrev pub terminal_lines : ℕ → List Line
terminal_lines t = pair_line t ∷ (codes "ADD TERM T" ++ decimal t) ∷ (codes "START TERM T" ++ decimal t) ∷ []

-- the commands of so many terminals, from the terminal t on
unfoldable pub terminals_from : ℕ → ℕ → List Line
terminals_from zero t = []
terminals_from (suc count) t = terminal_lines t ++ terminals_from count (t + 1)

-- the number after x
abbrev pub next_number : ℕ → ℕ
next_number x = (1103515245 * x + 12345) % 2147483648

-- the digit of x: the last decimal digit of the whole part of x / 65536
abbrev pub digit_of : ℕ → ℕ
digit_of x = x / 65536 % 10

-- the entry line of x, whose key ends with its digit
abbrev pub entry_line : ℕ → Line
entry_line x = codes "F1 F-OP=I F-KEY=A" ++ (digit_zero + digit_of x) ∷ []

-- so many entry lines, the first of them that of the number after x
unfoldable pub entry_lines : ℕ → ℕ → List Line
entry_lines zero x = []
entry_lines (suc count) x = entry_line (next_number x) ∷ entry_lines count (next_number x)

-- the number so many places after x
unfoldable pub number_after : ℕ → ℕ → ℕ
number_after zero x = x
number_after (suc count) x = number_after count (next_number x)

-- the line of the section of the terminal t
abbrev pub section_line : ℕ → Line
section_line t = codes "?ENTRIES T" ++ decimal t

-- the sections of entries of so many terminals, 8 lines each, from the terminal t and the number after x on
unfoldable pub sections_from : ℕ → ℕ → ℕ → List Line
sections_from zero t x = []
sections_from (suc count) t x =
    section_line t ∷ entry_lines 8 x ++ sections_from count (t + 1) (number_after 8 x)

-- the lines of the deck of a seed and a number of terminals
abbrev pub deck_lines : ℕ → ℕ → List Line
deck_lines seed terminals =
    commands ++ (terminals_from terminals 1 ++ (requester ++ (server ++ (stock ++ (sections_from terminals 1 seed ++ ending)))))

-- the generated deck
abbrev pub generated : ℕ → ℕ → List ℕ
generated seed terminals = text_of (deck_lines seed terminals)
