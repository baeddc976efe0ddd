-- Pieces of a deck.
use Rattle.std.specs.Prelude.{ℕ, ◌+◌, ◌≤◌, Bool, false, not, List, [], ◌∷◌, length, drop, position, ◌==◌, Option, None, Some}
use Rattle.pw_base.specs.Characters.{line_feed}
use Rattle.pw_base.specs.Limits.{longest_input}
use Rattle.pw_sections.specs.Lines.{lines}

-- a piece of a deck: its bytes, and the number of its first line
pub record DeckPieceModel : Type 0 where
  pub bytes : List ℕ
  pub first_line : ℕ

-- a deck is not too long, so a piece has no line above its length
pub record IsPiece (piece : DeckPieceModel) : Type 0 where
  pub first : 1 ≤ piece.first_line
  pub within : piece.first_line + length piece.bytes ≤ longest_input + 1

-- the first line
abbrev pub first_line_of : List (List ℕ) → List ℕ
first_line_of [] = []
first_line_of (line ∷ rest) = line

-- what stands behind a place
abbrev pub behind_place : List ℕ → Option ℕ → List ℕ
behind_place text None = []
behind_place text (Some place) = drop (place + 1) text

-- the section line of a section, and what stands behind it
abbrev pub section_line : List ℕ → List ℕ
section_line section = first_line_of (lines section)

-- what stands behind the section line of a section
abbrev pub section_text : List ℕ → List ℕ
section_text section = behind_place section (position (λ b. b == 10) section)

-- whether the last line of a text lacks its LF
unfoldable pub is_open : List ℕ → Bool
is_open [] = false
is_open (b ∷ []) = not (b == line_feed)
is_open (b ∷ (c ∷ rest)) = is_open (c ∷ rest)
