-- The lines of a deck.
use Rattle.std.specs.Prelude.{ℕ, List, [], ◌∷◌, Bool, false, ◌&&◌, ◌==◌, if◌then◌else◌}
use Rattle.pw_base.specs.Characters.{carriage_return, line_feed}

-- the first byte is LF
abbrev pub begins_with_lf : List ℕ → Bool
begins_with_lf [] = false
begins_with_lf (b ∷ rest) = b == line_feed

-- a line without a CR at its end
abbrev pub without_return : List ℕ → List ℕ
without_return [] = []
without_return (b ∷ []) = if b == carriage_return then [] else b ∷ []
without_return (b ∷ (c ∷ rest)) = b ∷ without_return (c ∷ rest)

-- a byte in front of the first line
abbrev pub in_front : ℕ → List (List ℕ) → List (List ℕ)
in_front b [] = (b ∷ []) ∷ []
in_front b (line ∷ lines) = (b ∷ line) ∷ lines

-- The lines of a text: each ends with LF, one CR before an LF is dropped, and the last line may lack its LF.
unfoldable pub lines : List ℕ → List (List ℕ)
lines [] = []
lines (b ∷ rest) =
    if b == line_feed then [] ∷ lines rest
    else (if b == carriage_return && begins_with_lf rest then lines rest
    else in_front b (lines rest))
