-- A log is opened.
use Rattle.std.proofs.Common.{◌≡◌, ◌≢◌, ℕ, ◌+◌, Bool, true, false, cond, List, [], ◌∷◌, sym, ap, ◌∙◌}
use Rattle.std.specs.Str.{bytes_eq}
use Rattle.pw_sections.specs.Steps.{is_empty, is_blank}
use Rattle.pw_sections.specs.Words.{words}
use Rattle.pw_sections.proofs.Folds.{some_word}
use Rattle.pw_log_lines.specs.Log.{Opened, opened, header}

-- by the first line
first_opened : (number : ℕ) (all rest : List (List ℕ)) (line : List ℕ) → all ≡ line ∷ rest → opened number all
    ≡ cond (is_blank line) (opened (number + 1) rest) (cond (bytes_eq line header) (record { version = 2; first_line = number + 1; lines = rest })
    (record { version = 1; first_line = number; lines = line ∷ rest }))
unfolding opened
first_opened number all rest line is = ap (opened number) is

-- a blank line says nothing
pub blank_opened : (number : ℕ) (all rest : List (List ℕ)) (line : List ℕ) (whole : Opened) → all ≡ line ∷ rest → words line ≡ [] → opened number all ≡ whole
    → opened (number + 1) rest ≡ whole
blank_opened number all rest line whole is none so_far =
    sym (first_opened number all rest line is ∙ ap (λ b. cond b (opened (number + 1) rest) (cond (bytes_eq line header) (record { version = 2; first_line = number + 1; lines = rest })
    (record { version = 1; first_line = number; lines = line ∷ rest }))) (ap is_empty none)) ∙ so_far

-- the first line that is not blank
some_opened : (number : ℕ) (all rest : List (List ℕ)) (line : List ℕ) (b : Bool) → all ≡ line ∷ rest → words line ≢ [] → b ≡ bytes_eq line header → opened number all
    ≡ cond b (record { version = 2; first_line = number + 1; lines = rest }) (record { version = 1; first_line = number; lines = line ∷ rest })
some_opened number all rest line b is some eq =
    first_opened number all rest line is
    ∙ ap (λ b. cond b (opened (number + 1) rest) (cond (bytes_eq line header) (record { version = 2; first_line = number + 1; lines = rest })
    (record { version = 1; first_line = number; lines = line ∷ rest }))) (some_word (words line) some)
    ∙ ap (λ b. cond b (record { version = 2; first_line = number + 1; lines = rest }) (record { version = 1; first_line = number; lines = line ∷ rest })) (sym eq)

-- it is the header
pub header_opened : (number : ℕ) (all rest : List (List ℕ)) (line : List ℕ) → all ≡ line ∷ rest → words line ≢ [] → true ≡ bytes_eq line header
    → opened number all ≡ record { version = 2; first_line = number + 1; lines = rest }
header_opened number all rest line is some eq = some_opened number all rest line true is some eq

-- or it is not
pub old_opened : (number : ℕ) (all rest : List (List ℕ)) (line : List ℕ) → all ≡ line ∷ rest → words line ≢ [] → false ≡ bytes_eq line header
    → opened number all ≡ record { version = 1; first_line = number; lines = all }
old_opened number all rest line is some eq =
    some_opened number all rest line false is some eq ∙ ap (λ ls. record { version = 1; first_line = number; lines = ls }) (sym is)

-- no line is left
pub none_opened : (number : ℕ) (all : List (List ℕ)) → all ≡ [] → opened number all ≡ record { version = 2; first_line = number; lines = all }
unfolding opened
none_opened number all none = ap (opened number) none ∙ ap (λ ls. record { version = 2; first_line = number; lines = ls }) (sym none)
