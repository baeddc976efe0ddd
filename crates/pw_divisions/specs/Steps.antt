-- Steps over tokens that have to stand there: each goes on behind what it took, or stops in front of the first token
-- that may not stand where it is.
use Rattle.std.specs.Prelude.{◌≡◌, ℕ, ◌+◌, ◌-◌, List, [], ◌∷◌, length, take, Bool, Option, MatchOption, Result, Ok, Err, if◌then◌else◌}
use Rattle.pw_words.specs.Words.{Word}
use Rattle.pw_text.specs.declared.token.TokenKind.TheVariants as kind
use Rattle.pw_text.specs.declared.token.Token.{Token}
use Rattle.pw_text.specs.Cursor.{Left, sees, sees_word, behind}

-- a step: what it gives and what is left behind it, or what is left from the token on that may not stand there
abbrev pub TokenStep : Type 0 → Type 0
TokenStep A = Left → Result (A × Left) Left

-- behind one step goes on the one that its value chooses
abbrev pub and_then : {A B : Type 0}
    → Result (A × Left) Left → (A → TokenStep B) → Result (B × Left) Left
and_then (Ok found) next = next found.0 found.1
and_then (Err left) next = Err left

-- the next step, behind one that was made
infixl 10 ◌>>=◌
abbrev pub ◌>>=◌ : {A B : Type 0} → TokenStep A → (A → TokenStep B) → TokenStep B
first >>= next = λ left. and_then (first left) next

-- a value, for which nothing has to stand there
abbrev pub pure : {A : Type 0} → A → TokenStep A
pure value = λ left. Ok (value, left)

-- this word
abbrev pub word : Word → TokenStep (Unit {0})
word name = λ left. if sees_word name left then Ok (tt, behind 1 left) else Err left

-- a period
abbrev pub period : TokenStep (Unit {0})
period = λ left. if sees kind.Period left then Ok (tt, behind 1 left) else Err left

-- how many tokens stand in front of the first place where a test holds, or of the end
unfoldable pub size_up_to : (Left → Bool) → List ℕ → List Token → ℕ
size_up_to test text [] = 0
size_up_to test text (token ∷ tokens) =
    if test (record { text = text; tokens = token ∷ tokens })
    then 0
    else 1 + size_up_to test text tokens

-- so many tokens
abbrev pub some_tokens : ℕ → TokenStep (List Token)
some_tokens count = λ left. Ok (take count left.tokens, behind count left)

-- the tokens up to the first place where a test holds, or to the end
abbrev pub up_to : (Left → Bool) → TokenStep (List Token)
up_to test = λ left. some_tokens (size_up_to test left.text left.tokens) left

-- the tokens that were read from a place to another one behind it
abbrev pub between : Left → Left → List Token
between left rest = take (length left.tokens - length rest.tokens) left.tokens

-- the code gives what the step gives and stands behind it, or it gives none and stands where the step stops
abbrev pub FollowsTokenStep : {A : Type 0} → Result (A × Left) Left → Option A → Left → Type 0
FollowsTokenStep step result left = MatchOption result (step ≡ Err left) (λ value. step ≡ Ok (value, left))
