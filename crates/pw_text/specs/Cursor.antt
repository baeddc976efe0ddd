-- A cursor over the tokens of a text, and what its steps read.
pub use Rattle.pw_base.specs.Readers.{and_then, ◌>>=◌, ◌>>◌, pure}
use Rattle.std.specs.Prelude.{◌≡◌, ℕ, ◌-◌, ◌==◌, List, [], ◌∷◌, take, drop, Bool, false, ◌&&◌, Option, None, Some, MatchOption, if◌then◌else◌}
use Rattle.pw_base.specs.Readers.{ReaderOf}
use Rattle.pw_words.specs.Words.{Word, same_word}
use Rattle.pw_text.specs.declared.token.TokenKind.{TokenKind}
use Rattle.pw_text.specs.declared.token.TokenKind.TheVariants as kind
use Rattle.pw_text.specs.declared.token.Token.{Token}

-- a text, and the tokens of it that are left to be read
pub record Left : Type 0 where
  pub text : List ℕ
  pub tokens : List Token

-- the place of a kind among the kinds
abbrev pub kind_place : TokenKind → ℕ
kind_place kind.Word = 0
kind_place kind.Number = 1
kind_place kind.Text = 2
kind_place kind.Picture = 3
kind_place kind.Period = 4
kind_place kind.LeftParen = 5
kind_place kind.RightParen = 6
kind_place kind.Equal = 7
kind_place kind.Less = 8
kind_place kind.Greater = 9
kind_place kind.LessEqual = 10
kind_place kind.GreaterEqual = 11

-- the two are one kind
abbrev pub same_kind : TokenKind → TokenKind → Bool
same_kind a b = kind_place a == kind_place b

-- the token is of a kind
abbrev pub has_kind : TokenKind → Token → Bool
has_kind kind token = same_kind token.kind kind

-- the bytes of a token in its text, as far as it lies there
abbrev pub spelling : List ℕ → Token → List ℕ
spelling text token = take (token.end - token.start) (drop token.start text)

-- the token is this word, in either case
abbrev pub is_the_word : List ℕ → Word → Token → Bool
is_the_word text word token = has_kind kind.Word token && same_word (spelling text token) word

-- there is a token in front, and it passes the test
abbrev pub begins_with : (Token → Bool) → List Token → Bool
begins_with test [] = false
begins_with test (token ∷ tokens) = test token

-- the next token is of a kind
abbrev pub sees : TokenKind → Left → Bool
sees kind left = begins_with (has_kind kind) left.tokens

-- the next token is this word
abbrev pub sees_word : Word → Left → Bool
sees_word word left = begins_with (is_the_word left.text word) left.tokens

-- what is left behind so many tokens
abbrev pub behind : ℕ → Left → Left
behind count left = record left { tokens = drop count left.tokens }

-- what is left where the next token is taken if it was found
abbrev pub after_token : Bool → Left → Left
after_token found left = if found then behind 1 left else left

-- a reader: it gives a value and what is left behind it, or none
abbrev pub TokenReader : Type 0 → Type 0
TokenReader A = ReaderOf Left A

-- whether the next token is of a kind; then it is taken
abbrev pub eat : TokenKind → TokenReader Bool
eat kind = λ left. Some (sees kind left, after_token (sees kind left) left)

-- whether the next token is this word; then it is taken
abbrev pub eat_word : Word → TokenReader Bool
eat_word word = λ left. Some (sees_word word left, after_token (sees_word word left) left)

-- the next token, where it passes a test
abbrev pub token_taken : List ℕ → (Token → Bool) → List Token → Option (Token × Left)
token_taken text test [] = None
token_taken text test (token ∷ tokens) =
    if test token then Some (token, record { text = text; tokens = tokens }) else None

-- the next token, where it is of a kind
abbrev pub expect : TokenKind → TokenReader Token
expect kind = λ left. token_taken left.text (has_kind kind) left.tokens

-- the next token, where it is this word
abbrev pub expect_word : Word → TokenReader Token
expect_word word = λ left. token_taken left.text (is_the_word left.text word) left.tokens

-- the code gives what the reader gives and leaves what it leaves, or it gives none where the reader gives none
abbrev pub ReadsTokens : {A : Type 0} → Option (A × Left) → Option A → Left → Type 0
ReadsTokens read result left = MatchOption result (read ≡ None) (λ value. read ≡ Some (value, left))
