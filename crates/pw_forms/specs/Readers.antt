-- Readers of the tokens of a piece, and the steps that every form is made of.
pub use Rattle.pw_base.specs.Readers.{and_then, ◌>>=◌, ◌>>◌, pure, fails}
use Rattle.std.specs.Prelude.{◌≡◌, ℕ, zero, suc, ◌==◌, Bool, List, [], ◌∷◌, ◌++◌, length, drop, Option, Some, None, Result, Ok, Err, if◌then◌else◌}
use Rattle.pw_base.specs.Readers.{ReaderOf}
use Rattle.pw_words.specs.Words.{Word}
use Rattle.pw_text.specs.declared.token.TokenKind.{TokenKind}
use Rattle.pw_text.specs.declared.token.Token.{Token}
use Rattle.pw_text.specs.Cursor.{begins_with, has_kind}
use Rattle.pw_forms.specs.declared.lack.Lack.{Lack}
use Rattle.pw_forms.specs.declared.lack.Lack.TheVariants.{Memory, NoForm}
use Rattle.pw_forms.specs.Words.{is_the_word}

-- what is left of a piece, in the text of a server or of a requester
pub record Rest : Type 0 where
  pub server : Bool
  pub text : List ℕ
  pub tokens : List Token

-- what a reader gives: a value and what is left, or nothing where no form has what it reads
abbrev pub Reader : Type 0 → Type 0
Reader A = ReaderOf Rest A

-- the next token is this word
abbrev pub is_first_word : List ℕ → List Token → Word → Bool
is_first_word text tokens word = begins_with (λ token. is_the_word text token word) tokens

-- the next token is this word
unfoldable pub sees : Word → Rest → Bool
sees word rest = is_first_word rest.text rest.tokens word

-- the token behind the next two is this word
unfoldable pub sees_third : Word → Rest → Bool
sees_third word rest = is_first_word rest.text (drop 2 rest.tokens) word

-- what is left behind the next token
unfoldable pub form_rest_behind : Rest → Rest
form_rest_behind rest = record rest { tokens = drop 1 rest.tokens }

-- takes the next token
unfoldable pub token : Reader Token
token = λ rest. token_of rest.tokens rest
  where
    token_of : List Token → Rest → Option (Token × Rest)
    token_of [] rest = None
    token_of (next ∷ tokens) rest = Some (next, form_rest_behind rest)

-- what is left behind the next token, where it is this word
unfoldable pub past : Word → Rest → Rest
past word rest = if sees word rest then form_rest_behind rest else rest

-- takes the next token where it is this word, and tells it
abbrev pub eats : Word → Reader Bool
eats word = λ rest. Some (sees word rest, past word rest)

-- takes this word
unfoldable pub expects : Word → Reader (Unit {0})
expects word = λ rest. if sees word rest then Some (tt, form_rest_behind rest) else None

-- the next token is of this kind
abbrev pub is_first_kind : List Token → TokenKind → Bool
is_first_kind tokens kind = begins_with (has_kind kind) tokens

-- the next token is of this kind
unfoldable pub sees_kind : TokenKind → Rest → Bool
sees_kind kind rest = is_first_kind rest.tokens kind

-- what is left behind the next token, where it is of this kind
unfoldable pub past_kind : TokenKind → Rest → Rest
past_kind kind rest = if sees_kind kind rest then form_rest_behind rest else rest

-- takes the next token where it is of this kind, and tells it
abbrev pub takes : TokenKind → Reader Bool
takes kind = λ rest. Some (sees_kind kind rest, past_kind kind rest)

-- nothing is left
unfoldable pub is_done : Rest → Bool
is_done rest = length rest.tokens == 0

-- no token is left
unfoldable pub ends : Reader (Unit {0})
ends = λ rest. if is_done rest then Some (tt, rest) else None

-- how many tokens are left: no list that is read from them is longer
unfoldable pub left : Rest → ℕ
left rest = length rest.tokens

-- ---- lists of one thing or more. The number bounds the length of the list: each takes a token.

-- one behind the other to the end
unfoldable pub some_from : {A : Type 0} → Reader A → ℕ → List A → Reader (List A)
some_from one zero found = fails
some_from one (suc n) found = do
  x ← one
  (λ rest.
      if is_done rest then Some (found ++ x ∷ [], rest) else some_from one n (found ++ x ∷ []) rest)

-- one or more, to the end
abbrev pub some : {A : Type 0} → Reader A → Reader (List A)
some one = λ rest. some_from one (left rest) [] rest

-- one behind the other up to a word, which is taken too
unfoldable pub up_to_from : {A : Type 0} → Word → Reader A → ℕ → List A → Reader (List A)
up_to_from word one zero found = fails
up_to_from word one (suc n) found = do
  x ← one
  last ← eats word
  if last then pure (found ++ x ∷ []) else up_to_from word one n (found ++ x ∷ [])

-- one or more, up to a word
abbrev pub up_to : {A : Type 0} → Word → Reader A → Reader (List A)
up_to word one = λ rest. up_to_from word one (left rest) [] rest

-- one behind the other, with a word between two of them
unfoldable pub separated_from : {A : Type 0} → Word → Reader A → ℕ → List A → Reader (List A)
separated_from word one zero found = fails
separated_from word one (suc n) found = do
  x ← one
  more ← eats word
  if more then separated_from word one n (found ++ x ∷ []) else pure (found ++ x ∷ [])

-- one or more, with a word between two of them
abbrev pub separated : {A : Type 0} → Word → Reader A → Reader (List A)
separated word one = λ rest. separated_from word one (left rest) [] rest

-- what a call that reads gives is what its reader gives, unless memory ran out
abbrev pub ReadsForm : {A : Type 0} → Option (A × Rest) → Result A Lack → Rest → Type 0
ReadsForm defined (Ok value) rest = defined ≡ Some (value, rest)
ReadsForm defined (Err NoForm) rest = defined ≡ None
ReadsForm defined (Err Memory) rest = Unit {0}
