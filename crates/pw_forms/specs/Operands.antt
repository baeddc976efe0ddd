-- Operands, names and numbers of a form.
pub use Rattle.pw_text.specs.Literals.{kept, is_first_quote, unquoted}
use Rattle.std.specs.Prelude.{ℕ, ◌+◌, ◌-◌, ◌*◌, min, nat_le, List, [], ◌∷◌, Bool, true, false, not, ◌&&◌, ◌||◌, codes, Option, Some, None, option_map, if◌then◌else◌}
use Rattle.std.specs.List.{list_all}
use Rattle.std.specs.Char.{is_ascii_digit}
use Rattle.pw_base.specs.Characters.{digit_zero}
use Rattle.pw_words.specs.Words.{Word, word_place}
use Rattle.pw_text.specs.declared.token.TokenKind.{TokenKind}
use Rattle.pw_text.specs.declared.token.TokenKind.TheVariants as kind
use Rattle.pw_text.specs.declared.token.Token.{Token}
use Rattle.pw_text.specs.Cursor.{spelling}
use Rattle.pw_forms.specs.declared.operand.Subscript.{Subscript}
use Rattle.pw_forms.specs.declared.operand.Subscript.TheVariants as subscripts
use Rattle.pw_forms.specs.declared.operand.Operand.{Operand}
use Rattle.pw_forms.specs.declared.operand.Operand.TheVariants as operands
use Rattle.pw_forms.specs.Words.{is_word, is_the_word, is_receive, is_name_token, is_item_name, token_name}
use Rattle.pw_forms.specs.Readers.{Reader, ◌>>=◌, pure, fails, takes, token}

-- ---- literals

-- the value of digits behind those of a value, where every value above 9,999 is as 10,000
abbrev pub value_from : ℕ → List ℕ → ℕ
value_from value [] = value
value_from value (digit ∷ digits) = value_from (min (10 * value + (digit - digit_zero)) 10000) digits

-- the value of digits
abbrev pub value_of : List ℕ → ℕ
value_of digits = value_from 0 digits

-- ---- items and other operands

-- the value of a subscript: a number or the name of an item
abbrev pub subscript_by : TokenKind → Token → Reader Subscript
subscript_by kind.Number value = λ rest. Some (subscripts.Number (spelling rest.text value), rest)
subscript_by _ value = λ rest.
    if is_item_name rest.server rest.text value
    then Some (subscripts.Item (token_name rest.text value), rest)
    else None

-- `(s)`, where a parenthesis opens
unfoldable pub subscript_behind : Reader (Option Subscript)
subscript_behind = do
  opens ← takes kind.LeftParen
  if opens then (do
    value ← token
    s ← subscript_by value.kind value
    closes ← takes kind.RightParen
    if closes then pure (Some s) else fails) else pure None

-- an item of a name
unfoldable pub item : Token → Reader Operand
item name = do
  s ← subscript_behind
  (λ rest. Some (operands.Item (token_name rest.text name) s, rest))

-- SPACES or ZEROS, in each of their spellings
unfoldable pub figurative : List ℕ → Token → Option Operand
figurative text word =
    if is_the_word text word (codes "SPACE") || is_the_word text word (codes "SPACES")
    then Some operands.Spaces
    else if is_the_word text word (codes "ZERO")
    || (is_the_word text word (codes "ZEROS") || is_the_word text word (codes "ZEROES"))
    then Some operands.Zeros
    else None

-- an operand that begins with a token
abbrev pub operand_by : TokenKind → Token → Reader Operand
operand_by kind.Number first = λ rest. Some (operands.Number (spelling rest.text first), rest)
operand_by kind.Text first = λ rest.
    Some (operands.Text (unquoted false (spelling rest.text first)), rest)
operand_by _ first = λ rest.
    if is_item_name rest.server rest.text first then item first rest
    else option_map (λ found. (found, rest)) (figurative rest.text first)

-- an item, a literal, SPACES or ZEROS: what may stand for every operand of a form
unfoldable pub operand : Reader Operand
operand = do
  first ← token
  operand_by first.kind first

-- ---- names

-- the name of a paragraph or of a screen
unfoldable pub name : Reader Word
name = do
  word ← token
  (λ rest. if is_name_token rest.server rest.text word then Some (token_name rest.text word, rest) else None)

-- the name of a file, which may be a table word
unfoldable pub file_name : Reader Word
file_name = do
  word ← token
  (λ rest.
      if is_word word.kind && not (is_receive rest.text word)
      then Some (token_name rest.text word, rest)
      else None)

-- the name of a program or a class: a word, or a text with exactly its characters
abbrev pub program_by : TokenKind → Token → Reader Word
program_by kind.Text first = λ rest. Some (unquoted false (spelling rest.text first), rest)
program_by _ first = λ rest.
    if is_word first.kind && not (is_receive rest.text first)
    then Some (token_name rest.text first, rest)
    else None

unfoldable pub program_name : Reader Word
program_name = do
  first ← token
  program_by first.kind first

-- the names of the keys, by their numbers from 1 on
abbrev pub key_words : List Word
key_words =
    codes "F1" ∷ codes "F2" ∷ codes "F3" ∷ codes "F4" ∷ codes "F5" ∷ codes "F6" ∷ codes "F7" ∷
    codes "F8" ∷ codes "F9" ∷ codes "F10" ∷ codes "F11" ∷ codes "F12" ∷ codes "F13" ∷
    codes "F14" ∷ codes "F15" ∷ codes "F16" ∷ codes "SF1" ∷ codes "SF2" ∷ codes "SF3" ∷
    codes "SF4" ∷ codes "SF5" ∷ codes "SF6" ∷ codes "SF7" ∷ codes "SF8" ∷ codes "SF9" ∷
    codes "SF10" ∷ codes "SF11" ∷ codes "SF12" ∷ codes "SF13" ∷ codes "SF14" ∷ codes "SF15" ∷
    codes "SF16" ∷ []

-- the number of the key that a word names
unfoldable pub key_of : Word → Option ℕ
key_of word = option_map (λ place. place + 1) (word_place key_words word)

-- a key, by its number
unfoldable pub key : Reader ℕ
key = do
  word ← token
  (λ rest.
      if is_word word.kind
      then option_map (λ number. (number, rest)) (key_of (spelling rest.text word))
      else None)

-- digits without a sign or a point, of a value of at most 9,999
abbrev pub is_code : List ℕ → Bool
is_code bytes = list_all is_ascii_digit bytes && nat_le (value_of bytes) 9999

-- the number of a code
unfoldable pub code : Reader ℕ
code = do
  number ← token
  (λ rest.
      if is_number number.kind && is_code (spelling rest.text number)
      then Some (value_of (spelling rest.text number), rest)
      else None)
  where
    is_number : TokenKind → Bool
    is_number kind.Number = true
    is_number _ = false
