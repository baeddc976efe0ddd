-- The names of entries.
use Rattle.std.specs.Prelude.{ℕ, List, Bool, false, ◌||◌, Option, None, Some, option_and_then, slice_get}
use Rattle.std.specs.Str.{str_to_ascii_uppercase}
use Rattle.pw_words.specs.Words.{Word, same_word}
use Rattle.pw_text.specs.declared.token.Token.{Token}
use Rattle.pw_text.specs.Cursor.{Left, spelling}
use Rattle.pw_data.specs.Entries.{level_in, data_name_token, proper_name}

-- the level of an entry: its first token, where that is one
abbrev pub level_of : Left → Option ℕ
level_of entry = option_and_then (level_in entry.text) (slice_get entry.tokens 0)

-- the name of an entry of a requester that has a level: its second token, where that may be one
abbrev pub name_of : Left → Option Token
name_of entry =
    option_and_then
    (λ level. option_and_then (data_name_token false entry.text) (slice_get entry.tokens 1))
    (level_of entry)

-- the name of an entry, and none for FILLER
abbrev pub own_name_of : Left → Option Token
own_name_of entry = option_and_then (proper_name entry.text) (name_of entry)

-- the name that a token is, in upper case
abbrev pub upper_name : List ℕ → Token → Word
upper_name text token = str_to_ascii_uppercase (spelling text token)

-- the name that a token is, where there is one, is taken
abbrev pub is_taken : List ℕ → (Word → Bool) → Option Token → Bool
is_taken text taken None = false
is_taken text taken (Some token) = taken (spelling text token)

-- these names are taken, and that of a token, where there is one; the case of a letter does not count
abbrev pub with_name : List ℕ → Option Token → (Word → Bool) → Word → Bool
with_name text None taken = taken
with_name text (Some token) taken = λ word. same_word (spelling text token) word || taken word
