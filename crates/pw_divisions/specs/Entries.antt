-- The tokens of a section, cut into entries.
use Rattle.std.specs.Prelude.{List, [], ◌∷◌, if◌then◌else◌}
use Rattle.pw_text.specs.declared.token.TokenKind.TheVariants as kind
use Rattle.pw_text.specs.declared.token.Token.{Token}
use Rattle.pw_text.specs.Cursor.{has_kind}

-- a token in front of the first of some entries
abbrev pub token_joined : Token → List (List Token) → List (List Token)
token_joined token [] = (token ∷ []) ∷ []
token_joined token (entry ∷ entries) = (token ∷ entry) ∷ entries

-- the entries that tokens are, one behind the other: each ends with its period, and the last one with the last token
unfoldable pub division_entries_of : List Token → List (List Token)
division_entries_of [] = []
division_entries_of (token ∷ tokens) =
    if has_kind kind.Period token
    then (token ∷ []) ∷ division_entries_of tokens
    else token_joined token (division_entries_of tokens)
