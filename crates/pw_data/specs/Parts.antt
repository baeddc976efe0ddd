-- The tokens of the data sections, cut into entries.
use Rattle.std.specs.Prelude.{ℕ, zero, suc, ◌+◌, ◌-◌, List, [], ◌∷◌, Bool, true, false, ◌&&◌, ◌||◌, is_some, codes, take, if◌then◌else◌}
use Rattle.pw_words.specs.Words.{Word, word_place}
use Rattle.pw_words.specs.Texts.{requester_words, server_words}
use Rattle.pw_text.specs.declared.token.TokenKind.TheVariants as kind
use Rattle.pw_text.specs.declared.token.Token.{Token}
use Rattle.pw_text.specs.Cursor.{Left, has_kind, sees, sees_word, behind}

-- the word is in the table of servers, or in that of requesters
unfoldable pub is_table_word : Bool → Word → Bool
is_table_word true word = is_some (word_place server_words word)
is_table_word false word = is_some (word_place requester_words word)

-- what is left of a text
abbrev pub left_of : List ℕ → List Token → Left
left_of text tokens = record { text = text; tokens = tokens }

-- the two words that begin a section stand in front
abbrev pub is_heading : Left → Bool
is_heading left =
    (sees_word (codes "WORKING-STORAGE") left || sees_word (codes "LINKAGE") left)
    && sees_word (codes "SECTION") (behind 1 left)

-- the section of the heading in front is LINKAGE
abbrev pub is_linkage : Left → Bool
is_linkage left = sees_word (codes "LINKAGE") left

-- the two words, and a period behind them, where it is there
abbrev pub heading_size : Left → ℕ
heading_size left = if sees kind.Period (behind 2 left) then 3 else 2

-- an entry ends with its period, and where a section begins behind it
abbrev pub ends_entry : List ℕ → Token → List Token → Bool
ends_entry text token rest = has_kind kind.Period token || is_heading (left_of text rest)

-- how many tokens the entry in front has
unfoldable pub entry_size : List ℕ → List Token → ℕ
entry_size text [] = 0
entry_size text (token ∷ rest) = if ends_entry text token rest then 1 else 1 + entry_size text rest

-- the tokens of an entry, and whether it stands in LINKAGE
pub record Part : Type 0 where
  pub linked : Bool
  pub tokens : List Token

-- the part of these tokens
abbrev pub part_of : Bool → List Token → Part
part_of linked tokens = record { linked = linked; tokens = tokens }

-- The entries of the tokens, one behind the other. The first `skip` tokens belong to the entry or heading before.
unfoldable pub parts_from : List ℕ → Bool → ℕ → List Token → List Part
parts_from text linked skip [] = []
parts_from text linked (suc skip) (token ∷ rest) = parts_from text linked skip rest
parts_from text linked zero (token ∷ rest) =
    let left = left_of text (token ∷ rest) in
    if is_heading left then parts_from text (is_linkage left) (heading_size left - 1) rest
    else part_of linked (take (entry_size text left.tokens) left.tokens)
    ∷ parts_from text linked (entry_size text left.tokens - 1) rest

-- the entries of the tokens; those before the first heading stand in WORKING-STORAGE
abbrev pub parts_of : List ℕ → List Token → List Part
parts_of text tokens = parts_from text false 0 tokens
