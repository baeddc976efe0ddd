-- The clauses of an entry.
use Rattle.std.specs.Prelude.{ℕ, zero, suc, List, [], ◌∷◌, length, Bool, false, ◌||◌, is_some, codes, Option, Some, None, option_and_then, if◌then◌else◌}
use Rattle.pw_text.specs.declared.token.TokenKind.TheVariants as kind
use Rattle.pw_text.specs.declared.token.Token.{Token}
use Rattle.pw_text.specs.Cursor.{Left, TokenReader, ◌>>=◌, pure, has_kind, sees_word, behind, token_taken, eat_word, expect}
use Rattle.pw_data.specs.declared.clauses.DataClause.{DataClause}
use Rattle.pw_data.specs.declared.clauses.DataClause.TheVariants as clause
use Rattle.pw_data.specs.declared.clauses.DataClauses.{DataClauses}

-- no clause
abbrev pub no_clauses : DataClauses
no_clauses = record { picture = None; value = None; occurs = None }

-- the clause and those before it, where none of them is of its kind
abbrev pub added : DataClauses → DataClause → Option DataClauses
added found (clause.Picture token) =
    if is_some found.picture then None else Some (record found { picture = Some token })
added found (clause.Value token) =
    if is_some found.value then None else Some (record found { value = Some token })
added found (clause.Occurs token) =
    if is_some found.occurs then None else Some (record found { occurs = Some token })

-- a literal: a number or a text
abbrev pub is_literal : Token → Bool
is_literal token = has_kind kind.Number token || has_kind kind.Text token

-- the next token, where it is a literal
abbrev pub literal : TokenReader Token
literal = λ left. token_taken left.text is_literal left.tokens

-- behind PIC, a picture; IS may stand before it
abbrev pub picture_clause : TokenReader DataClause
picture_clause = do
  is ← eat_word (codes "IS")
  token ← expect kind.Picture
  pure (clause.Picture token)

-- behind VALUE, a literal; IS may stand before it
abbrev pub value_clause : TokenReader DataClause
value_clause = do
  is ← eat_word (codes "IS")
  token ← literal
  pure (clause.Value token)

-- behind OCCURS, a number; TIMES may stand behind it
abbrev pub occurs_clause : TokenReader DataClause
occurs_clause = do
  token ← expect kind.Number
  times ← eat_word (codes "TIMES")
  pure (clause.Occurs token)

-- the clause in front
abbrev pub one_clause : TokenReader DataClause
one_clause left =
    if sees_word (codes "PIC") left || sees_word (codes "PICTURE") left then picture_clause (behind 1 left)
    else if sees_word (codes "VALUE") left then value_clause (behind 1 left)
    else if sees_word (codes "OCCURS") left then occurs_clause (behind 1 left)
    else None

-- a period is all that is left
abbrev pub is_end : List Token → Bool
is_end [] = false
is_end (token ∷ []) = has_kind kind.Period token
is_end (token ∷ (next ∷ rest)) = false

-- the clause in front is added to those before it, and reading goes on behind it
abbrev pub with_clause : DataClauses → Option (DataClause × Left) → (DataClauses → Left → Option DataClauses) → Option DataClauses
with_clause found None next = None
with_clause found (Some one) next = option_and_then (λ clauses. next clauses one.1) (added found one.0)

-- The clauses up to a period that is the last token, each kind at most once. The number bounds the clauses; each has a
-- token, so the number of tokens is enough.
unfoldable pub clauses_from : ℕ → DataClauses → Left → Option DataClauses
clauses_from zero found left = None
clauses_from (suc turns) found left =
    if is_end left.tokens then Some found
    else with_clause found (one_clause left) (clauses_from turns)

-- the clauses of all that is left
abbrev pub clauses_in : Left → Option DataClauses
clauses_in left = clauses_from (length left.tokens) no_clauses left
