-- What stands behind the name of a screen and of a field.
use Rattle.std.specs.Prelude.{ℕ, zero, suc, List, length, Bool, true, false, ◌&&◌, ◌||◌, ◌==◌, is_some, is_none, codes, Option, Some, None, option_map, unwrap_or, if◌then◌else◌}
use Rattle.pw_text.specs.declared.token.TokenKind.TheVariants as kind
use Rattle.pw_text.specs.declared.token.Token.{Token}
use Rattle.pw_text.specs.Cursor.{Left, TokenReader, ◌>>=◌, pure, spelling, sees, sees_word, behind, after_token, eat_word, expect, expect_word}
use Rattle.pw_data.specs.Literals.{whole_number}
use Rattle.pw_data.specs.Clauses.{is_end}
use Rattle.pw_data.specs.Layouts.{Laid, place_of}
use Rattle.pw_screen.specs.declared.clauses.Clause.{Clause}
use Rattle.pw_screen.specs.declared.clauses.Clause.TheVariants as clause
use Rattle.pw_screen.specs.declared.clauses.Clauses.{Clauses}
use Rattle.pw_screen.specs.declared.clauses.ItemName.{ItemName}
use Rattle.pw_screen.specs.declared.body.At.{At}
use Rattle.pw_screen.specs.declared.body.FieldBody.{FieldBody}

-- the value, where there is one
abbrev pub given : {A : Type 0} → Option A → TokenReader A
given value = λ left. option_map (λ v. (v, left)) value

-- digits without a sign or a point, by their value; every value above 1,000 is as 1,001
abbrev pub whole : TokenReader ℕ
whole = λ left. (do
  token ← expect kind.Number
  given (whole_number (spelling left.text token))) left

-- behind SIZE, the numbers 24 and 80, and a period as the last token
abbrev pub is_size_end : Option (At × Left) → Bool
is_size_end None = false
is_size_end (Some found) = (found.0.row == 24 && found.0.column == 80) && is_end found.1.tokens

-- two whole numbers
abbrev pub position : TokenReader At
position = do
  row ← whole
  column ← whole
  pure (record { row = row; column = column })

-- behind the name of a screen: BASE or not, SIZE 24, 80 or not, and a period as the last token
abbrev pub is_screen_end : Left → Bool
is_screen_end left =
    let rest = after_token (sees_word (codes "BASE") left) left in
    if sees_word (codes "SIZE") rest
    then is_size_end (position (behind 1 rest))
    else is_end rest.tokens

-- no clause
abbrev pub no_clauses : Clauses
no_clauses = record {
  picture = None;
  value = None;
  from = None;
  to = None;
  using = None;
  repeated = false;
  subscripted = false;
  unknown = false;
}

-- there is no item of the name that a token is
abbrev pub is_unknown : List ℕ → Laid → Token → Bool
is_unknown text laid name = is_none (place_of laid (spelling text name))

-- an item is named: whether it has a subscript and whether it is unknown
abbrev pub naming : List ℕ → Laid → ItemName → Clauses → Clauses
naming text laid item found = record found {
  subscripted = found.subscripted || item.subscripted;
  unknown = found.unknown || is_unknown text laid item.name;
}

-- the clauses before it and the clause: of each kind the first one stands, and whether one is repeated
abbrev pub added : List ℕ → Laid → Clauses → Clause → Clauses
added text laid found (clause.Picture token) = record found {
  picture = Some (unwrap_or found.picture token);
  repeated = found.repeated || is_some found.picture;
}
added text laid found (clause.Value token) = record found {
  value = Some (unwrap_or found.value token);
  repeated = found.repeated || is_some found.value;
}
added text laid found (clause.From item) = naming text laid item (record found {
  from = Some (unwrap_or found.from item.name);
  repeated = found.repeated || is_some found.from;
})
added text laid found (clause.To item) = naming text laid item (record found {
  to = Some (unwrap_or found.to item.name);
  repeated = found.repeated || is_some found.to;
})
added text laid found (clause.Using item) = naming text laid item (record found {
  using = Some (unwrap_or found.using item.name);
  repeated = found.repeated || is_some found.using;
})

-- behind PIC, a picture; IS may stand before it
abbrev pub picture_clause : TokenReader Clause
picture_clause = do
  is ← eat_word (codes "IS")
  token ← expect kind.Picture
  pure (clause.Picture token)

-- behind VALUE, a text; IS may stand before it
abbrev pub value_clause : TokenReader Clause
value_clause = do
  is ← eat_word (codes "IS")
  token ← expect kind.Text
  pure (clause.Value token)

-- a number or a word
abbrev pub index : TokenReader Token
index left = if sees kind.Number left then expect kind.Number left else expect kind.Word left

-- behind a left parenthesis, an index and a right one
abbrev pub subscript_end : TokenReader Bool
subscript_end = do
  value ← index
  close ← expect kind.RightParen
  pure true

-- a subscript, where a parenthesis opens; whether there is one
abbrev pub subscript : TokenReader Bool
subscript left = if sees kind.LeftParen left then subscript_end (behind 1 left) else Some (false, left)

-- the name of an item, with a subscript or without one
abbrev pub item_name : TokenReader ItemName
item_name = do
  name ← expect kind.Word
  subscripted ← subscript
  pure (record { name = name; subscripted = subscripted })

-- behind FROM, TO or USING, an item
abbrev pub item_clause : (ItemName → Clause) → TokenReader Clause
item_clause clause_of = do
  item ← item_name
  pure (clause_of item)

-- the clause in front
abbrev pub one_clause : TokenReader Clause
one_clause left =
    if sees_word (codes "PIC") left || sees_word (codes "PICTURE") left
    then picture_clause (behind 1 left)
    else if sees_word (codes "VALUE") left then value_clause (behind 1 left)
    else if sees_word (codes "FROM") left then item_clause clause.From (behind 1 left)
    else if sees_word (codes "TO") left then item_clause clause.To (behind 1 left)
    else if sees_word (codes "USING") left then item_clause clause.Using (behind 1 left)
    else None

-- the clause in front is added to those before it, and reading goes on behind it
abbrev pub with_clause : List ℕ → Laid → Clauses → Option (Clause × Left)
    → (Clauses → Left → Option Clauses) → Option Clauses
with_clause text laid found None next = None
with_clause text laid found (Some one) next = next (added text laid found one.0) one.1

-- The clauses up to a period that is the last token. The number bounds the clauses; each has a token, so the number of
-- tokens is enough.
unfoldable pub clauses_from : List ℕ → Laid → ℕ → Clauses → Left → Option Clauses
clauses_from text laid zero found left = None
clauses_from text laid (suc turns) found left =
    if is_end left.tokens then Some found
    else with_clause text laid found (one_clause left) (clauses_from text laid turns)

-- the clauses of all that is left
abbrev pub clauses_in : Laid → Left → Option Clauses
clauses_in laid left = clauses_from left.text laid (length left.tokens) no_clauses left

-- AT, a row and a column
abbrev pub place : TokenReader At
place = do
  at ← expect_word (codes "AT")
  position

-- a place with clauses behind it
abbrev pub body_by : Laid → Option (At × Left) → Option FieldBody
body_by laid None = None
body_by laid (Some found) =
    option_map (λ clauses. record { at = found.0; clauses = clauses }) (clauses_in laid found.1)

-- behind the name of a field: AT row, column and clauses, up to a period as the last token
abbrev pub body_of : Laid → Left → Option FieldBody
body_of laid left = body_by laid (place left)
