-- The tokens of a text, or its first fault.
use Rattle.std.specs.Prelude.{ℕ, zero, suc, ◌+◌, ◌-◌, ◌≤◌, List, [], ◌∷◌, ◌++◌, flat_map, None, Result}
use Rattle.pw_base.specs.declared.fault.Fault.{Fault}
use Rattle.pw_base.specs.First.{least, unless}
use Rattle.pw_text.specs.declared.token.TokenKind.{TokenKind}
use Rattle.pw_text.specs.declared.token.Token.{Token}
use Rattle.pw_text.specs.declared.item.TextPiece.{TextPiece}
use Rattle.pw_text.specs.declared.item.TextPiece.TheVariants as piece
use Rattle.pw_text.specs.declared.item.LinePlace.{LinePlace}
use Rattle.pw_text.specs.declared.item.LinePlace.TheVariants.{LineStart}
use Rattle.pw_text.specs.Bytes.{bad_bytes}
use Rattle.pw_text.specs.Items.{quote_size, item_at}

-- an item of a text, with its line and with its bytes from a start to an end
pub record PlacedTextItem : Type 0 where
  pub piece : TextPiece
  pub line : ℕ
  pub start : ℕ
  pub end : ℕ

-- the line behind a piece
abbrev pub line_after : TextPiece → ℕ → ℕ
line_after (piece.Token kind) line = line
line_after (piece.Fault code) line = line
line_after piece.Gap line = line
line_after piece.LineEnd line = line + 1

-- What stands from a place of a line on, one item behind the other. The first `skip` bytes belong to the item before.
unfoldable pub items_from : ℕ → LinePlace → ℕ → ℕ → List ℕ → List PlacedTextItem
items_from skip place at line [] = []
items_from (suc skip) place at line (b ∷ bs) = items_from skip place (at + 1) line bs
items_from zero place at line (b ∷ bs) =
    let item = item_at place (b ∷ bs) in
    (record { piece = item.piece; line = line; start = at; end = at + item.size }) ∷ items_from (item.size - 1) item.next (at + 1) (line_after item.piece line) bs

-- a token in bytes of a line
abbrev pub token_of : TokenKind → ℕ → ℕ → ℕ → Token
token_of kind line start end = record { kind = kind; line = line; start = start + quote_size kind; end = end - quote_size kind }

-- the token that a piece of a line is, if it is one
abbrev pub tokens_at : TextPiece → ℕ → ℕ → ℕ → List Token
tokens_at (piece.Token kind) line start end = token_of kind line start end ∷ []
tokens_at (piece.Fault code) line start end = []
tokens_at piece.Gap line start end = []
tokens_at piece.LineEnd line start end = []

-- the fault that a piece of a line is, if it is one
abbrev pub faults_at : TextPiece → ℕ → List Fault
faults_at (piece.Token kind) line = []
faults_at (piece.Fault code) line = (record { line = line; code = code }) ∷ []
faults_at piece.Gap line = []
faults_at piece.LineEnd line = []

-- the tokens among the items
abbrev pub tokens_in : List PlacedTextItem → List Token
tokens_in items = flat_map (λ item. tokens_at item.piece item.line item.start item.end) items

-- the faults among the items
abbrev pub faults_in : List PlacedTextItem → List Fault
faults_in items = flat_map (λ item. faults_at item.piece item.line) items

-- the items of a text whose first line has a number
abbrev pub items_of : List ℕ → ℕ → List PlacedTextItem
items_of text first_line = items_from 0 LineStart 0 first_line text

-- the tokens of a text, or the first of its bytes that may not stand there and of its other faults
abbrev pub tokens_of : List ℕ → ℕ → Result (List Token) Fault
tokens_of text first_line =
    unless (least None (bad_bytes first_line text ++ faults_in (items_of text first_line))) (tokens_in (items_of text first_line))

-- the tokens lie one behind the other between two places
abbrev pub LieBetween : ℕ → List Token → ℕ → Type 0
LieBetween from [] to = from ≤ to
LieBetween from (token ∷ tokens) to = (from ≤ token.start) × (token.start ≤ token.end) × LieBetween token.end tokens to

-- the token stands on a line from a first to a last one
abbrev pub StandsOn : ℕ → ℕ → Token → Type 0
StandsOn first last token = (first ≤ token.line) × (token.line ≤ last)
