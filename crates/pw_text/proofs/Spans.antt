-- The tokens lie one behind the other, on lines of the text.
use Rattle.std.proofs.Common.{ℕ, ◌+◌, ◌≤◌, List, [], ◌∷◌, ◌++◌, All, arith}
use Rattle.std.proofs.lemmas.List.{append-nil}
use Rattle.std.proofs.lemmas.List.Elements.{All-push}
use Rattle.pw_text.specs.declared.token.Token.{Token}
use Rattle.pw_text.specs.declared.item.TextPiece.{TextPiece}
use Rattle.pw_text.specs.declared.item.TextPiece.TheVariants as piece
use Rattle.pw_text.specs.Items.{quotes}
use Rattle.pw_text.specs.Tokens.{token_of, tokens_at, LieBetween, StandsOn}

-- room behind the last token
pub LieBetween-longer : (tokens : List Token) (from at to : ℕ) → LieBetween from tokens at → at ≤ to → LieBetween from tokens to
LieBetween-longer [] from at to lie le = omega arith
LieBetween-longer (token ∷ tokens) from at to lie le = (lie.0, lie.1, LieBetween-longer tokens token.end at to lie.2 le)

-- one more token behind the last one
LieBetween-push : (tokens : List Token) (from at to : ℕ) (token : Token) → LieBetween from tokens at → at ≤ token.start → token.start ≤ token.end → token.end ≤ to → LieBetween from (tokens ++ token ∷ []) to
LieBetween-push [] from at to token lie starts ends le = (omega arith, ends, le)
LieBetween-push (first ∷ tokens) from at to token lie starts ends le = (lie.0, lie.1, LieBetween-push tokens first.end at to token lie.2 starts ends le)

-- one more piece of a size
pub LieBetween-piece : (piece : TextPiece) (tokens : List Token) (line from at size : ℕ) → LieBetween from tokens at → quotes piece ≤ size → LieBetween from (tokens ++ tokens_at piece line at (at + size)) (at + size)
LieBetween-piece (piece.Token kind) tokens line from at size lie fits = LieBetween-push tokens from at (at + size) (token_of kind line at (at + size)) lie (omega arith) (omega arith) (omega arith)
LieBetween-piece (piece.Fault code) tokens line from at size lie fits = rw append-nil (LieBetween-longer tokens from at (at + size) lie (omega arith))
LieBetween-piece piece.Gap tokens line from at size lie fits = rw append-nil (LieBetween-longer tokens from at (at + size) lie (omega arith))
LieBetween-piece piece.LineEnd tokens line from at size lie fits = rw append-nil (LieBetween-longer tokens from at (at + size) lie (omega arith))

-- one more piece of a line
pub lines-piece : (piece : TextPiece) (tokens : List Token) (line start end first last : ℕ) → All (StandsOn first last) tokens → first ≤ line → line ≤ last → All (StandsOn first last) (tokens ++ tokens_at piece line start end)
lines-piece (piece.Token kind) tokens line start end first last all from to = All-push (StandsOn first last) tokens (token_of kind line start end) all (from, to)
lines-piece (piece.Fault code) tokens line start end first last all from to = rw append-nil all
lines-piece piece.Gap tokens line start end first last all from to = rw append-nil all
lines-piece piece.LineEnd tokens line start end first last all from to = rw append-nil all
