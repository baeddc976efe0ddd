-- The tokens of a procedure, cut into pieces, and what each piece is by its tokens alone.
use Rattle.std.specs.Prelude.{ℕ, ◌+◌, List, [], ◌∷◌, ◌++◌, length, take_while, Bool, true, false, not, ◌&&◌, ◌||◌, Option, Some, None, if◌then◌else◌}
use Rattle.pw_base.specs.declared.fault_code.FaultCode.TheVariants.{NameTwice, NoSuchForm, NotForServers}
use Rattle.pw_text.specs.declared.token.Token.{Token}
use Rattle.pw_text.specs.Cursor.{spelling}
use Rattle.pw_forms.specs.declared.mark.StatementVerb.{StatementVerb}
use Rattle.pw_forms.specs.declared.mark.StatementVerb.TheVariants as verb
use Rattle.pw_forms.specs.declared.mark.TokenMark.{TokenMark}
use Rattle.pw_forms.specs.declared.mark.TokenMark.TheVariants as mark
use Rattle.pw_forms.specs.declared.form.Form.{Form}
use Rattle.pw_forms.specs.declared.form.Form.TheVariants as forms
use Rattle.pw_forms.specs.declared.piece.Piece.{Piece}
use Rattle.pw_forms.specs.declared.piece.Piece.TheVariants as pieces
use Rattle.pw_forms.specs.declared.piece.Placed.{Placed}
use Rattle.pw_forms.specs.Words.{is_word, is_table_word, mark_of, begins_piece, is_receive, token_name}
use Rattle.pw_forms.specs.Readers.{Rest}
use Rattle.pw_forms.specs.Forms.{form}

-- a period
abbrev pub is_period : TokenMark → Bool
is_period mark.Period = true
is_period _ = false

-- what the first token of a piece begins
abbrev pub first_mark : Bool → List ℕ → List Token → TokenMark
first_mark server text [] = mark.Other
first_mark server text (token ∷ tokens) = mark_of server text token

-- A token before pieces. It is joined with the first of them, unless that begins with a verb, ELSE,
-- END-IF or a period, or the token is a period itself.
abbrev pub before : Bool → List ℕ → Token → List (List Token) → List (List Token)
before server text token [] = (token ∷ []) ∷ []
before server text token (piece ∷ pieces) =
    if is_period (mark_of server text token) || begins_piece (first_mark server text piece)
    then (token ∷ []) ∷ (piece ∷ pieces)
    else (token ∷ piece) ∷ pieces

-- the pieces of tokens
unfoldable pub cut : Bool → List ℕ → List Token → List (List Token)
cut server text [] = []
cut server text (token ∷ tokens) = before server text token (cut server text tokens)

-- how many tokens stand in front of the next that begins a piece
abbrev pub run_size : Bool → List ℕ → List Token → ℕ
run_size server text tokens =
    length (take_while (λ token. not (begins_piece (mark_of server text token))) tokens)

-- how many tokens the piece in front has
abbrev pub piece_size : Bool → List ℕ → List Token → ℕ
piece_size server text [] = 1
piece_size server text (first ∷ tokens) =
    if is_period (mark_of server text first) then 1 else 1 + run_size server text tokens

-- the first of the pieces
abbrev pub first_piece : List (List Token) → List Token
first_piece [] = []
first_piece (piece ∷ pieces) = piece

-- the first piece is a period
abbrev pub period_follows : Bool → List ℕ → List (List Token) → Bool
period_follows server text pieces = is_period (first_mark server text (first_piece pieces))

-- the tokens of pieces, one piece behind the other
abbrev pub pieces_joined : List (List Token) → List Token
pieces_joined [] = []
pieces_joined (piece ∷ pieces) = piece ++ pieces_joined pieces

-- ACCEPT, DISPLAY, CALL, SEND and the verbs of transactions are not for servers
abbrev pub is_barred : StatementVerb → Bool
is_barred (verb.Terminal found) = true
is_barred _ = false

-- the piece that a form is, where there is one
abbrev pub form_piece : Option (Form × Rest) → Piece
form_piece None = pieces.Fault NoSuchForm
form_piece (Some (forms.Whole statement, rest)) = pieces.Whole statement
form_piece (Some (forms.Opens head, rest)) = pieces.Opens head

-- a verb and the tokens behind it
abbrev pub verb_piece : Bool → List ℕ → ℕ → StatementVerb → List Token → Piece
verb_piece server text line verb tokens =
    if server && is_barred verb then pieces.Fault NotForServers
    else form_piece (form verb line (record { server = server; text = text; tokens = tokens }))

-- a word with nothing behind it
abbrev pub alone : Piece → List Token → Piece
alone piece [] = piece
alone piece (token ∷ tokens) = pieces.Fault NoSuchForm

-- the name of a paragraph
abbrev pub name_piece : Bool → List ℕ → Token → Piece
name_piece server text word =
    if is_table_word server (spelling text word) then pieces.Fault NameTwice
    else if is_receive text word then pieces.Fault NoSuchForm
    else pieces.Name (token_name text word)

-- a run of other tokens: one word before a period is the name of a paragraph
abbrev pub run_piece : Bool → List ℕ → Bool → Token → List Token → Piece
run_piece server text followed word [] =
    if is_word word.kind && followed then name_piece server text word else pieces.Fault NoSuchForm
run_piece server text followed word (token ∷ tokens) = pieces.Fault NoSuchForm

-- what a piece is that begins with a token; followed: a period follows it
abbrev pub piece_by : TokenMark → Bool → List ℕ → Bool → Token → List Token → Piece
piece_by (mark.Verb verb) server text followed first tokens =
    verb_piece server text first.line verb tokens
piece_by mark.Else server text followed first tokens = alone pieces.Else tokens
piece_by mark.EndIf server text followed first tokens = alone pieces.EndIf tokens
piece_by mark.Period server text followed first tokens = pieces.Period
piece_by mark.Other server text followed first tokens = run_piece server text followed first tokens

-- a piece with its line
unfoldable pub placed : Bool → List ℕ → Bool → List Token → Placed
placed server text followed [] = record { line = 0; piece = pieces.Period }
placed server text followed (first ∷ tokens) =
    record {
      line = first.line;
      piece = piece_by (mark_of server text first) server text followed first tokens;
    }

-- what each of the pieces is
unfoldable pub placed_all : Bool → List ℕ → List (List Token) → List Placed
placed_all server text [] = []
placed_all server text (piece ∷ pieces) =
    placed server text (period_follows server text pieces) piece ∷ placed_all server text pieces

-- the pieces of a procedure
abbrev pub pieces_of : Bool → List ℕ → List Token → List Placed
pieces_of server text tokens = placed_all server text (cut server text tokens)
