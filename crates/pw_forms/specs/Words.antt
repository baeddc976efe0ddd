-- The words of a procedure.
use Rattle.std.specs.Prelude.{ℕ, List, [], ◌∷◌, Bool, true, false, not, ◌&&◌, ◌||◌, is_some, codes, slice_get, Option, Some, None, unwrap_or}
use Rattle.std.specs.Str.{str_to_ascii_uppercase}
use Rattle.pw_words.specs.Words.{Word, word_place}
use Rattle.pw_words.specs.Texts.{requester_words, server_words}
use Rattle.pw_text.specs.declared.token.TokenKind.{TokenKind}
use Rattle.pw_text.specs.declared.token.TokenKind.TheVariants as kind
use Rattle.pw_text.specs.declared.token.Token.{Token}
use Rattle.pw_text.specs.Cursor.{same_kind, spelling, is_the_word as is_word_of}
use Rattle.pw_forms.specs.declared.statement.Operation.{Operation}
use Rattle.pw_forms.specs.declared.statement.Operation.TheVariants as operations
use Rattle.pw_forms.specs.declared.mark.FileVerb.{FileVerb}
use Rattle.pw_forms.specs.declared.mark.FileVerb.TheVariants as files
use Rattle.pw_forms.specs.declared.mark.TransactionVerb.{TransactionVerb}
use Rattle.pw_forms.specs.declared.mark.TransactionVerb.TheVariants as transactions
use Rattle.pw_forms.specs.declared.mark.TerminalVerb.{TerminalVerb}
use Rattle.pw_forms.specs.declared.mark.TerminalVerb.TheVariants as terminals
use Rattle.pw_forms.specs.declared.mark.StatementVerb.TheVariants as verb
use Rattle.pw_forms.specs.declared.mark.TokenMark.{TokenMark}
use Rattle.pw_forms.specs.declared.mark.TokenMark.TheVariants as mark

-- a word
abbrev pub is_word : TokenKind → Bool
is_word found = same_kind found kind.Word

-- the token is this word, in either case
abbrev pub is_the_word : List ℕ → Token → Word → Bool
is_the_word text token word = is_word_of text word token

-- the place of a word in the table of servers, or in that of requesters
unfoldable pub table_place : Bool → Word → Option ℕ
table_place true word = word_place server_words word
table_place false word = word_place requester_words word

-- the word is in the table
abbrev pub is_table_word : Bool → Word → Bool
is_table_word server word = is_some (table_place server word)

-- a verb of arithmetic, of files, of terminals and of transactions
abbrev pub arithmetic : Operation → TokenMark
arithmetic operation = mark.Verb (verb.Arithmetic operation)

-- the mark of a verb of files
abbrev pub file : FileVerb → TokenMark
file found = mark.Verb (verb.File found)

-- the mark of a verb of terminals
abbrev pub terminal : TerminalVerb → TokenMark
terminal found = mark.Verb (verb.Terminal found)

-- the mark of a verb of transactions
abbrev pub transaction : TransactionVerb → TokenMark
transaction found = terminal (terminals.Transaction found)

-- the words that begin a piece, in the order in which both tables begin with them
abbrev pub marks : List TokenMark
marks =
    terminal terminals.Accept ∷ transaction transactions.Abort ∷ arithmetic operations.Add ∷
    transaction transactions.Begin ∷ terminal terminals.Call ∷ file files.Delete ∷
    terminal terminals.Display ∷ arithmetic operations.Divide ∷ transaction transactions.End ∷
    mark.Verb verb.Exit ∷ mark.Verb verb.If ∷ mark.Verb verb.Move ∷
    arithmetic operations.Multiply ∷ mark.Verb verb.Perform ∷ file files.Read ∷
    transaction transactions.Restart ∷ file files.Rewrite ∷ terminal terminals.Send ∷
    mark.Verb verb.Stop ∷ arithmetic operations.Subtract ∷ file files.Write ∷ mark.Else ∷
    mark.EndIf ∷ []

-- the mark at a place
abbrev pub mark_in : List TokenMark → ℕ → TokenMark
mark_in found place = unwrap_or (slice_get found place) mark.Other

-- what a word begins, by its place in the table
abbrev pub mark_at : Option ℕ → TokenMark
mark_at None = mark.Other
mark_at (Some place) = mark_in marks place

-- what a token begins
abbrev pub mark_of : Bool → List ℕ → Token → TokenMark
mark_of server text token = mark_by token.kind
  where
    mark_by : TokenKind → TokenMark
    mark_by kind.Period = mark.Period
    mark_by kind.Word = mark_at (table_place server (spelling text token))
    mark_by _ = mark.Other

-- the token begins a piece
abbrev pub begins_piece : TokenMark → Bool
begins_piece mark.Other = false
begins_piece _ = true

-- the token is $RECEIVE
abbrev pub is_receive : List ℕ → Token → Bool
is_receive text token = is_the_word text token (codes "$RECEIVE")

-- the token may be a name: a word that is neither a table word nor $RECEIVE
abbrev pub is_name_token : Bool → List ℕ → Token → Bool
is_name_token server text token =
    is_word token.kind
    && (not (is_table_word server (spelling text token)) && not (is_receive text token))

-- a register is an item whose name is a table word
abbrev pub is_register : Bool → List ℕ → Token → Bool
is_register true text token = is_the_word text token (codes "FILE-STATUS")
is_register false text token =
    is_the_word text token (codes "TERMINATION-STATUS")
    || is_the_word text token (codes "RESTART-COUNTER")

-- the token may be the name of an item
abbrev pub is_item_name : Bool → List ℕ → Token → Bool
is_item_name server text token = is_name_token server text token || is_register server text token

-- the name that a token is, in upper case
abbrev pub token_name : List ℕ → Token → Word
token_name text token = str_to_ascii_uppercase (spelling text token)
