-- The rows of the tables.
use Rattle.std.specs.Prelude.{List, [], ◌∷◌, ◌++◌, codes, map}
use Rattle.pw_base.specs.FaultCodes.{fault_codes, text}
use Rattle.pw_words.specs.Words.{Word}

-- the words that begin a statement
abbrev pub verb_words : List Word
verb_words =
    codes "ACCEPT" ∷ codes "ABORT-TRANSACTION" ∷ codes "ADD" ∷ codes "BEGIN-TRANSACTION" ∷ codes "CALL" ∷
    codes "DELETE" ∷ codes "DISPLAY" ∷ codes "DIVIDE" ∷ codes "END-TRANSACTION" ∷ codes "EXIT" ∷ codes "IF" ∷
    codes "MOVE" ∷ codes "MULTIPLY" ∷ codes "PERFORM" ∷ codes "READ" ∷ codes "RESTART-TRANSACTION" ∷ codes "REWRITE" ∷
    codes "SEND" ∷ codes "STOP" ∷ codes "SUBTRACT" ∷ codes "WRITE" ∷ []

-- the words that begin a piece of a procedure
abbrev pub piece_words : List Word
piece_words = verb_words ++ codes "ELSE" ∷ codes "END-IF" ∷ []

-- the other words that both languages have
abbrev pub common_words : List Word
common_words =
    codes "ELSE" ∷ codes "END-IF" ∷ codes "THEN" ∷ codes "AND" ∷ codes "OR" ∷ codes "NOT" ∷ codes "IS" ∷
    codes "NUMERIC" ∷ codes "EQUAL" ∷ codes "GREATER" ∷ codes "LESS" ∷ codes "THAN" ∷ codes "TO" ∷ codes "FROM" ∷
    codes "BY" ∷ codes "INTO" ∷ codes "GIVING" ∷ codes "ON" ∷ codes "SIZE" ∷ codes "ERROR" ∷ codes "TIMES" ∷
    codes "UNTIL" ∷ codes "ONE" ∷ codes "OF" ∷ codes "DEPENDING" ∷ codes "PROGRAM" ∷ codes "RUN" ∷ codes "SPACE" ∷
    codes "SPACES" ∷ codes "ZERO" ∷ codes "ZEROS" ∷ codes "ZEROES" ∷ codes "FILLER" ∷ codes "PIC" ∷ codes "PICTURE" ∷
    codes "VALUE" ∷ codes "OCCURS" ∷ codes "DIVISION" ∷ codes "SECTION" ∷ []

-- the words that requesters have besides
abbrev pub own_requester_words : List Word
own_requester_words =
    codes "BASE" ∷ codes "AT" ∷ codes "USING" ∷ codes "REPLY" ∷ codes "CODE" ∷ codes "YIELDS" ∷
    codes "TERMINATION-STATUS" ∷ codes "RESTART-COUNTER" ∷ []

-- the words that servers have besides
abbrev pub own_server_words : List Word
own_server_words =
    codes "$RECEIVE" ∷ codes "NEXT" ∷ codes "KEY" ∷ codes "AFTER" ∷ codes "FILE-STATUS" ∷ codes "WITH" ∷
    codes "LOCK" ∷ []

-- the words of a requester
abbrev pub requester_words : List Word
requester_words = verb_words ++ (common_words ++ own_requester_words)

-- the words of a server
abbrev pub server_words : List Word
server_words = verb_words ++ (common_words ++ own_server_words)

-- the words of the commands
abbrev pub pathcom_words : List Word
pathcom_words =
    codes "SET" ∷ codes "ADD" ∷ codes "START" ∷ codes "TCP" ∷ codes "TERM" ∷ codes "SERVER" ∷ codes "INITIAL" ∷
    codes "PROGRAM" ∷ codes "MAXSERVERS" ∷ codes "MAXTMFRESTARTS" ∷ []

-- the texts of the refusals, in the order of the fault codes
abbrev pub refusal_texts : List Word
refusal_texts = map text fault_codes
