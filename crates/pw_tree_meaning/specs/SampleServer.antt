-- The server of a sample deck, which does one operation of each kind by the first character of its
-- message.
use Rattle.std.specs.Prelude.{ℕ, List, [], ◌∷◌, ◌++◌, codes}
use Rattle.pw_onecopy.specs.Behaviour.{Served}
use Rattle.pw_tree_meaning.specs.Samples.{comes_to_on, reply_of, stock_of}

-- the message: an operation, a key and a number; the answer: a code, a status and a record
abbrev pub store_data : List ℕ
store_data =
    codes "01 MSG. 02 M-OP PIC X. 02 M-REC. 03 M-KEY PIC XX. 03 M-N PIC 9(4). "
    ++ codes "01 ANS. 02 A-CODE PIC 9(4). 02 A-STATUS PIC 9(4). 02 A-REC PIC X(6)."

-- the procedure of a server that does what its message says to STOCK
abbrev pub store_text : List ℕ
store_text =
    codes "P1. READ $RECEIVE INTO MSG. "
    ++ codes "IF M-OP = \"R\" READ STOCK KEY M-KEY INTO A-REC. "
    ++ codes "IF M-OP = \"N\" READ NEXT STOCK AFTER M-KEY INTO A-REC. "
    ++ codes "IF M-OP = \"W\" WRITE STOCK FROM M-REC. "
    ++ codes "IF M-OP = \"U\" REWRITE STOCK FROM M-REC. "
    ++ codes "IF M-OP = \"D\" DELETE STOCK KEY M-KEY. "
    ++ codes "IF M-OP = \"I\" READ STOCK KEY M-KEY INTO M-REC ADD 1 TO M-N "
    ++ codes "REWRITE STOCK FROM M-REC MOVE M-REC TO A-REC. "
    ++ codes "MOVE FILE-STATUS TO A-STATUS. WRITE $RECEIVE FROM ANS."

-- what it comes to on a message, where STOCK has A10005 and B10007
abbrev pub stored_by : List ℕ → Served
stored_by message =
    comes_to_on message (codes "A10005" ∷ codes "B10007" ∷ []) store_data store_text

-- its reply, and the records that it leaves
abbrev pub serving : List ℕ → List ℕ × List (List ℕ)
serving message = (reply_of (stored_by message), stock_of (stored_by message))
