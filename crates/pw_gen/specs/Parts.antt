-- The lines that stand in every generated deck.
use Rattle.std.specs.Prelude.{ℕ, List, [], ◌∷◌, codes}

-- the bytes of a line, without its end
abbrev pub Line : Type 0
Line = List ℕ

-- the commands before those of the terminals
abbrev pub commands : List Line
commands =
    codes "?PATHCOM" ∷
    codes "SET SERVER PROGRAM STORE-P" ∷
    codes "SET SERVER MAXSERVERS 4" ∷
    codes "ADD SERVER STORE" ∷
    codes "ADD TCP TCP-1" ∷
    codes "START TCP TCP-1" ∷
    codes "ADD TCP TCP-2" ∷
    codes "START TCP TCP-2" ∷
    codes "SET TERM INITIAL KEYS" ∷
    codes "SET TERM MAXTMFRESTARTS 64" ∷ []

-- the section of the requester KEYS
abbrev pub requester : List Line
requester =
    codes "?SCREEN-COBOL KEYS" ∷
    codes "IDENTIFICATION DIVISION." ∷
    codes "PROGRAM-ID. KEYS." ∷
    codes "DATA DIVISION." ∷
    codes "WORKING-STORAGE SECTION." ∷
    codes "01 MSG." ∷
    codes "  02 M-OP PIC X." ∷
    codes "  02 M-REC." ∷
    codes "    03 M-KEY PIC XX." ∷
    codes "    03 M-N PIC 9(4)." ∷
    codes "01 ANS." ∷
    codes "  02 A-CODE PIC 9(4)." ∷
    codes "  02 A-STATUS PIC 9(4)." ∷
    codes "  02 A-REC PIC X(6)." ∷
    codes "SCREEN SECTION." ∷
    codes "01 ASK." ∷
    codes "  02 FILLER AT 1, 1 VALUE \"OP KEY N\"." ∷
    codes "  02 F-OP AT 2, 1 PIC X USING M-OP." ∷
    codes "  02 F-KEY AT 2, 4 PIC XX USING M-KEY." ∷
    codes "  02 F-N AT 2, 8 PIC 9(4) USING M-N." ∷
    codes "PROCEDURE DIVISION." ∷
    codes "P1." ∷
    codes "  PERFORM P2 UNTIL M-OP = \"Z\"." ∷
    codes "  STOP RUN." ∷
    codes "P2." ∷
    codes "  ACCEPT ASK UNTIL F1, F2, F3, F4, F5." ∷
    codes "  PERFORM ONE OF P3, P4, P5, P6, P7" ∷
    codes "    DEPENDING ON TERMINATION-STATUS." ∷
    codes "P3." ∷
    codes "  SEND MSG TO STORE REPLY CODE 0 YIELDS ANS." ∷
    codes "  DISPLAY ANS." ∷
    codes "P4." ∷
    codes "  BEGIN-TRANSACTION." ∷
    codes "P5." ∷
    codes "  END-TRANSACTION." ∷
    codes "P6." ∷
    codes "  ABORT-TRANSACTION." ∷
    codes "P7." ∷
    codes "  RESTART-TRANSACTION." ∷ []

-- the section of the server STORE-P
abbrev pub server : List Line
server =
    codes "?SERVER STORE-P" ∷
    codes "IDENTIFICATION DIVISION." ∷
    codes "PROGRAM-ID. STORE-P." ∷
    codes "DATA DIVISION." ∷
    codes "WORKING-STORAGE SECTION." ∷
    codes "01 MSG." ∷
    codes "  02 M-OP PIC X." ∷
    codes "  02 M-REC." ∷
    codes "    03 M-KEY PIC XX." ∷
    codes "    03 M-N PIC 9(4)." ∷
    codes "01 ANS." ∷
    codes "  02 A-CODE PIC 9(4)." ∷
    codes "  02 A-STATUS PIC 9(4)." ∷
    codes "  02 A-REC PIC X(6)." ∷
    codes "PROCEDURE DIVISION." ∷
    codes "P1." ∷
    codes "  READ $RECEIVE INTO MSG." ∷
    codes "  IF M-OP = \"R\" READ STOCK KEY M-KEY INTO A-REC." ∷
    codes "  IF M-OP = \"N\" READ NEXT STOCK AFTER M-KEY INTO A-REC." ∷
    codes "  IF M-OP = \"W\" WRITE STOCK FROM M-REC." ∷
    codes "  IF M-OP = \"U\" REWRITE STOCK FROM M-REC." ∷
    codes "  IF M-OP = \"D\" DELETE STOCK KEY M-KEY." ∷
    codes "  IF M-OP = \"I\" READ STOCK KEY M-KEY INTO M-REC" ∷
    codes "    ADD 1 TO M-N REWRITE STOCK FROM M-REC" ∷
    codes "    MOVE M-REC TO A-REC." ∷
    codes "  MOVE FILE-STATUS TO A-STATUS." ∷
    codes "  WRITE $RECEIVE FROM ANS." ∷ []

-- the section of the file STOCK
abbrev pub stock : List Line
stock =
    codes "?FILE STOCK KEY 2" ∷
    codes "A00000" ∷
    codes "A10000" ∷
    codes "A20000" ∷
    codes "A30000" ∷
    codes "A40000" ∷
    codes "A50000" ∷
    codes "A60000" ∷
    codes "A70000" ∷
    codes "A80000" ∷
    codes "A90000" ∷ []

-- the one failure line, and the end
abbrev pub ending : List Line
ending =
    codes "?FAIL" ∷
    codes "TCP TCP-1 PRIMARY AFTER 200" ∷
    codes "?END" ∷ []
