-- The order entry with ORDERS as the program of its terminals: their number, their pairs and entries, its screens, its records and
-- its failures are free.
use Rattle.std.specs.Prelude.{ℕ, false, List, [], ◌∷◌, ◌++◌, codes}
use Rattle.pw_code.specs.declared.field.ScreenTable.{ScreenTable}
use Rattle.pw_order_laws.specs.Servers.{OrderChoices, order_deck}
use Rattle.pw_tree_meaning.specs.Program.{DeckModel, Program}
use Rattle.pw_tree_meaning.specs.Samples.{sample_program}

-- the data of ORDERS, without comments
abbrev pub clerk_data : List ℕ
clerk_data =
    codes "01 DONE PIC X VALUE \"N\". 01 MESSAGE PIC X(40). "
    ++ codes "01 TYPED. 02 ITEM-1 PIC X(4). 02 QTY-1 PIC 9(3). 02 ITEM-2 PIC X(4). 02 QTY-2 PIC 9(3). "
    ++ codes "01 ITEM-NUMBER. 02 FILLER PIC X. 02 ITEM-DIGITS PIC X(3). "
    ++ codes "01 ORDER-MSG. 02 O-CUSTOMER PIC X(8). 02 O-LINES. 03 O-LINE OCCURS 2. 04 O-ITEM PIC X(4). 04 O-QTY PIC 9(3). "
    ++ codes "02 O-TOTAL PIC 9(6)V99. "
    ++ codes "01 ORDER-REPLY. 02 N-CODE PIC 9(4). 02 N-NUMBER PIC 9(4). "
    ++ codes "01 STOCK-MSG. 02 K-ITEM PIC X(4). 02 K-CHANGE PIC S9(3). "
    ++ codes "01 STOCK-REPLY. 02 K-CODE PIC 9(4). 02 K-PRICE PIC 9(4)V99. "
    ++ codes "01 AMOUNT PIC 9(7)V99. 01 GOODS PIC 9(6)V99. 01 DISCOUNT PIC S9(5)V99. 01 I PIC 9."

-- the procedure of ORDERS, without comments
abbrev pub clerk_text : List ℕ
clerk_text =
    codes "MAIN. DISPLAY BASE ORDER-FORM. PERFORM NEXT-REQUEST UNTIL DONE = \"Y\". STOP RUN. "
    ++ codes "NEXT-REQUEST. ACCEPT ORDER-FORM UNTIL F1, F2, SF16. IF TERMINATION-STATUS = 3 MOVE \"Y\" TO DONE "
    ++ codes "ELSE PERFORM TAKE-REQUEST DISPLAY ORDER-FORM DISPLAY MESSAGE. "
    ++ codes "TAKE-REQUEST. MOVE SPACES TO MESSAGE. MOVE 0 TO N-NUMBER GOODS DISCOUNT O-TOTAL. "
    ++ codes "PERFORM ONE OF TAKE-ORDER, BOOK-DELIVERY DEPENDING ON TERMINATION-STATUS. "
    ++ codes "TAKE-ORDER. MOVE TYPED TO O-LINES. IF O-CUSTOMER = SPACES MOVE \"WHO ORDERS?\" TO MESSAGE. "
    ++ codes "IF QTY-1 = 0 AND QTY-2 = 0 MOVE \"HOW MANY PIECES?\" TO MESSAGE. MOVE 1 TO I. PERFORM CHECK-LINE UNTIL I > 2. "
    ++ codes "IF MESSAGE = SPACES PERFORM ENTER-ORDER. "
    ++ codes "CHECK-LINE. MOVE O-ITEM (I) TO ITEM-NUMBER. IF O-QTY (I) > 0 AND ITEM-DIGITS NOT NUMERIC "
    ++ codes "MOVE \"AN ITEM IS A LETTER AND THREE DIGITS\" TO MESSAGE. ADD 1 TO I. "
    ++ codes "ENTER-ORDER. BEGIN-TRANSACTION. IF RESTART-COUNTER > 0 DISPLAY \"TRYING THE ORDER AGAIN\". "
    ++ codes "IF RESTART-COUNTER > 10 MOVE \"THE STOCK IS TOO BUSY: TRY LATER\" TO MESSAGE. MOVE 1 TO I. "
    ++ codes "PERFORM TAKE-LINE UNTIL I > 2 OR MESSAGE NOT = SPACES. IF MESSAGE = SPACES PERFORM ADD-UP. "
    ++ codes "IF MESSAGE = SPACES PERFORM WRITE-ORDER. IF MESSAGE = SPACES END-TRANSACTION MOVE \"ORDER IS ENTERED\" TO MESSAGE "
    ++ codes "ELSE ABORT-TRANSACTION MOVE 0 TO N-NUMBER GOODS DISCOUNT O-TOTAL. "
    ++ codes "TAKE-LINE. IF O-QTY (I) > 0 PERFORM TAKE-PIECES. ADD 1 TO I. "
    ++ codes "TAKE-PIECES. MOVE O-ITEM (I) TO K-ITEM. SUBTRACT O-QTY (I) FROM 0 GIVING K-CHANGE. PERFORM CHANGE-STOCK. "
    ++ codes "IF TERMINATION-STATUS = 3 PERFORM NOT-ENOUGH. MULTIPLY O-QTY (I) BY K-PRICE GIVING AMOUNT. "
    ++ codes "ADD AMOUNT TO GOODS ON SIZE ERROR MOVE \"ORDER IS TOO LARGE\" TO MESSAGE. "
    ++ codes "CHANGE-STOCK. SEND STOCK-MSG TO STOCK-SRV REPLY CODE 0 YIELDS STOCK-REPLY "
    ++ codes "CODE 1 YIELDS STOCK-REPLY CODE 2 YIELDS STOCK-REPLY CODE 3 YIELDS STOCK-REPLY. "
    ++ codes "IF TERMINATION-STATUS = 2 MOVE \"NO SUCH ITEM\" TO MESSAGE. "
    ++ codes "IF TERMINATION-STATUS = 4 MOVE \"STOCK RECORD IS DAMAGED: CALL THE STORE\" TO MESSAGE. "
    ++ codes "NOT-ENOUGH. IF RESTART-COUNTER < 2 RESTART-TRANSACTION ELSE MOVE \"NOT ENOUGH IN STOCK\" TO MESSAGE. "
    ++ codes "ADD-UP. IF GOODS >= 500 MULTIPLY -0.025 BY GOODS GIVING DISCOUNT. ADD DISCOUNT TO GOODS GIVING O-TOTAL. "
    ++ codes "WRITE-ORDER. SEND ORDER-MSG TO ORDER-SRV REPLY CODE 0 YIELDS ORDER-REPLY CODE 1 YIELDS ORDER-REPLY. "
    ++ codes "IF TERMINATION-STATUS = 2 MOVE \"NO NUMBER FOR THE ORDER\" TO MESSAGE. "
    ++ codes "BOOK-DELIVERY. MOVE ITEM-1 TO K-ITEM. MOVE QTY-1 TO K-CHANGE. IF QTY-1 = 0 MOVE \"HOW MANY PIECES?\" TO MESSAGE "
    ++ codes "ELSE PERFORM CHANGE-STOCK IF TERMINATION-STATUS = 3 MOVE \"THE STORE IS FULL\" TO MESSAGE. "
    ++ codes "IF MESSAGE = SPACES MOVE \"DELIVERY IS BOOKED\" TO MESSAGE."

-- ORDERS with any screens
abbrev pub clerk : List ScreenTable → Program
clerk screens = record (sample_program false (codes "ORDERS") [] clerk_data clerk_text) { screens = screens }

-- the order entry of which each terminal runs ORDERS
abbrev pub clerk_deck : List ScreenTable → OrderChoices → DeckModel
clerk_deck screens choices = order_deck (record choices { rest = record choices.rest { programs = clerk screens ∷ [] } })
