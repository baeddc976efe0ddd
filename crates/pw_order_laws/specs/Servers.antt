-- The order entry of decks/applications/orders.deck with its two servers, their classes and its files: its terminals and their
-- programs, its records and its failures are free.
use Rattle.std.specs.Prelude.{ℕ, true, List, [], ◌∷◌, ◌++◌, codes}
use Rattle.pw_tree_meaning.specs.Program.{DeckModel}
use Rattle.pw_tree_meaning.specs.Samples.{sample_program}

-- the data of STOCK-P and of ORDER-P
abbrev pub stock_data : List ℕ
stock_data =
    codes "01 STOCK-MSG. 02 K-ITEM PIC X(4). 02 K-CHANGE PIC S9(3). "
    ++ codes "01 STOCK-REC. 02 S-ITEM PIC X(4). 02 S-PRICE PIC 9(4)V99. 02 S-QTY PIC 9(5). 02 S-DELIVERED PIC 9(5). "
    ++ codes "01 STOCK-REPLY. 02 K-CODE PIC 9(4) VALUE 0. 02 K-PRICE PIC 9(4)V99."

abbrev pub order_data : List ℕ
order_data =
    codes "01 ORDER-REC. 02 O-NUMBER PIC 9(4). 02 O-REST PIC X(30). "
    ++ codes "01 CONTROL-REC. 02 C-KEY PIC X(4) VALUE \"LAST\". 02 C-NUMBER PIC 9(4). "
    ++ codes "01 ORDER-REPLY. 02 N-CODE PIC 9(4) VALUE 0. 02 N-NUMBER PIC 9(4)."

-- their procedures, without comments
abbrev pub stock_text : List ℕ
stock_text =
    codes "MAIN. READ $RECEIVE INTO STOCK-MSG. READ STOCK WITH LOCK KEY K-ITEM INTO STOCK-REC. "
    ++ codes "IF FILE-STATUS NOT = 0 MOVE 1 TO K-CODE "
    ++ codes "ELSE IF S-PRICE NOT NUMERIC OR S-QTY NOT NUMERIC OR S-DELIVERED NOT NUMERIC MOVE 3 TO K-CODE "
    ++ codes "ELSE PERFORM CHANGE-STOCK. WRITE $RECEIVE FROM STOCK-REPLY. "
    ++ codes "CHANGE-STOCK. ADD K-CHANGE TO S-QTY ON SIZE ERROR MOVE 2 TO K-CODE. "
    ++ codes "IF K-CHANGE > 0 ADD K-CHANGE TO S-DELIVERED ON SIZE ERROR MOVE 2 TO K-CODE. "
    ++ codes "IF K-CODE = 0 REWRITE STOCK FROM STOCK-REC. MOVE S-PRICE TO K-PRICE."

abbrev pub order_text : List ℕ
order_text =
    codes "MAIN. READ $RECEIVE INTO O-REST. READ CONTROL WITH LOCK KEY C-KEY INTO CONTROL-REC. "
    ++ codes "IF FILE-STATUS NOT = 0 MOVE 1 TO N-CODE. ADD 1 TO C-NUMBER ON SIZE ERROR MOVE 1 TO N-CODE. "
    ++ codes "IF N-CODE = 0 PERFORM NUMBER-IT. WRITE $RECEIVE FROM ORDER-REPLY. "
    ++ codes "NUMBER-IT. MOVE C-NUMBER TO O-NUMBER N-NUMBER. WRITE ORDERS FROM ORDER-REC. "
    ++ codes "IF FILE-STATUS = 0 REWRITE CONTROL FROM CONTROL-REC ELSE MOVE 1 TO N-CODE."

-- what an order entry is free to choose
pub record OrderChoices : Type 0 where
  pub rest : DeckModel
  pub stock_processes : ℕ
  pub order_processes : ℕ
  pub stock : List (List ℕ)
  pub control : List (List ℕ)
  pub orders : List (List ℕ)

-- its deck
abbrev pub order_deck : OrderChoices → DeckModel
order_deck choices = record choices.rest {
  servers = sample_program true (codes "STOCK-P") [] stock_data stock_text ∷ sample_program true (codes "ORDER-P") [] order_data order_text ∷ [];
  classes = (record { name = codes "STOCK-SRV"; server = 0; processes = choices.stock_processes })
      ∷ (record { name = codes "ORDER-SRV"; server = 1; processes = choices.order_processes }) ∷ [];
  files = (record { name = codes "STOCK"; key = 4; records = choices.stock })
      ∷ (record { name = codes "CONTROL"; key = 4; records = choices.control })
      ∷ (record { name = codes "ORDERS"; key = 4; records = choices.orders }) ∷ [];
}
