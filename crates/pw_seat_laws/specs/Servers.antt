-- The seat reservation of decks/applications/seats.deck with its two servers, their classes and its files: its terminals and their
-- programs, its records and its failures are free.
use Rattle.std.specs.Prelude.{ℕ, true, List, [], ◌∷◌, ◌++◌, codes}
use Rattle.pw_data.specs.Layouts.{layout_of}
use Rattle.pw_forms.specs.Procedures.{procedure_of}
use Rattle.pw_tree_meaning.specs.Program.{DeckModel, Program}
use Rattle.pw_tree_meaning.specs.Samples.{laid_by, paragraphs_by, tokens_of_text}

-- the data of MAP-P
abbrev pub map_data : List ℕ
map_data =
    codes "01 FLIGHT PIC X(4). 01 SEAT-ROW. 02 R-KEY. 03 R-FLIGHT PIC X(4). 03 R-NUMBER PIC X(2). 02 R-SEATS PIC X(36). "
    ++ codes "01 N PIC 9 VALUE 0. 01 MAP-REPLY. 02 M-CODE PIC 9(4) VALUE 0. 02 M-ROW OCCURS 3. "
    ++ codes "03 M-NUMBER PIC X(2). 03 M-SEATS PIC X(36)."

-- its procedure, without comments
abbrev pub map_text : List ℕ
map_text =
    codes "MAIN. READ $RECEIVE INTO FLIGHT. MOVE FLIGHT TO R-FLIGHT. "
    ++ codes "PERFORM NEXT-ROW UNTIL FILE-STATUS = 1 OR R-FLIGHT NOT = FLIGHT OR N = 3. "
    ++ codes "IF N = 0 MOVE 1 TO M-CODE. WRITE $RECEIVE FROM MAP-REPLY. "
    ++ codes "NEXT-ROW. READ NEXT SEATS AFTER R-KEY INTO SEAT-ROW. IF FILE-STATUS = 0 AND R-FLIGHT = FLIGHT "
    ++ codes "ADD 1 TO N MOVE R-NUMBER TO M-NUMBER (N) MOVE R-SEATS TO M-SEATS (N)."

-- the data of SALE-P, without comments
abbrev pub sale_data : List ℕ
sale_data =
    codes "01 SALE-REC. 02 S-NAME PIC X(6). 02 S-LEG PIC 9. 02 S-LEGS PIC 9. 02 S-FLIGHT PIC X(4). 02 S-WANTED PIC 9. "
    ++ codes "02 S-LIST. 03 S-SEAT OCCURS 4. 04 S-ROW PIC X(2). 04 S-LETTER PIC X. "
    ++ codes "01 SEAT-ROW. 02 R-KEY. 03 R-FLIGHT PIC X(4). 03 R-NUMBER PIC X(2). 02 R-SEAT OCCURS 4. "
    ++ codes "03 FILLER PIC X. 03 R-LETTER PIC X. 03 FILLER PIC X. 03 R-HOLDER PIC X(6). "
    ++ codes "01 GOT PIC 9 VALUE 0. 01 I PIC 9. "
    ++ codes "01 ANSWER. 02 A-CODE PIC 9(4) VALUE 0. 02 A-FLIGHT PIC X(5). 02 A-TEXT PIC X(16)."

-- its procedure, without comments
abbrev pub sale_text : List ℕ
sale_text =
    codes "MAIN. READ $RECEIVE INTO SALE-REC. MOVE S-FLIGHT TO R-FLIGHT A-FLIGHT. "
    ++ codes "PERFORM NEXT-ROW UNTIL FILE-STATUS = 1 OR R-FLIGHT NOT = S-FLIGHT OR GOT = S-WANTED. "
    ++ codes "IF GOT = S-WANTED PERFORM WRITE-SALE ELSE MOVE 1 TO A-CODE MOVE \"NOT ENOUGH SEATS\" TO A-TEXT. "
    ++ codes "WRITE $RECEIVE FROM ANSWER. "
    ++ codes "NEXT-ROW. READ NEXT SEATS WITH LOCK AFTER R-KEY INTO SEAT-ROW. "
    ++ codes "IF FILE-STATUS = 0 AND R-FLIGHT = S-FLIGHT MOVE 1 TO I PERFORM TRY-SEAT UNTIL I > 4 "
    ++ codes "REWRITE SEATS FROM SEAT-ROW. "
    ++ codes "TRY-SEAT. IF R-HOLDER (I) = \"......\" AND GOT < S-WANTED PERFORM TAKE-SEAT. ADD 1 TO I. "
    ++ codes "TAKE-SEAT. ADD 1 TO GOT. MOVE S-NAME TO R-HOLDER (I). MOVE R-NUMBER TO S-ROW (GOT). "
    ++ codes "MOVE R-LETTER (I) TO S-LETTER (GOT). "
    ++ codes "WRITE-SALE. WRITE SALES FROM SALE-REC. IF FILE-STATUS NOT = 0 MOVE 1 TO A-CODE "
    ++ codes "MOVE \"NAME HAS A SALE\" TO A-TEXT ELSE MOVE S-LIST TO A-TEXT."

-- a server of a name with these data and this procedure
abbrev pub seat_server : List ℕ → List ℕ → List ℕ → Program
seat_server name data_text text = record {
  name = name;
  layout = laid_by (layout_of data_text (tokens_of_text data_text) true);
  screens = [];
  parameters = [];
  paragraphs = paragraphs_by (procedure_of true text (tokens_of_text text));
}

-- what a seat reservation is free to choose
pub record SeatChoices : Type 0 where
  pub rest : DeckModel
  pub map_processes : ℕ
  pub sale_processes : ℕ
  pub seats : List (List ℕ)
  pub sales : List (List ℕ)

-- the seat reservation
abbrev pub seat_deck : SeatChoices → DeckModel
seat_deck choices = record choices.rest {
  servers = seat_server (codes "MAP-P") map_data map_text ∷ seat_server (codes "SALE-P") sale_data sale_text ∷ [];
  classes = (record { name = codes "MAP-SRV"; server = 0; processes = choices.map_processes })
      ∷ (record { name = codes "SALE-SRV"; server = 1; processes = choices.sale_processes }) ∷ [];
  files = (record { name = codes "SEATS"; key = 6; records = choices.seats })
      ∷ (record { name = codes "SALES"; key = 7; records = choices.sales }) ∷ [];
}
