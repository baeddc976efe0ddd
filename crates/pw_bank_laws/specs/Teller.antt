-- The bank with TELLER as the program of its terminals: their number, their pairs and entries, its screens, its records and its
-- failures are free.
use Rattle.std.specs.Prelude.{ℕ, false, List, [], ◌∷◌, ◌++◌, codes}
use Rattle.pw_bank_laws.specs.Servers.{BankChoices, whole_bank}
use Rattle.pw_code.specs.declared.field.ScreenTable.{ScreenTable}
use Rattle.pw_data.specs.Layouts.{layout_of}
use Rattle.pw_forms.specs.Procedures.{procedure_of}
use Rattle.pw_tree_meaning.specs.Program.{DeckModel, Program}
use Rattle.pw_tree_meaning.specs.Samples.{laid_by, paragraphs_by, tokens_of_text}

-- the data of TELLER, without comments
abbrev pub teller_data : List ℕ
teller_data =
    codes "01 DONE PIC X VALUE \"N\". 01 MESSAGE PIC X(40). 01 FROM-ACCOUNT PIC X(4). 01 TO-ACCOUNT PIC X(4). "
    ++ codes "01 AMOUNT PIC 9(5)V99. "
    ++ codes "01 POSTING. 02 P-OP PIC X. 02 P-ACCOUNT PIC X(4). 02 P-OTHER PIC X(4). 02 P-AMOUNT PIC S9(5)V99. "
    ++ codes "01 ANSWER PIC X(36). 01 PAYER PIC X(36). "
    ++ codes "01 SHOWN. 02 A-CODE PIC 9(4). 02 A-WHO PIC X(15). 02 A-BALANCE PIC 9(7)V99. 02 A-CHANGE PIC S9(5)V99. "
    ++ codes "01 BEFORE-ALL-ACCOUNTS PIC X(4). 01 TOTALS. 02 T-CODE PIC 9(4). 02 T-SUM PIC 9(8)V99."

-- the procedure of TELLER, without comments
abbrev pub teller_text : List ℕ
teller_text =
    codes "MAIN. DISPLAY BASE DESK. PERFORM NEXT-REQUEST UNTIL DONE = \"Y\". STOP RUN. "
    ++ codes "NEXT-REQUEST. ACCEPT DESK UNTIL F1, F2, F3, SF16. MOVE SPACES TO MESSAGE. "
    ++ codes "PERFORM ONE OF TRANSFER, INQUIRY, CONTROL-TOTAL, SIGN-OFF DEPENDING ON TERMINATION-STATUS. "
    ++ codes "IF DONE = \"N\" DISPLAY DESK DISPLAY MESSAGE. "
    ++ codes "SIGN-OFF. MOVE \"Y\" TO DONE. "
    ++ codes "TRANSFER. IF AMOUNT = 0 MOVE \"HOW MUCH?\" TO MESSAGE. "
    ++ codes "IF FROM-ACCOUNT = TO-ACCOUNT MOVE \"FROM AND TO ARE THE SAME ACCOUNT\" TO MESSAGE. "
    ++ codes "IF MESSAGE = SPACES PERFORM MOVE-MONEY. "
    ++ codes "MOVE-MONEY. BEGIN-TRANSACTION. IF FROM-ACCOUNT < TO-ACCOUNT PERFORM DEBIT PERFORM CREDIT "
    ++ codes "ELSE PERFORM CREDIT PERFORM DEBIT. "
    ++ codes "IF MESSAGE = SPACES END-TRANSACTION MOVE PAYER TO SHOWN MOVE \"TRANSFER IS DONE\" TO MESSAGE "
    ++ codes "ELSE ABORT-TRANSACTION. "
    ++ codes "DEBIT. MOVE FROM-ACCOUNT TO P-ACCOUNT. MOVE TO-ACCOUNT TO P-OTHER. "
    ++ codes "SUBTRACT AMOUNT FROM 0 GIVING P-AMOUNT. IF MESSAGE = SPACES PERFORM POST MOVE ANSWER TO PAYER. "
    ++ codes "CREDIT. MOVE TO-ACCOUNT TO P-ACCOUNT. MOVE FROM-ACCOUNT TO P-OTHER. MOVE AMOUNT TO P-AMOUNT. "
    ++ codes "IF MESSAGE = SPACES PERFORM POST. "
    ++ codes "POST. MOVE \"P\" TO P-OP. SEND POSTING TO ACCOUNT-SRV "
    ++ codes "REPLY CODE 0 YIELDS ANSWER CODE 1 YIELDS ANSWER CODE 2 YIELDS ANSWER CODE 3 YIELDS ANSWER. "
    ++ codes "IF TERMINATION-STATUS = 2 PERFORM NO-SUCH-ACCOUNT. "
    ++ codes "IF TERMINATION-STATUS = 3 MOVE \"NOT ENOUGH MONEY\" TO MESSAGE. "
    ++ codes "IF TERMINATION-STATUS = 4 MOVE \"THE ACCOUNT IS FULL\" TO MESSAGE. "
    ++ codes "NO-SUCH-ACCOUNT. IF P-ACCOUNT = FROM-ACCOUNT MOVE \"FROM: NO SUCH ACCOUNT\" TO MESSAGE "
    ++ codes "ELSE MOVE \"TO: NO SUCH ACCOUNT\" TO MESSAGE. "
    ++ codes "INQUIRY. MOVE \"Q\" TO P-OP. MOVE FROM-ACCOUNT TO P-ACCOUNT. "
    ++ codes "SEND POSTING TO ACCOUNT-SRV REPLY CODE 0 YIELDS SHOWN CODE 1 YIELDS SHOWN. "
    ++ codes "IF TERMINATION-STATUS = 2 PERFORM NO-SUCH-ACCOUNT. "
    ++ codes "CONTROL-TOTAL. SEND BEFORE-ALL-ACCOUNTS TO TOTAL-SRV REPLY CODE 0 YIELDS TOTALS."

-- TELLER with any screens
abbrev pub teller : List ScreenTable → Program
teller screens = record {
  name = codes "TELLER";
  layout = laid_by (layout_of teller_data (tokens_of_text teller_data) false);
  screens = screens;
  parameters = [];
  paragraphs = paragraphs_by (procedure_of false teller_text (tokens_of_text teller_text));
}

-- the bank of which each terminal runs TELLER
abbrev pub teller_bank : List ScreenTable → BankChoices → DeckModel
teller_bank screens bank = whole_bank (record bank { rest = record bank.rest { programs = teller screens ∷ [] } })
