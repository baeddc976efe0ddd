-- The servers and files of a bank: those of decks/applications/bank.deck, with any terminals, records and failures.
use Rattle.std.specs.Prelude.{ℕ, true, List, [], ◌∷◌, ◌++◌, codes}
use Rattle.pw_forms.specs.Procedures.{procedure_of}
use Rattle.pw_forms.specs.declared.statement.Paragraph.{Paragraph}
use Rattle.pw_tree_meaning.specs.Program.{DeckModel, Program}
use Rattle.pw_tree_meaning.specs.Samples.{paragraphs_by, tokens_of_text}

-- the procedure of ACCOUNT-P, without its comments
abbrev pub account_text : List ℕ
account_text =
    codes "MAIN. READ $RECEIVE INTO POSTING. "
    ++ codes "IF P-OP = \"P\" READ ACCOUNTS WITH LOCK KEY P-ACCOUNT INTO ACCOUNT-REC "
    ++ codes "ELSE READ ACCOUNTS KEY P-ACCOUNT INTO ACCOUNT-REC. "
    ++ codes "IF FILE-STATUS NOT = 0 MOVE 1 TO A-CODE ELSE IF P-OP = \"P\" PERFORM POST-IT "
    ++ codes "ELSE PERFORM READ-LAST-LINE. MOVE R-WHO TO A-WHO. MOVE R-BALANCE TO A-BALANCE. "
    ++ codes "MOVE L-AMOUNT TO A-CHANGE. WRITE $RECEIVE FROM ANSWER. POST-IT. "
    ++ codes "ADD P-AMOUNT TO R-BALANCE ON SIZE ERROR "
    ++ codes "IF P-AMOUNT < 0 MOVE 2 TO A-CODE ELSE MOVE 3 TO A-CODE. "
    ++ codes "ADD 1 TO R-LINES ON SIZE ERROR MOVE 3 TO A-CODE. IF A-CODE = 0 PERFORM WRITE-LINE. "
    ++ codes "WRITE-LINE. MOVE R-ACCOUNT TO L-ACCOUNT. MOVE R-LINES TO L-NUMBER. "
    ++ codes "MOVE P-OTHER TO L-OTHER. MOVE P-AMOUNT TO L-AMOUNT. "
    ++ codes "WRITE STATEMENTS FROM STATEMENT-LINE. "
    ++ codes "IF FILE-STATUS = 0 REWRITE ACCOUNTS FROM ACCOUNT-REC ELSE MOVE 3 TO A-CODE. "
    ++ codes "READ-LAST-LINE. MOVE R-ACCOUNT TO L-ACCOUNT. MOVE R-LINES TO L-NUMBER. "
    ++ codes "READ STATEMENTS KEY L-KEY INTO STATEMENT-LINE."

-- the procedure of TOTAL-P, without its comments
abbrev pub total_text : List ℕ
total_text =
    codes "MAIN. READ $RECEIVE INTO R-ACCOUNT. PERFORM NEXT-ACCOUNT UNTIL FILE-STATUS = 1. "
    ++ codes "WRITE $RECEIVE FROM TOTALS. NEXT-ACCOUNT. "
    ++ codes "READ NEXT ACCOUNTS AFTER R-ACCOUNT INTO ACCOUNT-REC. "
    ++ codes "IF FILE-STATUS = 0 ADD R-BALANCE TO T-SUM."

-- the paragraphs of a server's procedure
abbrev pub paragraphs_in : List ℕ → List Paragraph
paragraphs_in text = paragraphs_by (procedure_of true text (tokens_of_text text))

-- what a bank is free to choose: all but the procedures of its servers, and the names and keys of its files
pub record BankParts : Type 0 where
  pub rest : DeckModel
  pub account : Program
  pub total : Program
  pub accounts : List (List ℕ)
  pub statements : List (List ℕ)

-- the deck of a bank
abbrev pub bank_deck : BankParts → DeckModel
bank_deck bank = record bank.rest {
  servers = record bank.account { paragraphs = paragraphs_in account_text }
      ∷ record bank.total { paragraphs = paragraphs_in total_text } ∷ [];
  files = (record { name = codes "ACCOUNTS"; key = 4; records = bank.accounts })
      ∷ (record { name = codes "STATEMENTS"; key = 7; records = bank.statements }) ∷ [];
}
