-- The bank of decks/applications/bank.deck with its two servers, their classes and its files: its terminals and their programs,
-- its records and its failures are free.
use Rattle.std.specs.Prelude.{ℕ, true, List, [], ◌∷◌, ◌++◌, codes}
use Rattle.pw_data.specs.Layouts.{Laid, layout_of}
use Rattle.pw_invariants.specs.Bank.{bank_deck}
use Rattle.pw_tree_meaning.specs.Program.{DeckModel, Program, no_program}
use Rattle.pw_tree_meaning.specs.Samples.{laid_by, tokens_of_text}

-- the data of ACCOUNT-P, without its comment
abbrev pub account_data : List ℕ
account_data =
    codes "01 POSTING. 02 P-OP PIC X. 02 P-ACCOUNT PIC X(4). 02 P-OTHER PIC X(4). 02 P-AMOUNT PIC S9(5)V99. "
    ++ codes "01 ACCOUNT-REC. 02 R-WHO. 03 R-ACCOUNT PIC X(4). 03 R-OWNER PIC X(11). "
    ++ codes "02 R-BALANCE PIC 9(7)V99. 02 R-LINES PIC 9(3). "
    ++ codes "01 STATEMENT-LINE. 02 L-KEY. 03 L-ACCOUNT PIC X(4). 03 L-NUMBER PIC 9(3). "
    ++ codes "02 L-OTHER PIC X(4). 02 L-AMOUNT PIC S9(5)V99. "
    ++ codes "01 ANSWER. 02 A-CODE PIC 9(4) VALUE 0. 02 A-WHO PIC X(15). 02 A-BALANCE PIC 9(7)V99. "
    ++ codes "02 A-CHANGE PIC S9(5)V99."

-- the data of TOTAL-P
abbrev pub total_data : List ℕ
total_data =
    codes "01 ACCOUNT-REC. 02 R-ACCOUNT PIC X(4). 02 R-OWNER PIC X(11). 02 R-BALANCE PIC 9(7)V99. "
    ++ codes "01 TOTALS. 02 T-CODE PIC 9(4) VALUE 0. 02 T-SUM PIC 9(8)V99 VALUE 0."

-- the items of a server by its data
abbrev pub items_by : List ℕ → Laid
items_by data_text = laid_by (layout_of data_text (tokens_of_text data_text) true)

-- a server of a name with these items
abbrev pub server_of : List ℕ → List ℕ → Program
server_of name data_text = record no_program { name = name; layout = items_by data_text }

-- what a bank is free to choose
pub record BankChoices : Type 0 where
  pub rest : DeckModel
  pub account_processes : ℕ
  pub total_processes : ℕ
  pub accounts : List (List ℕ)
  pub statements : List (List ℕ)

-- the bank with its servers and their data
abbrev pub whole_bank : BankChoices → DeckModel
whole_bank bank = bank_deck (record {
  rest = record bank.rest {
    classes = (record { name = codes "ACCOUNT-SRV"; server = 0; processes = bank.account_processes })
        ∷ (record { name = codes "TOTAL-SRV"; server = 1; processes = bank.total_processes }) ∷ [];
  };
  account = server_of (codes "ACCOUNT-P") account_data;
  total = server_of (codes "TOTAL-P") total_data;
  accounts = bank.accounts;
  statements = bank.statements;
})
