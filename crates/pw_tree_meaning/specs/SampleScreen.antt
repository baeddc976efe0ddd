-- A sample program with a screen.
use Rattle.std.specs.Prelude.{ℕ, Bool, true, false, List, [], ◌∷◌, ◌++◌, codes, if◌then◌else◌}
use Rattle.pw_picture.specs.declared.picture.Picture.TheVariants as picture
use Rattle.pw_code.specs.Entry.{EntryLineModel}
use Rattle.pw_code.specs.declared.field.Field.{Field}
use Rattle.pw_code.specs.declared.field.FieldKind.{FieldKind}
use Rattle.pw_code.specs.declared.field.FieldKind.TheVariants as shown
use Rattle.pw_code.specs.declared.field.ScreenTable.{ScreenTable}
use Rattle.pw_tree_meaning.specs.Program.{DeckModel}
use Rattle.pw_onecopy.specs.Path as path
use Rattle.pw_tree_meaning.specs.Samples.{screen_deck, row_with}

-- the items: A of 3 characters, and the number N of 2 digits behind it
abbrev pub data_text : List ℕ
data_text = codes "01 G. 02 A PIC X(3) VALUE \"OLD\". 02 N PIC 9(2) VALUE 5. 02 T PIC 9(4)."

-- a field of a name at a row and a column
abbrev pub field : List ℕ → ℕ → ℕ → FieldKind → Bool → Field
field name row column shown takes =
    record { name = name; row = row; column = column; shown = shown; takes = takes }

-- a literal at row 1, A at row 1 as F-A by USING and at row 3 as F-B by TO, and N at row 2 as F-N
-- by TO
abbrev pub ask_screen : ScreenTable
ask_screen = record {
  name = codes "ASK";
  fields =
      field [] 1 1 (shown.Literal (codes "NAME")) false
      ∷ field (codes "F-A") 1 6 (shown.Item (picture.Text 3) 0 (picture.Text 3) true) true
      ∷ field (codes "F-N") 2 1
      (shown.Item (picture.Number 2 0 false) 3 (picture.Number 2 0 false) false) true
      ∷ field (codes "F-B") 3 1 (shown.Item (picture.Text 3) 0 (picture.Text 3) false) true
      ∷ [];
}

-- takes an entry by F1 or F3, and displays the items and the position of the key
abbrev pub taking : DeckModel
taking =
    screen_deck (ask_screen ∷ []) data_text
    (codes "P. ACCEPT ASK UNTIL F1, F3 MOVE TERMINATION-STATUS TO T DISPLAY G.")

-- takes an entry by F1, and displays the screen without BASE
abbrev pub staying : DeckModel
staying = screen_deck (ask_screen ∷ []) data_text (codes "P. ACCEPT ASK UNTIL F1 DISPLAY ASK.")

-- displays a text, and then the screen, with BASE or without
abbrev pub asking : Bool → DeckModel
asking base =
    screen_deck (ask_screen ∷ []) data_text
    (if base then codes "P. DISPLAY \"HI\" DISPLAY BASE ASK."
    else codes "P. DISPLAY \"HI\" DISPLAY ASK.")

-- an entry line of a key with pairs
abbrev pub line : ℕ → List (List ℕ × List ℕ) → EntryLineModel
line key pairs = record { key = key; fields = pairs }

-- ---- a screen with fields of all kinds

-- a screen with a field of each kind
abbrev pub kinds_screen : ScreenTable
kinds_screen = record {
  name = codes "S";
  fields =
      field (codes "F-T") 1 1 (shown.Item (picture.Text 5) 0 (picture.Text 5) true) true
      ∷ field (codes "F-N") 2 1
      (shown.Item (picture.Number 4 1 true) 5 (picture.Number 4 1 true) true) true
      ∷ field (codes "F-U") 3 1
      (shown.Item (picture.Number 4 0 false) 10 (picture.Number 4 0 false) false) true
      ∷ field (codes "F-O") 4 1 (shown.Item (picture.Text 3) 14 (picture.Text 3) true) false
      ∷ field (codes "F-E") 5 1
      (shown.Item (picture.Edited (codes "Z,ZZ9.9-")) 5 (picture.Number 4 1 true) false) true
      ∷ [];
}

-- takes an entry by F1 or SF16, shows the screen, and then the position of the key
abbrev pub kinds : DeckModel
kinds =
    screen_deck (kinds_screen ∷ [])
    (codes "01 T PIC X(5) VALUE \"INIT\". 01 N PIC S9(3)V9 VALUE 9. 01 U PIC 9(4) VALUE 1. "
    ++ codes "01 O PIC X(3) VALUE \"OUT\".")
    (codes "MAIN. PERFORM P2 30 TIMES. STOP RUN. P2. ACCEPT S UNTIL F1, SF16, F1. "
    ++ codes "DISPLAY BASE S. DISPLAY TERMINATION-STATUS.")

-- a row, from 0, behind one entry
abbrev pub row_of_kinds : ℕ → EntryLineModel → List ℕ
row_of_kinds row entry = row_with row kinds (entry ∷ []) (path.Entry 1 ∷ [])
