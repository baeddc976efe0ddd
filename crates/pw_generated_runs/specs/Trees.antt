-- The trees of a generated deck: of its requester KEYS and its server STORE-P, and the tables of its class and its file.
use Rattle.std.specs.Prelude.{◌≡◌, ℕ, ◌+◌, Bool, true, false, List, [], ◌∷◌, ◌++◌, map, slice_get, codes, Option, Some, None}
use Rattle.pw_picture.specs.declared.picture.Picture.TheVariants as picture
use Rattle.pw_code.specs.Entry.{EntryLineModel}
use Rattle.pw_code.specs.declared.field.Field.{Field}
use Rattle.pw_code.specs.declared.field.FieldKind.{FieldKind}
use Rattle.pw_code.specs.declared.field.FieldKind.TheVariants as shown
use Rattle.pw_code.specs.declared.field.ScreenTable.{ScreenTable}
use Rattle.pw_code.specs.declared.system.TermInfo.{TermInfo}
use Rattle.pw_data.specs.Layouts.{Laid}
use Rattle.pw_data.specs.declared.item.Item.{Item}
use Rattle.pw_data.specs.declared.item.ItemKind.{ItemKind}
use Rattle.pw_data.specs.declared.item.ItemKind.TheVariants as kind
use Rattle.pw_event.specs.declared.script.FailLine.{FailLine}
use Rattle.pw_forms.specs.declared.operand.Operand.{Operand}
use Rattle.pw_forms.specs.declared.operand.Operand.TheVariants as operands
use Rattle.pw_forms.specs.declared.cond.ConditionForm.{ConditionForm}
use Rattle.pw_forms.specs.declared.cond.ComparisonForm.TheVariants as comparison
use Rattle.pw_forms.specs.declared.cond.Operator.TheVariants as operator
use Rattle.pw_forms.specs.declared.statement.Operation.TheVariants as operation
use Rattle.pw_forms.specs.declared.statement.Statement.{Statement}
use Rattle.pw_forms.specs.declared.statement.Statement.TheVariants as form
use Rattle.pw_forms.specs.declared.statement.Paragraph.{Paragraph}
use Rattle.pw_generated_runs.specs.Counts.{stock_with}
use Rattle.pw_tree_meaning.specs.Program.{DeckModel, Program}
use Rattle.pw_words.specs.Words.{Word}

-- ---- statements

-- an item
abbrev pub item : List ℕ → Operand
item name = operands.Item name None

-- an item is a text
abbrev pub is_text : List ℕ → List ℕ → ConditionForm
is_text name text = record { any = (comparison.Compare (item name) false operator.Equal (operands.Text text) ∷ []) ∷ [] }

-- what is done where the operation is this
abbrev pub where_op : ℕ → List ℕ → List Statement → Statement
where_op line op statements = form.If line (is_text (codes "M-OP") op) statements []

-- ---- the server

-- what is done where the operation is `I`
abbrev pub counting : (ℕ → ℕ) → List Statement
counting line =
    form.Read (line 7) (codes "STOCK") false (item (codes "M-KEY")) (item (codes "M-REC"))
    ∷ form.Arithmetic (line 8) (record { operation = operation.Add; first = operands.Number (codes "1"); second = item (codes "M-N"); giving = None })
    ∷ form.Rewrite (line 8) (codes "STOCK") (item (codes "M-REC"))
    ∷ form.Move (line 9) (item (codes "M-REC")) (item (codes "A-REC") ∷ [])
    ∷ []

-- what is done at last
abbrev pub replying : (ℕ → ℕ) → List Statement
replying line =
    form.Move (line 10) (item (codes "FILE-STATUS")) (item (codes "A-STATUS") ∷ [])
    ∷ form.Reply (line 11) (item (codes "ANS"))
    ∷ []

-- the paragraph of the server
abbrev pub server_paragraphs : (ℕ → ℕ) → List Paragraph
server_paragraphs line =
    record {
      name = codes "P1";
      line = line 0;
      body =
          form.Receive (line 1) (item (codes "MSG"))
          ∷ where_op (line 2) (codes "R") (form.Read (line 2) (codes "STOCK") false (item (codes "M-KEY")) (item (codes "A-REC")) ∷ [])
          ∷ where_op (line 3) (codes "N") (form.ReadNext (line 3) (codes "STOCK") false (item (codes "M-KEY")) (item (codes "A-REC")) ∷ [])
          ∷ where_op (line 4) (codes "W") (form.Write (line 4) (codes "STOCK") (item (codes "M-REC")) ∷ [])
          ∷ where_op (line 5) (codes "U") (form.Rewrite (line 5) (codes "STOCK") (item (codes "M-REC")) ∷ [])
          ∷ where_op (line 6) (codes "D") (form.Delete (line 6) (codes "STOCK") (item (codes "M-KEY")) ∷ [])
          ∷ where_op (line 7) (codes "I") (counting line)
          ∷ replying line;
    } ∷ []

-- ---- the data of both

-- an item outside OCCURS
abbrev pub data_item : List ℕ → ℕ → Option ItemKind → ℕ → ℕ → Item
data_item name level kind at size =
    record { name = Some name; level = level; linked = false; kind = kind; at = at; size = size; occurs = 0; step = 0 }

-- a text of so many characters
abbrev pub text : ℕ → Option ItemKind
text size = Some (kind.Text size)

-- a number of 4 digits
abbrev pub number : Option ItemKind
number = Some (kind.Number 4 0 false)

-- MSG and ANS
abbrev pub layout : Laid
layout = record {
  items =
      data_item (codes "MSG") 1 None 0 7
      ∷ data_item (codes "M-OP") 2 (text 1) 0 1
      ∷ data_item (codes "M-REC") 2 None 1 6
      ∷ data_item (codes "M-KEY") 3 (text 2) 1 2
      ∷ data_item (codes "M-N") 3 number 3 4
      ∷ data_item (codes "ANS") 1 None 7 14
      ∷ data_item (codes "A-CODE") 2 number 7 4
      ∷ data_item (codes "A-STATUS") 2 number 11 4
      ∷ data_item (codes "A-REC") 2 (text 6) 15 6
      ∷ [];
  storage = codes "   000000000000      ";
}

-- ---- the requester

-- what is done behind the last round
abbrev pub waiting : (ℕ → ℕ) → List Statement
waiting line = form.StopRun (line 2) ∷ []

-- what is done at the key F1
abbrev pub sending : (ℕ → ℕ) → List Statement
sending line =
    form.Send (line 8) (item (codes "MSG")) (codes "STORE") ((record { number = 0; yields = item (codes "ANS") }) ∷ [])
    ∷ form.Display (line 9) (item (codes "ANS"))
    ∷ []

-- a paragraph
abbrev pub paragraph : List ℕ → ℕ → List Statement → Paragraph
paragraph name line body = record { name = name; line = line; body = body }

-- what is done at the keys F1 to F5
abbrev pub paragraph_names : List Word
paragraph_names = codes "P3" ∷ codes "P4" ∷ codes "P5" ∷ codes "P6" ∷ codes "P7" ∷ []

-- the paragraphs of a round
abbrev pub later_paragraphs : (ℕ → ℕ) → List Paragraph
later_paragraphs line =
    paragraph (codes "P2") (line 3)
    (form.Accept (line 4) (codes "ASK") (1 ∷ 2 ∷ 3 ∷ 4 ∷ 5 ∷ [])
    ∷ form.PerformOneOf (line 5) paragraph_names (item (codes "TERMINATION-STATUS")) ∷ [])
    ∷ paragraph (codes "P3") (line 7) (sending line)
    ∷ paragraph (codes "P4") (line 10) (form.Begin (line 11) ∷ [])
    ∷ paragraph (codes "P5") (line 12) (form.End (line 13) ∷ [])
    ∷ paragraph (codes "P6") (line 14) (form.Abort (line 15) ∷ [])
    ∷ paragraph (codes "P7") (line 16) (form.Restart (line 17) ∷ [])
    ∷ []

-- the paragraphs of the requester
abbrev pub requester_paragraphs : (ℕ → ℕ) → List Paragraph
requester_paragraphs line =
    paragraph (codes "P1") (line 0) (form.PerformUntil (line 1) (codes "P2") (is_text (codes "M-OP") (codes "Z")) ∷ waiting line)
    ∷ later_paragraphs line

-- a field at a row and a column
abbrev pub field : List ℕ → ℕ → ℕ → FieldKind → Bool → Field
field name row column shown takes = record { name = name; row = row; column = column; shown = shown; takes = takes }

-- the screen ASK
abbrev pub ask_screen : ScreenTable
ask_screen = record {
  name = codes "ASK";
  fields =
      field [] 1 1 (shown.Literal (codes "OP KEY N")) false
      ∷ field (codes "F-OP") 2 1 (shown.Item (picture.Text 1) 0 (picture.Text 1) true) true
      ∷ field (codes "F-KEY") 2 4 (shown.Item (picture.Text 2) 1 (picture.Text 2) true) true
      ∷ field (codes "F-N") 2 8 (shown.Item (picture.Number 4 0 false) 3 (picture.Number 4 0 false) true) true
      ∷ [];
}

-- ---- the deck

-- On which lines statements stand, and what else a deck of these programs is free to choose.
pub record CountingParts : Type 0 where
  pub requester_line : ℕ → ℕ
  pub server_line : ℕ → ℕ
  pub processes : ℕ
  pub tcps : List Word
  pub terminals : List TermInfo
  pub script : List FailLine

-- the requester
abbrev pub keys_program : (ℕ → ℕ) → Program
keys_program line = record {
  name = codes "KEYS";
  layout = layout;
  screens = ask_screen ∷ [];
  parameters = [];
  paragraphs = requester_paragraphs line;
}

-- the server
abbrev pub store_program : (ℕ → ℕ) → Program
store_program line = record {
  name = codes "STORE-P";
  layout = layout;
  screens = [];
  parameters = [];
  paragraphs = server_paragraphs line;
}

-- the deck
abbrev pub counting_deck : CountingParts → DeckModel
counting_deck parts = record {
  programs = keys_program parts.requester_line ∷ [];
  servers = store_program parts.server_line ∷ [];
  classes = (record { name = codes "STORE"; server = 0; processes = parts.processes }) ∷ [];
  files = (record { name = codes "STOCK"; key = 2; records = stock_with (λ d. 0) }) ∷ [];
  tcps = parts.tcps;
  terminals = parts.terminals;
  script = parts.script;
}

-- an entry line of a key
abbrev pub entry_of : ℕ → EntryLineModel
entry_of d = record { key = 1; fields = (codes "F-OP", codes "I") ∷ (codes "F-KEY", codes "A" ++ (48 + d) ∷ []) ∷ [] }

-- the terminal runs the requester and has entries of these digits
pub record HasEntries (terminal : TermInfo) (digits : List ℕ) : Type 0 where
  pub program : terminal.program ≡ 0
  pub entries : terminal.entries ≡ map entry_of digits

-- each of the deck's terminals has entries of its digits
abbrev pub HaveEntries : CountingParts → (ℕ → List ℕ) → Type 0
HaveEntries parts digits =
    (t : ℕ) (terminal : TermInfo) → slice_get parts.terminals t ≡ Some terminal → HasEntries terminal (digits t)
