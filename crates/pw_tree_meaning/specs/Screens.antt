-- DISPLAY and ACCEPT.
use Rattle.std.specs.Prelude.{ℕ, ◌+◌, Bool, false, List, [], ◌∷◌, find, Option, Some, None}
use Rattle.pw_words.specs.Words.{Word}
use Rattle.pw_picture.specs.declared.picture.Picture.{Picture}
use Rattle.pw_picture.specs.declared.picture.Picture.TheVariants as picture
use Rattle.pw_picture.specs.Grammar.{size_of}
use Rattle.pw_picture.specs.Stored.{moved}
use Rattle.pw_picture.specs.Text.{fitted}
use Rattle.pw_data.specs.Store.{joined}
use Rattle.pw_forms.specs.declared.operand.Operand.{Operand}
use Rattle.pw_forms.specs.declared.operand.Operand.TheVariants as operands
use Rattle.pw_code.specs.Entry.{EntryLineModel}
use Rattle.pw_code.specs.declared.field.Field.{Field}
use Rattle.pw_code.specs.declared.field.FieldKind.{FieldKind}
use Rattle.pw_code.specs.declared.field.FieldKind.TheVariants as field
use Rattle.pw_code.specs.declared.field.ScreenTable.{ScreenTable}
use Rattle.pw_code.specs.declared.verb.Verb.{Verb}
use Rattle.pw_code.specs.declared.verb.Verb.TheVariants as verb
use Rattle.pw_code.specs.declared.verb.Answer.{Answer}
use Rattle.pw_code.specs.declared.verb.Answer.TheVariants as answer
use Rattle.pw_terminal.specs.Screen.{with_message}
use Rattle.pw_terminal.specs.Shown.{with_screen}
use Rattle.pw_terminal.specs.Entries.{is_entry_field, check, with_advice}
use Rattle.pw_terminal.specs.declared.entries.EntryAnswer.{EntryAnswer}
use Rattle.pw_terminal.specs.declared.entries.EntryAnswer.TheVariants.{Valid}
use Rattle.pw_tree_meaning.specs.Program.{Program, screen_named, screen_number}
use Rattle.pw_tree_meaning.specs.Store.{Store, put_at}
use Rattle.pw_tree_meaning.specs.State.{ProgramState, Out, Goes, Asks, asks}
use Rattle.pw_tree_meaning.specs.Setting.{Setting}
use Rattle.pw_tree_meaning.specs.Operands.{chars_in, with_operand}
use Rattle.pw_tree_meaning.specs.Values.{number_in}

-- ---- DISPLAY

-- the screen has these cells, and is to be shown
abbrev pub shows : List ℕ → ProgramState → Out
shows cells s = asks verb.Show (λ _ t. Goes t) (record s { screen = cells })

-- a screen is put; BASE clears first, and puts the literals too
abbrev pub display_table : Bool → Option ScreenTable → ProgramState → Out
display_table base None s = shows s.screen s
display_table base (Some table) s = shows (with_screen base (joined s.store) table s.screen) s

-- the screen that a name after DISPLAY means, if any
abbrev pub screen_in : Program → Operand → Option ScreenTable
screen_in program (operands.Item name None) = screen_named program name
screen_in program _ = None

-- a screen is put, or else an operand's characters stand on row 24, cut or padded to 80
abbrev pub display_by : Option ScreenTable → Setting → Operand → ProgramState → Out
display_by (Some table) setting shown s = display_table false (Some table) s
display_by None setting shown s =
    with_operand setting.program shown s (λ found.
    shows (with_message (chars_in found s.store) s.screen) s)

-- DISPLAY of a screen, an item, a register or a literal
abbrev pub display : Setting → Operand → ProgramState → Out
display setting shown s = display_by (screen_in setting.program shown) setting shown s

-- ---- ACCEPT

-- the characters that a value leaves in an item: a number as it is, else a text; an empty one
-- spaces or zero
abbrev pub entered_chars : Picture → List ℕ → List ℕ
entered_chars (picture.Text size) value = fitted size value
entered_chars (picture.Number digits places sign) value =
    moved (picture.Number digits places sign) (number_in value)
entered_chars (picture.Edited symbols) value = []

-- the store with a value moved to the item of a field
abbrev pub entered_in : FieldKind → List ℕ → Store → Store
entered_in (field.Literal text) value store = store
entered_in (field.Item picture at source show) value store =
    put_at (record { at = at; size = size_of source; picture = Some source })
    (entered_chars source value) store

-- the store with a value in the item of a field, if there is such a field
abbrev pub entered_by : Option Field → List ℕ → Store → Store
entered_by None value store = store
entered_by (Some found) value store = entered_in found.shown value store

-- the values of an entry line are moved in the order of its pairs; other fields stay
abbrev pub store_entered : List Field → List (List ℕ × List ℕ) → Store → Store
store_entered fields [] store = store
store_entered fields (pair ∷ pairs) store =
    store_entered fields pairs (entered_by (find (is_entry_field pair.0) fields) pair.1 store)

-- A right entry is moved, and TERMINATION-STATUS is the position of its key. For a wrong one row 24
-- says so.
abbrev pub entry_checked : ScreenTable → EntryLineModel → EntryAnswer → (ProgramState → Out) → ProgramState → Out
entry_checked table line (Valid position) wrong s =
    Goes (record s {
      store = store_entered table.fields line.fields s.store;
      registers = record s.registers { termination = position };
    })
entry_checked table line found wrong s =
    wrong (record s { screen = with_advice found line s.screen })

-- what follows an answer to an Accept
abbrev pub entry_taken : ScreenTable → List ℕ → Answer → (ProgramState → Out) → ProgramState → Out
entry_taken table keys (answer.Entry line) wrong s =
    entry_checked table line (check table keys line) wrong s
entry_taken table keys _ wrong s = Goes s

-- An entry is awaited. After a wrong one the screen is shown, and then the same Accept comes again,
-- which is no new statement.
abbrev mutual
  pub awaited : ScreenTable → List ℕ → Verb → List Answer → ProgramState → Out
  awaited table keys v [] s = Asks v s
  awaited table keys v (a ∷ answers) s =
      entry_taken table keys a (advised table keys v answers)
      (record s { count = 0; answers = answers })

  pub advised : ScreenTable → List ℕ → Verb → List Answer → ProgramState → Out
  advised table keys v [] s = Asks verb.Show s
  advised table keys v (a ∷ answers) s =
      awaited table keys v answers (record s { count = 0; answers = answers })

-- ACCEPT of a screen, by its number, until one of the keys
abbrev pub accept_by : Option ScreenTable → List ℕ → ℕ → ProgramState → Out
accept_by None keys number s = Goes s
accept_by (Some table) keys number s = awaited table keys (verb.Accept number) s.answers s

-- ACCEPT for a screen until one of the keys
abbrev pub accept : Setting → Word → List ℕ → ProgramState → Out
accept setting name keys s =
    accept_by (screen_named setting.program name) keys
    (setting.first + screen_number setting.program name) s
