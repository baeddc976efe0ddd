-- A program and a deck as their meaning takes them: names, layouts, screens and trees.
use Rattle.std.specs.Prelude.{ℕ, zero, suc, ◌+◌, List, [], ◌∷◌, length, bytes_eq, position, unwrap_or, find, slice_get, Option, Some, None}
use Rattle.pw_words.specs.Words.{Word}
use Rattle.pw_data.specs.Layouts.{Laid}
use Rattle.pw_data.specs.Names.{is_this_name}
use Rattle.pw_data.specs.declared.item.Item.{Item}
use Rattle.pw_forms.specs.declared.statement.Paragraph.{Paragraph}
use Rattle.pw_forms.specs.declared.statement.Statement.{Statement}
use Rattle.pw_code.specs.declared.field.ScreenTable.{ScreenTable}
use Rattle.pw_code.specs.declared.file.FileInfo.{FileInfo}
use Rattle.pw_code.specs.declared.system.ClassInfo.{ClassInfo}
use Rattle.pw_code.specs.declared.system.TermInfo.{TermInfo}
use Rattle.pw_event.specs.declared.script.FailLine.{FailLine}

-- A program: its items with the storage in which they lie, its screens, the linkage items that its
-- USING names, and its paragraphs. A server has no screens and no USING.
pub record Program : Type 0 where
  pub name : Word
  pub layout : Laid
  pub screens : List ScreenTable
  pub parameters : List Word
  pub paragraphs : List Paragraph

-- what a deck says: the programs of terminals and of servers, the tables, and the failure lines
pub record DeckModel : Type 0 where
  pub programs : List Program
  pub servers : List Program
  pub classes : List ClassInfo
  pub files : List FileInfo
  pub tcps : List Word
  pub terminals : List TermInfo
  pub script : List FailLine

-- the program without anything: where a number names none
abbrev pub no_program : Program
no_program = record {
  name = [];
  layout = record { items = []; storage = [] };
  screens = [];
  parameters = [];
  paragraphs = [];
}

-- the program of a number, from 0
abbrev pub program_at : List Program → ℕ → Program
program_at [] q = no_program
program_at (program ∷ programs) zero = program
program_at (program ∷ programs) (suc q) = program_at programs q

-- how many characters the storage of a program has
abbrev pub storage_size : Program → ℕ
storage_size program = length program.layout.storage

-- the number of a program, a class or a file by its name, in upper case
abbrev pub program_number : DeckModel → Word → ℕ
program_number deck name =
    unwrap_or (position (λ program. bytes_eq program.name name) deck.programs) 0

-- the number of the class of a name
abbrev pub class_number : DeckModel → Word → ℕ
class_number deck name =
    unwrap_or (position (λ class. bytes_eq class.name name) deck.classes) 0

-- the number of the file of a name
abbrev pub file_number : DeckModel → Word → ℕ
file_number deck name =
    unwrap_or (position (λ file. bytes_eq file.name name) deck.files) 0

-- the key length of a file, and 1 where there is none
abbrev pub key_length_by : Option FileInfo → ℕ
key_length_by None = 1
key_length_by (Some file) = file.key

-- the length of the keys of a file
abbrev pub key_length : DeckModel → ℕ → ℕ
key_length deck f = key_length_by (slice_get deck.files f)

-- the screens of a deck are numbered through all programs: the number of a program's first screen
abbrev pub first_screen : List Program → ℕ → ℕ
first_screen [] q = 0
first_screen (program ∷ programs) zero = 0
first_screen (program ∷ programs) (suc q) = length program.screens + first_screen programs q

-- the item of a name, in either case
abbrev pub item_named : Program → Word → Option Item
item_named program name = find (λ item. is_this_name item.name name) program.layout.items

-- the screen of a name
abbrev pub screen_named : Program → Word → Option ScreenTable
screen_named program name = find (λ screen. bytes_eq screen.name name) program.screens

-- the number of a screen of a name among those of its program
abbrev pub screen_number : Program → Word → ℕ
screen_number program name =
    unwrap_or (position (λ screen. bytes_eq screen.name name) program.screens) 0

-- the statements of a paragraph
abbrev pub body_by : Option Paragraph → List Statement
body_by None = []
body_by (Some paragraph) = paragraph.body

-- the statements of the paragraph of a name, in upper case
abbrev pub body_named : Program → Word → List Statement
body_named program name =
    body_by (find (λ paragraph. bytes_eq paragraph.name name) program.paragraphs)
