-- What the code of a program goes by.
use Rattle.std.specs.Prelude.{ℕ, ◌+◌, List, [], map, bytes_eq, position, unwrap_or, slice_index_or}
use Rattle.pw_words.specs.Words.{Word}
use Rattle.pw_data.specs.Layouts.{Laid}
use Rattle.pw_forms.specs.declared.statement.Paragraph.{Paragraph}
use Rattle.pw_code.specs.declared.field.ScreenTable.{ScreenTable}
use Rattle.pw_code.specs.declared.instr.Turn.{Turn}
use Rattle.pw_code.specs.declared.links.Links.{Links}
use Rattle.pw_compile.specs.Sizes.{turns_from}

-- A program's data, screens and paragraphs, where its paragraphs begin and end, the number of its
-- first screen, and what it may name besides what is its own.
pub record Plan : Type 0 where
  pub layout : Laid
  pub screens : List ScreenTable
  pub paragraphs : List Paragraph
  pub turns : List Turn
  pub first : ℕ
  pub links : Links

-- that of a program with these parts
abbrev pub plan_of : Laid → List ScreenTable → List Paragraph → ℕ → Links → Plan
plan_of layout screens paragraphs first links = record {
  layout = layout;
  screens = screens;
  paragraphs = paragraphs;
  turns = turns_from 0 paragraphs;
  first = first;
  links = links;
}

-- the number of the first thing that has a name, from 0
abbrev pub number_by_name : {A : Type 0} → (A → Word) → List A → Word → ℕ
number_by_name name_of things name = unwrap_or (position (λ thing. bytes_eq (name_of thing) name) things) 0

-- the paragraph of a name
abbrev pub turn_of : Plan → Word → Turn
turn_of plan name =
    slice_index_or plan.turns (number_by_name (λ paragraph. paragraph.name) plan.paragraphs name)
    (record { start = 0; end = 0 })

-- the screen of a name, by its number through all programs
abbrev pub planned_screen : Plan → Word → ℕ
planned_screen plan name = plan.first + number_by_name (λ screen. screen.name) plan.screens name

-- the program, the class and the file of a name, by their numbers
abbrev pub planned_program : Plan → Word → ℕ
planned_program plan name = number_by_name (λ program. program) plan.links.programs name

-- the number of the class of a name
abbrev pub planned_class : Plan → Word → ℕ
planned_class plan name = number_by_name (λ class. class) plan.links.classes name

-- the number of the file of a name
abbrev pub file_of : Plan → Word → ℕ
file_of plan name = number_by_name (λ file. file.name) plan.links.files name
