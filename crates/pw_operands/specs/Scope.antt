-- What the names of a program may stand for.
use Rattle.std.specs.Prelude.{ℕ, List, [], Bool, true, false, bytes_eq, Option, option_and_then, slice_get}
use Rattle.std.specs.List.{position_from}
use Rattle.pw_words.specs.Words.{Word}
use Rattle.pw_code.specs.declared.field.ScreenTable.{ScreenTable}
use Rattle.pw_code.specs.declared.file.FileInfo.{FileInfo}
use Rattle.pw_code.specs.declared.links.Links.{Links}
use Rattle.pw_data.specs.Layouts.{Laid}
use Rattle.pw_forms.specs.declared.statement.Paragraph.{Paragraph}
use Rattle.pw_forms.specs.declared.statement.Procedure.{Procedure}
use Rattle.pw_operands.specs.declared.variable.Variable.{Variable}
use Rattle.pw_operands.specs.Variables.{variable_of}

-- The parts of a program, and what it may name besides. A server has no screens.
pub record Scope : Type 0 where
  pub server : Bool
  pub layout : Laid
  pub screens : List ScreenTable
  pub paragraphs : List Paragraph
  pub links : Links

-- the scope of a requester with these parts
abbrev pub requester_scope : Laid → List ScreenTable → Procedure → Links → Scope
requester_scope layout screens procedure links =
    record {
      server = false;
      layout = layout;
      screens = screens;
      paragraphs = procedure.paragraphs;
      links = links;
    }

-- the scope of a server with these parts
abbrev pub server_scope : Laid → Procedure → Links → Scope
server_scope layout procedure links =
    record {
      server = true;
      layout = layout;
      screens = [];
      paragraphs = procedure.paragraphs;
      links = links;
    }

-- the item or register of a name
abbrev pub variable_in : Scope → Word → Option Variable
variable_in scope name = variable_of scope.server scope.layout name

-- the number of the first of some things that has a name, from 0
abbrev pub first_named_number : {A : Type 0} → (A → Word) → List A → Word → Option ℕ
first_named_number name_of things name = position_from (λ thing. bytes_eq (name_of thing) name) 0 things

-- the number of the paragraph of a name
abbrev pub paragraph_of : Scope → Word → Option ℕ
paragraph_of scope name = first_named_number (λ paragraph. paragraph.name) scope.paragraphs name

-- the number of the screen of a name
abbrev pub screen_of : Scope → Word → Option ℕ
screen_of scope name = first_named_number (λ screen. screen.name) scope.screens name

-- the number of the program of a name
abbrev pub program_of : Scope → Word → Option ℕ
program_of scope name = first_named_number (λ program. program) scope.links.programs name

-- the number of the class of a name
abbrev pub class_of : Scope → Word → Option ℕ
class_of scope name = first_named_number (λ class. class) scope.links.classes name

-- the number of the file of a name
abbrev pub file_number_of : Scope → Word → Option ℕ
file_number_of scope name = first_named_number (λ file. file.name) scope.links.files name

-- the file of a name
abbrev pub file_of : Scope → Word → Option FileInfo
file_of scope name = option_and_then (slice_get scope.links.files) (file_number_of scope name)
