-- The code of a program.
use Rattle.std.specs.Prelude.{ℕ, List, map, Option, Some, None}
use Rattle.pw_words.specs.Words.{Word}
use Rattle.pw_data.specs.Layouts.{Laid, place_of}
use Rattle.pw_data.specs.declared.item.Place.{Place}
use Rattle.pw_forms.specs.declared.statement.Paragraph.{Paragraph}
use Rattle.pw_code.specs.declared.code.Code.{Code}
use Rattle.pw_code.specs.declared.field.ScreenTable.{ScreenTable}
use Rattle.pw_code.specs.declared.links.Links.{Links}
use Rattle.pw_compile.specs.Emitted.{procedure_code}
use Rattle.pw_compile.specs.Plan.{plan_of}

-- where an item of USING lies, and its size
abbrev pub linked_by : Option Place → ℕ × ℕ
linked_by None = (0, 0)
linked_by (Some place) = (place.at, place.size)

-- the items of USING
abbrev pub linkage_of : Laid → List Word → List (ℕ × ℕ)
linkage_of layout names = map (λ name. linked_by (place_of layout name)) names

-- the code of a program with these parts
abbrev pub program_code : Word → Laid → List ScreenTable → List Word → List Paragraph → ℕ → Links → Code
program_code name layout screens using paragraphs first links = record {
  name = name;
  instrs = procedure_code (plan_of layout screens paragraphs first links) 0 paragraphs;
  storage = layout.storage;
  linkage = linkage_of layout using;
}
