-- A requester, or its first fault.
use Rattle.std.specs.Prelude.{ℕ, List, map, false, Result, Ok}
use Rattle.pw_base.specs.Steps.{◌>>=◌}
use Rattle.pw_base.specs.declared.fault.Fault.{Fault}
use Rattle.pw_words.specs.Words.{Word}
use Rattle.pw_text.specs.Tokens.{tokens_of}
use Rattle.pw_data.specs.Layouts.{layout_of}
use Rattle.pw_forms.specs.Procedures.{procedure_of}
use Rattle.pw_divisions.specs.Names.{upper_name}
use Rattle.pw_divisions.specs.Divisions.{divisions_of}
use Rattle.pw_screen.specs.Screens.{screens_of}
use Rattle.pw_scobol.specs.declared.requester.Requester.{Requester}

-- The requester of this name that a text is, whose first line has a number, or its first fault: that of its tokens, of
-- its divisions, of its data, of its screens, or of its procedure, the first of these passes that has one. The names of
-- USING are in upper case.
abbrev pub requester_of : Word → List ℕ → ℕ → Result Requester Fault
requester_of name text first_line = do
  tokens ← tokens_of text first_line
  divided ← divisions_of false name text tokens first_line
  layout ← layout_of text divided.stored false
  screens ← screens_of text divided.screens layout
  procedure ← procedure_of false text divided.procedure
  Ok (record {
    name = name;
    layout = layout;
    screens = screens;
    using = map (upper_name text) divided.using_names;
    procedure = procedure;
  })
