-- A server, or its first fault.
use Rattle.std.specs.Prelude.{ℕ, List, true, Result, Ok}
use Rattle.pw_base.specs.Steps.{◌>>=◌}
use Rattle.pw_base.specs.declared.fault.Fault.{Fault}
use Rattle.pw_words.specs.Words.{Word}
use Rattle.pw_text.specs.Tokens.{tokens_of}
use Rattle.pw_data.specs.Layouts.{layout_of}
use Rattle.pw_forms.specs.Procedures.{procedure_of}
use Rattle.pw_divisions.specs.Divisions.{divisions_of}
use Rattle.pw_server.specs.declared.server.Server.{Server}

-- The server of this name that a text is, whose first line has a number, or its first fault: that of its tokens, of its
-- divisions, of its data, or of its procedure, the first of these passes that has one.
abbrev pub server_of : Word → List ℕ → ℕ → Result Server Fault
server_of name text first_line = do
  tokens ← tokens_of text first_line
  divided ← divisions_of true name text tokens first_line
  layout ← layout_of text divided.stored true
  procedure ← procedure_of true text divided.procedure
  Ok (record { name = name; layout = layout; procedure = procedure })
